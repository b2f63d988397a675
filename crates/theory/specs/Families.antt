-- Families of layouts: names, their alternatives, and the items of these. Assumes nothing.
use Rattle.std.specs.Prelude.{◌≡◌, ℕ, ◌+◌, ◌<◌, List, [], ◌∷◌, length, take, drop, slice_index_or}
use Rattle.std.specs.List.{flat_map}

-- a name, by its number, or a literal: its text, its size and its cost
pub data Item : Type 0 where
  name : ℕ → Item
  literal : List ℕ → ℕ → ℕ → Item

-- for each name its alternatives, and each alternative's items
abbrev pub Family : Type 0
Family = List (List (List Item))

-- the alternatives of the name y
abbrev pub alternatives : Family → ℕ → List (List Item)
alternatives F y = slice_index_or F y []

-- the items of the alternative a of the name y
abbrev pub alternative : Family → ℕ → ℕ → List Item
alternative F y a = slice_index_or (alternatives F y) a []

-- every name among the items is below m
abbrev pub Known : ℕ → List Item → Type 0
Known m [] = Unit
Known m (literal t s c ∷ is) = Known m is
Known m (name y ∷ is) = (y < m) × Known m is

-- every name that the family uses is one of its own
abbrev pub Defined : Family → Type 0
Defined F = (y a : ℕ) → Known (length F) (alternative F y a)

-- The items are numbered from 0 through the whole family: by names, by alternatives, and from left to right.

-- the tails of an alternative, each from one of its items to the end
abbrev pub tails : List Item → List (List Item)
tails [] = []
tails (i ∷ is) = (i ∷ is) ∷ tails is

-- the tails of all items, in the order of the items' numbers
abbrev pub all_tails : Family → List (List Item)
all_tails F = flat_map (flat_map tails) F

-- how many items the family has
abbrev pub item_count : Family → ℕ
item_count F = length (all_tails F)

-- the tail that begins with the item j
abbrev pub tail_at : Family → ℕ → List Item
tail_at F j = slice_index_or (all_tails F) j []

-- how many items the alternatives have
abbrev pub items_in : List (List Item) → ℕ
items_in [] = 0
items_in (is ∷ alts) = length is + items_in alts

-- how many items the names have
abbrev pub items_under : Family → ℕ
items_under [] = 0
items_under (alts ∷ F) = items_in alts + items_under F

-- the number of the first item of the alternative a of the name y: all items of earlier names and of earlier alternatives come before it
abbrev pub first_item : Family → ℕ → ℕ → ℕ
first_item F y a = items_under (take y F) + items_in (take a (alternatives F y))

-- the item at the place p of the alternative a of the name y has the number j
pub record ItemAt (F : Family) (y a p j : ℕ) : Type 0 where
  pub is : j ≡ first_item F y a + p
  pub within : j < item_count F
  pub tail : tail_at F j ≡ drop p (alternative F y a)

pub record ItemsNumbered (F : Family) : Type 0 where
  pub count : item_count F ≡ items_under F
  pub number : (y a p : ℕ) → p < length (alternative F y a) → ItemAt F y a p (first_item F y a + p)
  pub place : (j : ℕ) → j < item_count F → (y : ℕ) × (a : ℕ) × (p : ℕ) × (y < length F) × (a < length (alternatives F y)) × (p < length (alternative F y a)) × ItemAt F y a p j

-- each item has its number, and each number its item
abbrev pub ItemsAreNumbered : Type 0
ItemsAreNumbered = (F : Family) → ItemsNumbered F
