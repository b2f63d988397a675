-- The sequence of the layouts of a name and size. Assumes nothing.
use Rattle.std.specs.Prelude.{◌≡◌, ℕ, zero, suc, ◌-◌, ◌*◌, ◌≤◌, Bool, cond, List, [], ◌∷◌, map, length, ◌==◌}
use Rattle.std.specs.List.{flat_map}
use Rattle.theory.specs.Lists.{Among, Distinct, below}
use Rattle.theory.specs.Orders.{Splits}
use Rattle.theory.specs.Families.{Item, name, literal, Family, alternatives, alternative}
use Rattle.theory.specs.Layouts.{Forest, end, Layout, plain, chosen, join, ForestOf, LayoutOf, depth}
use Rattle.theory.specs.Nullable.{Adopted}

-- each layout of an item, in order, before each forest of the rest, in order
abbrev pub pairs : List Layout → List Forest → List Forest
pairs ls rs = flat_map (λ l. map (join l) rs) ls

-- Over splits `S`, and lists `L y k` of the layouts of each name y and size k

-- the layouts of an item of size k
abbrev pub item_layouts : (ℕ → ℕ → List Layout) → Item → ℕ → List Layout
item_layouts L (literal t s c) k = cond (k == s) (plain ∷ []) []
item_layouts L (name y) k = L y k

-- the forests of a tail of size n: split after split, the item at k and the rest at n - k
abbrev pub forests : (ℕ → List ℕ) → (ℕ → ℕ → List Layout) → List Item → ℕ → List Forest
forests S L [] n = cond (n == 0) (end ∷ []) []
forests S L (i ∷ is) n = flat_map (λ k. pairs (item_layouts L i k) (forests S L is (n - k))) (S n)

-- the layouts of the name y of size n: alternative after alternative
abbrev pub name_layouts : (ℕ → List ℕ) → Family → (ℕ → ℕ → List Layout) → ℕ → ℕ → List Layout
name_layouts S F L y n = flat_map (λ a. map (chosen a) (forests S L (alternative F y a) n)) (below (length (alternatives F y)))

-- the layouts of the name y of size n that are at most d deep
unfoldable pub layouts_within : (ℕ → List ℕ) → Family → ℕ → ℕ → ℕ → List Layout
layouts_within S F zero y n = []
layouts_within S F (suc d) y n = name_layouts S F (layouts_within S F d) y n

-- THE SEQUENCE of the layouts of the name y of size n, of which none is deeper than the bound here
unfoldable pub layouts : (ℕ → List ℕ) → Family → ℕ → ℕ → List Layout
layouts S F y n = layouts_within S F (length F * suc n) y n

-- the sequence of the forests of a tail
abbrev pub tail_forests : (ℕ → List ℕ) → Family → List Item → ℕ → List Forest
tail_forests S F is n = forests S (layouts S F) is n

-- The sequence has each layout once and nothing else

pub record ListsLayouts (F : Family) (i : Item) (n : ℕ) (ls : List Layout) : Type 0 where
  pub sound : (l : Layout) → Among l ls → LayoutOf F i n l
  pub complete : (l : Layout) → LayoutOf F i n l → Among l ls
  pub once : Distinct ls

abbrev pub SequenceListsLayouts : Type 0
SequenceListsLayouts =
    (S : ℕ → List ℕ) → Splits S → (F : Family) (nul : ℕ → Bool) → Adopted F nul → (y n : ℕ) → ListsLayouts F (name y) n (layouts S F y n)

-- and so have the sequences of the tails

pub record ListsForests (F : Family) (is : List Item) (n : ℕ) (ts : List Forest) : Type 0 where
  pub sound : (t : Forest) → Among t ts → ForestOf F is n t
  pub complete : (t : Forest) → ForestOf F is n t → Among t ts
  pub once : Distinct ts

abbrev pub TailsListForests : Type 0
TailsListForests =
    (S : ℕ → List ℕ) → Splits S → (F : Family) (nul : ℕ → Bool) → Adopted F nul → (is : List Item) (n : ℕ) → ListsForests F is n (tail_forests S F is n)

-- The sequence meets its own equation, with no bound in sight

abbrev pub SequenceUnfolds : Type 0
SequenceUnfolds =
    (S : ℕ → List ℕ) → Splits S → (F : Family) (nul : ℕ → Bool) → Adopted F nul → (y n : ℕ) → layouts S F y n ≡ name_layouts S F (layouts S F) y n

-- no layout is deeper than the bound
abbrev pub LayoutsShallow : Type 0
LayoutsShallow = (F : Family) (nul : ℕ → Bool) → Adopted F nul → (y n : ℕ) (l : Layout) → LayoutOf F (name y) n l → depth l ≤ length F * suc n
