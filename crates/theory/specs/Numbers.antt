-- Numbers of layouts: their places in the sequence. Assumes nothing.
use Rattle.std.specs.Prelude.{◌≡◌, ℕ, suc, ◌*◌, ◌/◌, ◌%◌, ◌<◌, Bool, true, false, cond, ◌&&◌, List, [], ◌∷◌, map, length, ◌==◌, slice_index_or}
use Rattle.theory.specs.Orders.{Splits}
use Rattle.theory.specs.Families.{name, Family}
use Rattle.theory.specs.Layouts.{Forest, end, Layout, plain, join, LayoutOf, choices}
use Rattle.theory.specs.Nullable.{Adopted}
use Rattle.theory.specs.Sequence.{pairs, layouts}

-- the layout of the name y and size n with the number x
abbrev pub layout : (ℕ → List ℕ) → Family → ℕ → ℕ → ℕ → Layout
layout S F y n x = slice_index_or (layouts S F y n) x plain

-- the choice lists of the layouts, in their sequence
abbrev pub choice_lists : (ℕ → List ℕ) → Family → ℕ → ℕ → List (List ℕ)
choice_lists S F y n = map choices (layouts S F y n)

abbrev pub same_list : List ℕ → List ℕ → Bool
same_list [] [] = true
same_list [] (b ∷ bs) = false
same_list (a ∷ as') [] = false
same_list (a ∷ as') (b ∷ bs) = a == b && same_list as' bs

-- the first place of a choice list among others
abbrev pub place_of : List ℕ → List (List ℕ) → ℕ
place_of cs [] = 0
place_of cs (xs ∷ xss) = cond (same_list cs xs) 0 (suc (place_of cs xss))

-- the number of the layout of the name y and size n that has the choice list cs
abbrev pub number_of : (ℕ → List ℕ) → Family → ℕ → ℕ → List ℕ → ℕ
number_of S F y n cs = place_of cs (choice_lists S F y n)

-- each number below the count has one layout, and each layout one number
pub record Numbering (S : ℕ → List ℕ) (F : Family) (y n : ℕ) : Type 0 where
  pub fits : (x : ℕ) → x < length (layouts S F y n) → LayoutOf F (name y) n (layout S F y n x)
  pub once : (x z : ℕ) → x < length (layouts S F y n) → z < length (layouts S F y n) → layout S F y n x ≡ layout S F y n z → x ≡ z
  pub has : (l : Layout) → LayoutOf F (name y) n l → (x : ℕ) × (x < length (layouts S F y n)) × (layout S F y n x ≡ l)
  -- the choice list of the layout with the number x has the number x
  pub back : (x : ℕ) → x < length (layouts S F y n) → number_of S F y n (choices (layout S F y n x)) ≡ x
  -- the number of a layout's choice list is that layout's
  pub again : (l : Layout) → LayoutOf F (name y) n l → layout S F y n (number_of S F y n (choices l)) ≡ l

abbrev pub LayoutsNumbered : Type 0
LayoutsNumbered = (S : ℕ → List ℕ) → Splits S → (F : Family) (nul : ℕ → Bool) → Adopted F nul → (y n : ℕ) → Numbering S F y n

-- a number within a split is a pair: the quotient by the rest's count is the item's number, the remainder the rest's
abbrev pub PairsNumbered : Type 0
PairsNumbered =
    (ls : List Layout) (rs : List Forest) (x : ℕ) → x < length ls * length rs →
    slice_index_or (pairs ls rs) x end ≡ join (slice_index_or ls (x / length rs) plain) (slice_index_or rs (x % length rs) end)
