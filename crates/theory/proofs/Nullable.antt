-- The names that can be empty are those that have a layout of size 0. Assumes nothing.
use Rattle.std.proofs.Common.{◌≡◌, ℕ, Bool, true, false, List, [], ◌∷◌, sym, refl, ◌∙◌, inl, arith}
use Rattle.std.proofs.lemmas.Bool.{true≢false, and_parts, eqb-true}
use Rattle.theory.specs.Orders.{upward}
use Rattle.theory.specs.Lists.{Among}
use Rattle.theory.specs.Families.{Item, name, literal, Family, alternative}
use Rattle.theory.specs.Layouts.{Forest, end, Layout, plain, chosen, join, ForestOf, LayoutOf}
use Rattle.theory.specs.Sequence.{layouts, ListsLayouts}
use Rattle.theory.specs.Nullable.{item_empty, all_empty, Closed, Adopted, NullableOne, NullableHasEmptyLayout}
use Rattle.theory.proofs.Orders.{upward-splits}
use Rattle.theory.proofs.Members.{join_valid, join-size}
use Rattle.theory.proofs.Ranks.{sort}
use Rattle.theory.proofs.Sequence.{sequence_lists_layouts}
use Rattle.theory.proofs.Depth.{empty}

-- a set of names that have such layouts
module _ (F : Family) (P : ℕ → Bool) (has : (y : ℕ) → P y ≡ true → (l : Layout) × LayoutOf F (name y) 0 l) where
  item_has : (i : Item) → item_empty P i ≡ true → (l : Layout) × LayoutOf F i 0 l
  item_has (literal x s c) h = (plain, record { valid = tt; sized = eqb-true s 0 h })
  item_has (name y) h = has y h

  pub tail_has : (is : List Item) → all_empty P is ≡ true → (t : Forest) × ForestOf F is 0 t
  tail_has [] h = (end, record { valid = tt; sized = refl })
  tail_has (i ∷ is) h =
      let q = and_parts (item_empty P i) (all_empty P is) h in
      let f = item_has i q.0 in
      let g = tail_has is q.1 in
      let a = f.1.sized in
      let b = g.1.sized in
      (join f.0 g.0, record { valid = join_valid F i is f.0 g.0 f.1.valid g.1.valid; sized = join-size F i is f.0 g.0 ∙ omega arith })

-- whether a list has an element
some : {A : Type 0} → List A → Bool
some [] = false
some (x ∷ xs) = true

some_first : {A : Type 0} (xs : List A) → some xs ≡ true → (x : A) × Among x xs
unfolding some
some_first [] h = absurd (true≢false (sym h))
some_first (x ∷ xs) h = (x, inl refl)

among_some : {A : Type 0} (x : A) (xs : List A) → Among x xs → some xs ≡ true
unfolding some
among_some x [] h = absurd h
among_some x (z ∷ xs) h = refl

module _ (F : Family) (nul : ℕ → Bool) (adopted : Adopted F nul) where
  lists : (y : ℕ) → ListsLayouts F (name y) 0 (layouts upward F y 0)
  lists y = sequence_lists_layouts upward upward-splits F nul adopted y 0

  -- the names that have a layout of size 0
  laid : ℕ → Bool
  laid y = some (layouts upward F y 0)

  laid_has : (y : ℕ) → laid y ≡ true → (l : Layout) × LayoutOf F (name y) 0 l
  unfolding laid
  laid_has y h = let t = some_first (layouts upward F y 0) h in (t.0, (lists y).sound t.0 t.1)

  laid_closed : Closed F laid
  unfolding laid
  laid_closed y a h e =
      let t = tail_has F laid laid_has (alternative F y a) e in
      among_some (chosen a t.0) (layouts upward F y 0) ((lists y).complete (chosen a t.0) (record { valid = (h, t.1.valid); sized = t.1.sized }))

  layout_empty : (y : ℕ) (l : Layout) → LayoutOf F (name y) 0 l → nul y ≡ true
  layout_empty y plain f = absurd f.valid
  layout_empty y (chosen a u) f =
      adopted.nullable.closed y a f.valid.0 (empty F nul (sort F nul adopted) (alternative F y a) u f.valid.1 f.sized)

pub nullable_has_empty_layout : NullableHasEmptyLayout
nullable_has_empty_layout F nul adopted y h = record {
  has = λ e. laid_has F nul adopted y (adopted.nullable.least (laid F nul adopted) (laid_closed F nul adopted) y h e);
  is = layout_empty F nul adopted y;
}

both_same : (a b : Bool) → (a ≡ true → b ≡ true) → (b ≡ true → a ≡ true) → a ≡ b
both_same true b to back = sym (to refl)
both_same false true to back = back refl
both_same false false to back = refl

pub nullable_one : NullableOne
nullable_one F nul lun a b y h = both_same (nul y) (lun y) (a.least lun b.closed y h) (b.least nul a.closed y h)
