-- The depth of a layout is bounded by its size and its name's rank. Assumes nothing.
use Rattle.std.proofs.Common.{◌≡◌, ℕ, suc, ◌+◌, ◌*◌, ◌<◌, ◌≤◌, Bool, true, ◌&&◌, eqb, List, [], ◌∷◌, length, refl, ap, ⊎_elim, mul-le-mul_left, mul-suc, arith}
use native.Mathlib.Nat.{max-le}
use Rattle.std.proofs.lemmas.Bool.{cases_lt, and_from, or_left, or_right, eq-eqb}
use Rattle.theory.specs.Families.{Item, name, literal, Family, alternative, Known}
use Rattle.theory.specs.Layouts.{Forest, end, leaf, node, plain, chosen, ForestValid, forest_size, forest_depth}
use Rattle.theory.specs.Sequence.{LayoutsShallow}
use Rattle.theory.specs.Nullable.{item_empty, all_empty, is_name, leads_in}
use Rattle.theory.proofs.Ranks.{Sorted, sort}
use Rattle.theory.proofs.Sequence.{layout-known}

module _ (F : Family) (nul : ℕ → Bool) (sorted : Sorted F nul) where
  -- a forest of size 0 stands along items that can be empty
  pub empty : (is : List Item) (t : Forest) → ForestValid F is t → forest_size F is t ≡ 0 → all_empty nul is ≡ true
  empty [] end v e = refl
  empty [] (leaf r) v e = absurd v
  empty [] (node a u r) v e = absurd v
  empty (literal x s c ∷ is) end v e = absurd v
  empty (literal x s c ∷ is) (leaf r) v e = and_from (eqb s 0) (all_empty nul is) (eq-eqb s 0 (omega arith)) (empty is r v (omega arith))
  empty (literal x s c ∷ is) (node a u r) v e = absurd v
  empty (name y ∷ is) end v e = absurd v
  empty (name y ∷ is) (leaf r) v e = absurd v
  empty (name y ∷ is) (node a u r) v e =
      and_from (nul y) (all_empty nul is) (sorted.closed y a v.0 (empty (alternative F y a) u v.1 (omega arith))) (empty is r v.2 (omega arith))

  room : (k n z b : ℕ) → z < length F → k < n → length F * n ≤ b → length F * k + suc (sorted.rank z) ≤ b
  room k n z b h l w =
      let a : length F * suc k ≤ length F * n = mul-le-mul_left (length F) l in
      let c = mul-suc (length F) k in
      let d = sorted.low z h in
      omega arith

  less : (k n b x : ℕ) → k ≤ n → length F * n + x ≤ b → length F * k + x ≤ b
  less k n b x l w = let a : length F * k ≤ length F * n = mul-le-mul_left (length F) l in omega arith

  -- what holds of a forest holds of its rest
  rest : (i : Item) (is : List Item) (k l b : ℕ) → (k ≡ 0 → item_empty nul i ≡ true) → length F * (k + l) ≤ b →
      ((z : ℕ) → z < length F → leads_in nul z (i ∷ is) ≡ true → length F * (k + l) + suc (sorted.rank z) ≤ b) →
      (z : ℕ) → z < length F → leads_in nul z is ≡ true → length F * l + suc (sorted.rank z) ≤ b
  rest i is k l b e w here z h q =
      ⊎_elim
      (λ (p : 0 < k). room l (k + l) z b h (omega arith) w)
      (λ (p : k ≤ 0). less l (k + l) b (suc (sorted.rank z)) (omega arith) (here z h (or_right (is_name z i && all_empty nul is) (item_empty nul i && leads_in nul z is) (and_from (item_empty nul i) (leads_in nul z is) (e (omega arith)) q))))
      (cases_lt 0 k)

  first : (y : ℕ) (is : List Item) (k l b : ℕ) → y < length F → (l ≡ 0 → all_empty nul is ≡ true) → length F * (k + l) ≤ b →
      ((z : ℕ) → z < length F → leads_in nul z (name y ∷ is) ≡ true → length F * (k + l) + suc (sorted.rank z) ≤ b) → length F * k + suc (sorted.rank y) ≤ b
  first y is k l b h e w here =
      ⊎_elim
      (λ (p : 0 < l). room k (k + l) y b h (omega arith) w)
      (λ (p : l ≤ 0). less k (k + l) b (suc (sorted.rank y)) (omega arith) (here y h (or_left (eqb y y && all_empty nul is) (nul y && leads_in nul y is) (and_from (eqb y y) (all_empty nul is) (eq-eqb y y refl) (e (omega arith))))))
      (cases_lt 0 l)

  down : (k l b : ℕ) → length F * (k + l) ≤ b → length F * l ≤ b
  down k l b w = let a : length F * l ≤ length F * (k + l) = mul-le-mul_left (length F) (omega arith) in omega arith

  deep : (is : List Item) (t : Forest) (b : ℕ) → Known (length F) is → ForestValid F is t → length F * forest_size F is t ≤ b →
      ((z : ℕ) → z < length F → leads_in nul z is ≡ true → length F * forest_size F is t + suc (sorted.rank z) ≤ b) → forest_depth t ≤ b
  deep [] end b known v w here = omega arith
  deep [] (leaf r) b known v w here = absurd v
  deep [] (node a u r) b known v w here = absurd v
  deep (literal x s c ∷ is) end b known v w here = absurd v
  deep (literal x s c ∷ is) (leaf r) b known v w here =
      deep is r b known v (down s (forest_size F is r) b w) (rest (literal x s c) is s (forest_size F is r) b (λ e. eq-eqb s 0 e) w here)
  deep (literal x s c ∷ is) (node a u r) b known v w here = absurd v
  deep (name y ∷ is) end b known v w here = absurd v
  deep (name y ∷ is) (leaf r) b known v w here = absurd v
  deep (name y ∷ is) (node a u r) b known v w here =
      let k = forest_size F (alternative F y a) u in
      let l = forest_size F is r in
      let inside : forest_depth u ≤ length F * k + sorted.rank y =
      deep (alternative F y a) u (length F * k + sorted.rank y) (sorted.defined y a) v.1 (omega arith) (λ z h q. omega (arith, sorted.falls y z a v.0 q)) in
      let front = first y is k l b known.0 (λ e. empty is r v.2 e) w here in
      let back = deep is r b known.1 v.2 (down k l b w) (rest (name y) is k l b (λ e. sorted.closed y a v.0 (empty (alternative F y a) u v.1 e)) w here) in
      max-le (omega arith) back

pub layouts_shallow : LayoutsShallow
layouts_shallow F nul adopted y n plain f = absurd f.valid
layouts_shallow F nul adopted y n (chosen a u) f =
    let sorted = sort F nul adopted in
    let k = forest_size F (alternative F y a) u in
    let inside : forest_depth u ≤ length F * k + sorted.rank y =
    deep F nul sorted (alternative F y a) u (length F * k + sorted.rank y) (sorted.defined y a) f.valid.1 (omega arith) (λ z g q. omega (arith, sorted.falls y z a f.valid.0 q)) in
    let b = mul-suc (length F) n in
    let c = sorted.low y (layout-known F y n (chosen a u) f) in
    let d : length F * k ≡ length F * n = ap (λ x. length F * x) f.sized in
    omega arith
