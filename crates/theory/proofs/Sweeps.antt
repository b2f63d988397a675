-- Sweeps find the least closed set: each adds a name until none is left to add. Assumes nothing.
use Rattle.std.proofs.Common.{◌≡◌, ℕ, zero, suc, ◌<◌, ◌≤◌, Bool, true, false, ◌⊎◌, List, [], ◌∷◌, length, sym, refl, ap, ◌∙◌, inl, inr, ⊎_elim, le_of_suc-le-suc, not-suc-le-zero, eq-or-lt_of_le, arith}
use Rattle.std.proofs.lemmas.Bool.{true≢false, cases_Bool, and_from, and_parts, or_cases, or_left, or_right}
use Rattle.theory.specs.Lists.{any, below}
use Rattle.theory.specs.Families.{Item, name, literal, Family, alternatives, alternative}
use Rattle.theory.specs.Nullable.{item_empty, all_empty, Closed, Nullable, swept, nullable_set, SweepsFindNullable}
use Rattle.theory.proofs.Lists.{among_count, length-count}
use Rattle.theory.proofs.Items.{some_name}
use Rattle.theory.proofs.Ranks.{tally, tally_le, tally_lt, tally_all, any_at, at_any}

module _ (P Q : ℕ → Bool) (sub : (y : ℕ) → P y ≡ true → Q y ≡ true) where
  item_mono : (i : Item) → item_empty P i ≡ true → item_empty Q i ≡ true
  item_mono (literal x s c) h = h
  item_mono (name y) h = sub y h

  pub all_mono : (is : List Item) → all_empty P is ≡ true → all_empty Q is ≡ true
  all_mono [] h = h
  all_mono (i ∷ is) h = let t = and_parts (item_empty P i) (all_empty P is) h in and_from (item_empty Q i) (all_empty Q is) (item_mono i t.0) (all_mono is t.1)

  any_mono : (alts : List (List Item)) → any (all_empty P) alts ≡ true → any (all_empty Q) alts ≡ true
  any_mono [] h = h
  any_mono (is ∷ alts) h =
      ⊎_elim
      (λ (q : all_empty P is ≡ true). or_left (all_empty Q is) (any (all_empty Q) alts) (all_mono is q))
      (λ (q : any (all_empty P) alts ≡ true). or_right (all_empty Q is) (any (all_empty Q) alts) (any_mono alts q))
      (or_cases (all_empty P is) (any (all_empty P) alts) h)

-- Q has no more names below m than P, or there is one
more_or_not : (P Q : ℕ → Bool) (m : ℕ) → ((y : ℕ) → y < m → Q y ≡ true → P y ≡ true) ⊎ ((y : ℕ) × (y < m) × (Q y ≡ true) × (P y ≡ false))
more_or_not P Q zero = inl (λ y h e. absurd (not-suc-le-zero h))
more_or_not P Q (suc m) = split (more_or_not P Q m) (cases_Bool (Q m)) (cases_Bool (P m))
  where
    split : ((y : ℕ) → y < m → Q y ≡ true → P y ≡ true) ⊎ ((y : ℕ) × (y < m) × (Q y ≡ true) × (P y ≡ false)) → (Q m ≡ true) ⊎ (Q m ≡ false) → (P m ≡ true) ⊎ (P m ≡ false) →
        ((y : ℕ) → y < suc m → Q y ≡ true → P y ≡ true) ⊎ ((y : ℕ) × (y < suc m) × (Q y ≡ true) × (P y ≡ false))
    split (inr t) q p = let u = t.1 in inr (t.0, omega arith, t.2, t.3)
    split (inl f) (inl q) (inr p) = inr (m, omega arith, q, p)
    split (inl f) (inl q) (inl p) = inl (λ y h e. ⊎_elim (λ (l : y ≡ m). ap P l ∙ p) (λ (l : y < m). f y l e) (eq-or-lt_of_le (le_of_suc-le-suc h)))
    split (inl f) (inr q) p = inl (λ y h e. ⊎_elim (λ (l : y ≡ m). absurd (true≢false (sym e ∙ ap Q l ∙ q))) (λ (l : y < m). f y l e) (eq-or-lt_of_le (le_of_suc-le-suc h)))

module _ (F : Family) where
  swept-known : (k y : ℕ) → swept F k y ≡ true → y < length F
  swept-known zero y h = absurd (true≢false (sym h))
  swept-known (suc k) y h = let t = at_any (all_empty (swept F k)) (alternatives F y) [] h in some_name F y t.0 t.1

  swept_up : (k y : ℕ) → swept F k y ≡ true → swept F (suc k) y ≡ true
  swept_up zero y h = absurd (true≢false (sym h))
  swept_up (suc k) y h = any_mono (swept F k) (swept F (suc k)) (swept_up k) (alternatives F y) h

  Stable : ℕ → Type 0
  Stable k = (y : ℕ) → swept F (suc k) y ≡ true → swept F k y ≡ true

  stable_up : (k : ℕ) → Stable k → Stable (suc k)
  unfolding Stable
  stable_up k s y h = any_mono (swept F (suc k)) (swept F k) s (alternatives F y) h

  marked : ℕ → ℕ
  marked k = tally (swept F k) (below (length F))

  -- a sweep adds a name, or adds none
  grows_or_not : (k : ℕ) → Stable k ⊎ (marked k < marked (suc k))
  unfolding Stable marked
  grows_or_not k =
      ⊎_elim
      (λ (f : (y : ℕ) → y < length F → swept F (suc k) y ≡ true → swept F k y ≡ true). inl (λ y h. f y (swept-known (suc k) y h) h))
      (λ (t : (y : ℕ) × (y < length F) × (swept F (suc k) y ≡ true) × (swept F k y ≡ false)).
      let u = t.1 in
      inr (tally_lt (swept F k) (swept F (suc k)) t.0 (below (length F)) (swept_up k) (among_count 0 (length F) t.0 (omega arith) (omega arith)) t.3 t.2))
      (more_or_not (swept F k) (swept F (suc k)) (length F))

  grown : (k : ℕ) → Stable k ⊎ (k < marked (suc k))
  grown zero = ⊎_elim (λ (s : Stable 0). inl s) (λ (g : marked 0 < marked 1). inr (omega arith)) (grows_or_not 0)
  grown (suc k) =
      ⊎_elim
      (λ (s : Stable k). inl (stable_up k s))
      (λ (l : k < marked (suc k)). ⊎_elim (λ (s : Stable (suc k)). inl s) (λ (g : marked (suc k) < marked (suc (suc k))). inr (omega arith)) (grows_or_not (suc k)))
      (grown k)

  marked_low : (k : ℕ) → marked k ≤ length F
  unfolding marked
  marked_low k = omega (arith, tally_le (swept F k) (λ x. true) (below (length F)) (λ x e. refl), tally_all (below (length F)), length-count 0 (length F))

  settled : Stable (length F)
  settled = ⊎_elim (λ (s : Stable (length F)). s) (λ (l : length F < marked (suc (length F))). absurd (omega (arith, marked_low (suc (length F))))) (grown (length F))

  swept_least : (P : ℕ → Bool) → Closed F P → (k y : ℕ) → swept F k y ≡ true → P y ≡ true
  swept_least P closed zero y h = absurd (true≢false (sym h))
  swept_least P closed (suc k) y h =
      let t = at_any (all_empty (swept F k)) (alternatives F y) [] h in
      closed y t.0 t.1 (all_mono (swept F k) P (swept_least P closed k) (alternative F y t.0) t.2)

  found : Nullable F (nullable_set F)
  unfolding Stable
  found = record {
    closed = λ y a h e. settled y (any_at (all_empty (swept F (length F))) (alternatives F y) [] a h e);
    least = λ P closed y h e. swept_least P closed (length F) y e;
  }

pub sweeps_find_nullable : SweepsFindNullable
sweeps_find_nullable F = found F
