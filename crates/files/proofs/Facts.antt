-- The fact that a draft keeps, taken out again. Assumes nothing.
use Rattle.std.proofs.Common.{◌≡◌, ℕ, zero, suc, ◌+◌, ◌-◌, ◌<◌, ◌≤◌, Bool, true, false, ◌&&◌, ltb, leb, ◌⊎◌, List, [], ◌∷◌, length, ap, ◌∙◌, inl, inr, ⊎_elim, le_of_suc-le-suc, not-suc-le-zero, eq-or-lt_of_le, arith}
use mathlib.Core.HLevel.{⊥_prop, ¬_prop, Unit-prop, ×_prop}
use mathlib.Core.Logic.{∥∥₁_elim}
use native.Mathlib.Bridge.{le_prop}
use native.Mathlib.Nat.{ℕ_set}
use Rattle.std.proofs.lemmas.Bool.{both_ways, cases_Bool, and_from, and_parts, leb-true, ltb-true, le-leb, lt-ltb}
use Rattle.theory.specs.Lists.{Distinct}
use Rattle.theory.specs.Families.{Item as Symbol, name, literal, Known, alternative}
use Rattle.files.specs.Grammars.{Lists, rule_at}
use Rattle.files.specs.Models.{model, names_in, NamesDiffer, Formed}

known_prop : (m : ℕ) (is : List Symbol) → IsProp (Known m is)
known_prop m [] = Unit-prop
known_prop m (literal t s c ∷ is) = known_prop m is
known_prop m (name y ∷ is) = ×_prop le_prop (known_prop m is)

distinct_prop : (xs : List (List ℕ)) → IsProp (Distinct xs)
distinct_prop [] = Unit-prop
distinct_prop (x ∷ xs) = ×_prop ¬_prop (distinct_prop xs)

-- a number that passes the test, or none
first_of : (p : ℕ → Bool) (n : ℕ) → ((y : ℕ) × (y < n) × (p y ≡ true)) ⊎ ((y : ℕ) → y < n → p y ≡ false)
first_of p zero = inr (λ y h. absurd (not-suc-le-zero h))
first_of p (suc n) = split (first_of p n) (cases_Bool (p n))
  where
    split : ((y : ℕ) × (y < n) × (p y ≡ true)) ⊎ ((y : ℕ) → y < n → p y ≡ false) → (p n ≡ true) ⊎ (p n ≡ false) → ((y : ℕ) × (y < suc n) × (p y ≡ true)) ⊎ ((y : ℕ) → y < suc n → p y ≡ false)
    split (inl t) q = let u = t.1 in inl (t.0, omega arith, t.2)
    split (inr f) (inl q) = inl (n, omega arith, q)
    split (inr f) (inr q) = inr (λ y h. ⊎_elim (λ (e : y ≡ n). ap p e ∙ q) (λ (l : y < n). f y l) (eq-or-lt_of_le (le_of_suc-le-suc h)))

module _ (l : Lists) (told : ∥ Formed l ∥₁) where
  -- the alternative i is one of the rule y
  of : ℕ → ℕ → Bool
  of i y = leb (rule_at l.rules y).first i && ltb i ((rule_at l.rules y).first + (rule_at l.rules y).count)

  Owner : ℕ → Type 0
  Owner i = (y : ℕ) × (a : ℕ) × (y < length l.rules) × (a < (rule_at l.rules y).count) × (i ≡ (rule_at l.rules y).first + a)

  owner : (i : ℕ) → i < length l.alternatives → Owner i
  unfolding of Owner
  owner i h = ⊎_elim
      (λ (t : (y : ℕ) × (y < length l.rules) × (of i y ≡ true)).
      let y = t.0 in
      let q = and_parts (leb (rule_at l.rules y).first i) (ltb i ((rule_at l.rules y).first + (rule_at l.rules y).count)) t.2 in
      let a = leb-true (rule_at l.rules y).first i q.0 in
      let b = ltb-true i ((rule_at l.rules y).first + (rule_at l.rules y).count) q.1 in
      (y, i - (rule_at l.rules y).first, t.1, omega arith, omega arith))
      (λ (none : (y : ℕ) → y < length l.rules → of i y ≡ false).
      absurd (∥∥₁_elim told ⊥_prop (λ f.
      let t = f.owned i h in
      let low : (rule_at l.rules t.0).first ≤ i = omega (arith, t.4) in
      let high : i < (rule_at l.rules t.0).first + (rule_at l.rules t.0).count = omega (arith, t.3, t.4) in
      both_ways (of i t.0) (none t.0 t.2) (and_from _ _ (le-leb _ _ low) (lt-ltb _ _ high)))))
      (first_of (of i) (length l.rules))

  pub formed_out : Formed l
  unfolding Owner
  formed_out = record {
    few_rules = ∥∥₁_elim told le_prop (λ f. f.few_rules);
    few_alternatives = ∥∥₁_elim told le_prop (λ f. f.few_alternatives);
    few_items = ∥∥₁_elim told le_prop (λ f. f.few_items);
    inside = λ y h. ∥∥₁_elim told le_prop (λ f. f.inside y h);
    owned = owner;
    six = λ i h. (∥∥₁_elim told le_prop (λ f. (f.six i h).0), ∥∥₁_elim told (ℕ_set _ _) (λ f. (f.six i h).1));
    numbered = λ y a h k. ∥∥₁_elim told (ℕ_set _ _) (λ f. f.numbered y a h k);
    counted = ∥∥₁_elim told (ℕ_set _ _) (λ f. f.counted);
    defined = λ y a. ∥∥₁_elim told (known_prop (length (model l)) (alternative (model l) y a)) (λ f. f.defined y a);
  }

pub differ_out : (l : Lists) → ∥ NamesDiffer l ∥₁ → NamesDiffer l
differ_out l told = ∥∥₁_elim told (distinct_prop (names_in l)) (λ d. d)
