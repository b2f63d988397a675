-- Empty cycles and ranks, by what the flags of the chains show. Assumes nothing.
use Rattle.std.proofs.Common.{◌≡◌, ℕ, zero, suc, ◌+◌, ◌<◌, ◌≤◌, Bool, true, false, cond, List, [], ◌∷◌, length, get_or, count_by, sym, refl, ap, ◌∙◌, subst, ⊎_elim, not-suc-le-zero, le_of_suc-le-suc, arith}
use Rattle.std.specs.List.{range_with_len}
use Rattle.std.proofs.lemmas.Bool.{true≢false, both_ways, cases_Bool}
use Rattle.std.proofs.lemmas.List.FromFn.{length-range_with_len, get_or-range_with_len}
use Rattle.std.proofs.lemmas.List.Sums.{sum_by-cons, sum_by-le-sum_by, count_by-le-length}
use Rattle.theory.specs.Families.{Family as Rules}
use Rattle.theory.specs.Nullable.{nullable_set, Chain, last, step, Adopted, reaches, FindsChains}
use Rattle.theory.proofs.Ranks.{step_known, leads-known, chain_known, closure_adopts, closure_finds_chains}
use Rattle.theory.proofs.Sweeps.{sweeps_find_nullable}
use Rattle.files.specs.Grammars.{lists_of}
use Rattle.files.specs.Models.{Formed}
use Rattle.files.specs.declared.draft.Draft.{Draft}
use Rattle.files.proofs.Facts.{formed_out}
use Rattle.files.proofs.Places.{names_are}
use Rattle.families.specs.Sound.{marked, RankedBy, Sound}
use Rattle.families.specs.Reaches.{pair, rules_of, Shows}
use Rattle.families.specs.Adopts.{Cyclic}

-- Counting

bit_le : (a b : Bool) → (a ≡ true → b ≡ true) → cond a 1 0 ≤ cond b 1 0
bit_le true true h = omega arith
bit_le true false h = absurd (true≢false (sym (h refl)))
bit_le false true h = omega arith
bit_le false false h = omega arith

one_more : (p : ℕ → Bool) (x : ℕ) (xs : List ℕ) → count_by p (x ∷ xs) ≡ cond (p x) 1 0 + count_by p xs
one_more p x xs = sum_by-cons (λ z. cond (p z) 1 0) x xs

module _ (p q : ℕ → Bool) (more : (z : ℕ) → p z ≡ true → q z ≡ true) where
  count_le : (xs : List ℕ) → count_by p xs ≤ count_by q xs
  count_le xs = sum_by-le-sum_by (λ z. cond (p z) 1 0) (λ z. cond (q z) 1 0) xs (λ z. bit_le (p z) (q z) (more z))

  count_lt : (xs : List ℕ) (i d : ℕ) → i < length xs → p (get_or xs i d) ≡ false → q (get_or xs i d) ≡ true → count_by p xs < count_by q xs
  count_lt [] i d l a b = absurd (not-suc-le-zero l)
  count_lt (x ∷ xs) zero d l a b =
      let c : cond {A = ℕ} (p x) 1 0 ≡ 0 = ap (λ v. cond v 1 0) a in
      let e : cond {A = ℕ} (q x) 1 0 ≡ 1 = ap (λ v. cond v 1 0) b in
      omega (arith, one_more p x xs, one_more q x xs, count_le xs)
  count_lt (x ∷ xs) (suc i) d l a b = omega (arith, one_more p x xs, one_more q x xs, bit_le (p x) (q x) (more x), count_lt xs i d (le_of_suc-le-suc l) a b)

  count_below : (n x : ℕ) → x < n → p x ≡ false → q x ≡ true → count_by p (range_with_len 0 n) < count_by q (range_with_len 0 n)
  count_below n x l a b =
      let at : x ≡ get_or (range_with_len 0 n) x 0 = omega (arith, get_or-range_with_len 0 n x 0 l) in
      count_lt (range_with_len 0 n) x 0 (omega (arith, length-range_with_len 0 n)) (ap p (sym at) ∙ a) (ap q (sym at) ∙ b)

count_same : (p q : ℕ → Bool) (i n : ℕ) → ((z : ℕ) → z < i + n → p z ≡ q z) → count_by p (range_with_len i n) ≡ count_by q (range_with_len i n)
count_same p q i zero h = refl
count_same p q i (suc n) h =
    let e : cond {A = ℕ} (p i) 1 0 ≡ cond (q i) 1 0 = ap (λ b. cond b 1 0) (h i (omega arith)) in
    omega (arith, one_more p i (range_with_len (i + 1) n), one_more q i (range_with_len (i + 1) n), count_same p q (i + 1) n (λ z l. h z (omega arith)))

-- how many names a name reaches falls along every step
module _ (F : Rules) (nul : ℕ → Bool) (adopted : Adopted F nul) where
  finds : (x y : ℕ) → Chain F nul x y → reaches F nul x y ≡ true
  finds x y c = (closure_finds_chains F nul adopted.defined x y).finds c

  not_round : (x : ℕ) → reaches F nul x x ≡ false
  not_round x = ⊎_elim
      (λ (t : reaches F nul x x ≡ true). absurd (adopted.acyclic x ((closure_finds_chains F nul adopted.defined x x).found t)))
      (λ (t : reaches F nul x x ≡ false). t)
      (cases_Bool (reaches F nul x x))

  ranked : (rank : ℕ → ℕ) → ((y : ℕ) → y < length F → rank y ≡ count_by (reaches F nul y) (range_with_len 0 (length F))) → RankedBy F nul rank
  ranked rank is = record {
    low = λ y h. omega (arith, is y h, count_below (reaches F nul y) (λ z. true) (λ z e. refl) (length F) y h (not_round y) refl, count_by-le-length (λ z. true) (range_with_len 0 (length F)), length-range_with_len 0 (length F));
    falls = λ x y e.
        let a = leads-known F nul x y e in
        let b = step_known F nul adopted.defined x y e in
        let more : (z : ℕ) → reaches F nul y z ≡ true → reaches F nul x z ≡ true = λ z t. finds x z (step y e ((closure_finds_chains F nul adopted.defined y z).found t)) in
        omega (arith, is x a, is y b, count_below (reaches F nul y) (reaches F nul x) more (length F) y b (not_round y) (finds x y (last e)));
  }

-- What adopting finds in a draft, of which e is a copy

module _ (d e : Draft) (copied : e ≡ d) (nullable : List Bool) (rows : List (List Bool)) (found : (y : ℕ) → marked nullable y ≡ nullable_set (rules_of d) y) (shows : Shows rows (reaches (rules_of e) (marked nullable))) where
  F : Rules
  F = rules_of d

  nul : ℕ → Bool
  nul = nullable_set (rules_of d)

  formed : Formed (lists_of d.grammar)
  formed = formed_out (lists_of d.grammar) d.formed

  same : marked nullable ≡ nul
  unfolding nul
  same i y = found y i

  names : length F ≡ length (lists_of d.grammar).rules
  unfolding F
  names = names_are (lists_of d.grammar)

  known : (x : ℕ) → x < length F → x < 32
  known x h = omega (arith, formed.few_rules, names)

  chains : (x y : ℕ) → FindsChains F nul x y
  unfolding F
  chains = closure_finds_chains F nul formed.defined

  shown : (x y : ℕ) → x < 32 → y < 32 → pair rows x y ≡ reaches F nul x y
  unfolding F
  shown x y h k = shows x y h k ∙ ap (λ v. reaches (rules_of v) (marked nullable) x y) copied ∙ ap (λ P. reaches F P x y) same

  pub on_cycle : (y : ℕ) → y < 32 → pair rows y y ≡ true → (y < length (lists_of d.grammar).rules) × Cyclic (lists_of d.grammar) y
  unfolding F nul
  on_cycle y h t = let c = (chains y y).found (sym (shown y y h h) ∙ t) in (omega (arith, chain_known F nul c, names), c)

  pub off_cycle : (y : ℕ) → y < 32 → pair rows y y ≡ false → Cyclic (lists_of d.grammar) y → ⊥
  unfolding F nul
  off_cycle y h t c = both_ways (pair rows y y) t (shown y y h h ∙ (chains y y).finds c)

  module _ (none : (y : ℕ) → y < 32 → pair rows y y ≡ false) where
    adopted : Adopted F nul
    unfolding F nul
    adopted = closure_adopts F nul formed.defined (sweeps_find_nullable F) (λ x h. let k = known x h in sym (shown x x k k) ∙ none x k)

    pub acyclic : (y : ℕ) → Cyclic (lists_of d.grammar) y → ⊥
    unfolding F nul
    acyclic = adopted.acyclic

    pub sound : (ranks : List ℕ) (n : ℕ) → n ≡ length (lists_of d.grammar).rules → ((y : ℕ) → y < 32 → get_or ranks y 0 ≡ count_by (pair rows y) (range_with_len 0 n)) → Sound (lists_of d.grammar) nullable ranks
    unfolding F
    sound ranks n all is = record {
      formed = formed;
      adopted = subst (Adopted F) (sym same) adopted;
      ranked = subst (λ P. RankedBy F P (λ y. get_or ranks y 0)) (sym same) (ranked F nul adopted (λ y. get_or ranks y 0) (λ y h.
          let k = known y h in
          is y k ∙ ap (λ m. count_by (pair rows y) (range_with_len 0 m)) (all ∙ sym names) ∙ count_same (pair rows y) (reaches F nul y) 0 (length F) (λ z g. shown y z k (known z (omega arith)))));
    }
