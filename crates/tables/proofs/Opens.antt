-- Tables whose entries are totals, row by row. Assumes nothing.
use Rattle.std.proofs.Common.{◌≡◌, ℕ, ◌-◌, ◌<◌, ◌≤◌, Bool, ltb, List, length, get_or, sym, ap, ◌∙◌, subst, ⊎_elim, arith, ap₂, take, length-take-le, true, false}
use mathlib.Core.Logic.{∥∥₁_elim}
use Rattle.std.specs.Prelude.{not, ◌==◌, Some, None, Option, MatchOption}
use Rattle.std.specs.List.{position_or_len, zip}
use Rattle.std.proofs.lemmas.Grind.{common_steps}
use Rattle.std.proofs.lemmas.List.{get_or-take}
use Rattle.std.proofs.lemmas.List.Sums.{fails_before_first}
use Rattle.std.proofs.lemmas.List.Quantifiers.{position-Some}
use Rattle.std.proofs.lemmas.Slice.Zip.{get_or-zip, length-zip}
use native.Mathlib.Nat.{ℕ_set}
use Rattle.std.proofs.lemmas.Bool.{cases_lt, cond-true, cond-false, lt-ltb, le-ltb, eqb-true, eqb-false, not-true, not-false}
use Rattle.theory.specs.Kinds.{Kind, Laws}
use Rattle.theory.specs.Orders.{Splits, upward}
use Rattle.theory.specs.Families.{Item as Symbol, Family as Rules, tail_at}
use Rattle.theory.specs.Totals.{total, tail_total, tail_value}
use Rattle.theory.specs.Tables.{entry_at, item_row, rows}
use Rattle.theory.proofs.Orders.{upward-splits}
use Rattle.theory.proofs.Tables.{entries_placed}
use Rattle.theory.proofs.Totals.{total-any_order, tail_total_value}
use Rattle.tables.specs.Counts.{count_kind}
use Rattle.tables.specs.Tables.{entries, entry_of, total_at, rules_of, Totals}
use Rattle.tables.specs.Fillings.{Ready}
use Rattle.tables.specs.Openings.{first_unequal, FirstWrong}
use Rattle.tables.specs.declared.count.Count.{Count}
use Rattle.tables.specs.declared.checked.Checked.{Checked}
use Rattle.tables.specs.KindLaws.{same_count, count_laws}

-- a tail's total does not depend on the order
pub tail_total-any_order : {K : Type 0} (o : Kind K) → Laws o → (S R : ℕ → List ℕ) → Splits S → Splits R → (F : Rules) (is : List Symbol) (n : ℕ) → tail_total o S F is n ≡ tail_total o R F is n
tail_total-any_order o laws S R s r F is n =
    tail_total_value o laws S s F is n
    ∙ ap (λ e. tail_value o e is n) (λ i y k. total-any_order o laws S R s r F y k i)
    ∙ sym (tail_total_value o laws R r F is n)

-- every entry is the total of its row
abbrev pub Each : {K : Type 0} → Kind K → Rules → ℕ → List K → Type 0
Each o F N t = (r n : ℕ) → r < rows F → n ≤ N → entry_of o N t r n ≡ total_at o F r n

module _ {K : Type 0} (o : Kind K) (F : Rules) where
  total_name : (y n : ℕ) → y < length F → total_at o F y n ≡ total o upward F y n
  total_name y n h = cond-true (ltb y (length F)) (total o upward F y n) (tail_total o upward F (tail_at F (y - length F)) n) (lt-ltb y (length F) h)

  total_item : (j n : ℕ) → total_at o F (item_row F j) n ≡ tail_total o upward F (tail_at F j) n
  total_item j n =
      let same : item_row F j - length F ≡ j = omega arith in
      cond-false (ltb (item_row F j) (length F)) (total o upward F (item_row F j) n) (tail_total o upward F (tail_at F (item_row F j - length F)) n) (le-ltb (item_row F j) (length F) (omega arith))
      ∙ ap (λ i. tail_total o upward F (tail_at F i) n) same

  -- a filled table
  pub ready_each : (nul : ℕ → Bool) (N m : ℕ) (D : ℕ → Type 0) (t : List K) → N < m → Ready o F nul N m D t → Each o F N t
  ready_each nul N m D t h ready r n b w =
      ⊎_elim
      (λ (l : r < length F). ready.names r n l (omega arith) ∙ sym (total_name r n l))
      (λ (l : length F ≤ r).
      let j : ℕ = r - length F in
      let same : item_row F j ≡ r = omega arith in
      subst (λ (q : ℕ). entry_of o N t q n ≡ total_at o F q n) same (ready.items j n (omega arith) (omega arith) ∙ sym (total_item j n)))
      (cases_lt r (length F))

  pub totals_each : (N : ℕ) (t : List K) → Totals o F N t → Each o F N t
  totals_each N t totals r n b w =
      ⊎_elim
      (λ (l : r < length F). (totals upward upward-splits).names r n l w ∙ sym (total_name r n l))
      (λ (l : length F ≤ r).
      let j : ℕ = r - length F in
      let same : item_row F j ≡ r = omega arith in
      subst (λ (q : ℕ). entry_of o N t q n ≡ total_at o F q n) same ((totals upward upward-splits).items j n (omega arith) w ∙ sym (total_item j n)))
      (cases_lt r (length F))

  pub each_totals : Laws o → (N : ℕ) (t : List K) → Each o F N t → Totals o F N t
  each_totals laws N t each S law = record {
    names = λ y n h w. each y n (omega arith) w ∙ total_name y n h ∙ total-any_order o laws upward S upward-splits law F y n;
    items = λ j n h w. each (item_row F j) n (omega arith) w ∙ total_item j n ∙ tail_total-any_order o laws upward S upward-splits law F (tail_at F j) n;
  }

-- what an open table keeps, by every split order
pub kept_totals : (F : Rules) (N : ℕ) (t : List Count) → ∥ Totals count_kind F N t ∥₁ → Totals count_kind F N t
kept_totals F N t kept S law = record {
  names = λ y n h w. same_count (∥∥₁_elim kept (ℕ_set _ _) (λ (totals : Totals count_kind F N t). ap (λ x. x.value) ((totals S law).names y n h w)));
  items = λ j n h w. same_count (∥∥₁_elim kept (ℕ_set _ _) (λ (totals : Totals count_kind F N t). ap (λ x. x.value) ((totals S law).items j n h w)));
}

pub checked_totals : (c : Checked) → Totals count_kind (rules_of c.family.now) c.shape.top c.table.now
checked_totals c = kept_totals (rules_of c.family.now) c.shape.top c.table.now c.totals

-- a table compared with the totals

module _ (F : Rules) (N : ℕ) (t u : List Count) (each : Each count_kind F N u) (i : ℕ) (before : (k : ℕ) → k < i → get_or t k count_kind.none ≡ get_or u k count_kind.none) where
  below_right : (r n : ℕ) → r < rows F → n ≤ N → entry_at N r n < i → entry_of count_kind N t r n ≡ total_at count_kind F r n
  below_right r n h w l = before (entry_at N r n) l ∙ each r n h w

  pub all_right : entries (rows F) N ≤ i → Each count_kind F N t
  all_right l r n h w = below_right r n h w (omega (arith, (entries_placed N (rows F)).within r n h w))

  pub first_wrong : i < entries (rows F) N → (get_or t i count_kind.none ≡ get_or u i count_kind.none → ⊥) → FirstWrong F N t i
  first_wrong l differs =
      let q = (entries_placed N (rows F)).each i l in
      record {
        row = q.0;
        size = q.1;
        row_there = q.2;
        size_there = q.3;
        here = sym q.4;
        differs = λ e. differs (subst (λ (k : ℕ). get_or t k count_kind.none ≡ get_or u k count_kind.none) q.4 (e ∙ sym (each q.0 q.1 q.2 q.3)));
        before = below_right;
      }

-- the two compared entry by entry
module _ (F : Rules) (N : ℕ) (t u : List Count) (each : Each count_kind F N u) (m : ℕ) (size : m ≡ entries (rows F) N) (in_t : m ≤ length t) (in_u : m ≤ length u) where
  abbrev pairs : List (Count × Count)
  pairs = zip (take m t) (take m u)

  pair_at : (k : ℕ) → k < m → get_or pairs k (count_kind.none, count_kind.none) ≡ (get_or t k count_kind.none, get_or u k count_kind.none)
  pair_at k h =
      get_or-zip (take m t) (take m u) k (count_kind.none, count_kind.none) (omega (arith, length-take-le m t in_t)) (omega (arith, length-take-le m u in_u))
      ∙ ap₂ (λ x y. (x, y)) (get_or-take m t k count_kind.none h) (get_or-take m u k count_kind.none h)

  length-pairs : length pairs ≡ m
  length-pairs = omega (arith, length-zip (take m t) (take m u), length-take-le m t in_t, length-take-le m u in_u)

  abbrev differ : Count × Count → Bool
  differ p = not (p.0.value == p.1.value)

  alike : (k : ℕ) → k < m → differ (get_or pairs k (count_kind.none, count_kind.none)) ≡ false → get_or t k count_kind.none ≡ get_or u k count_kind.none
  alike k h e = same_count (eqb-true _ _ (not-false _ (sym (ap differ (pair_at k h)) ∙ e)))

  unlike : (k : ℕ) → k < m → differ (get_or pairs k (count_kind.none, count_kind.none)) ≡ true → get_or t k count_kind.none ≡ get_or u k count_kind.none → ⊥
  unlike k h e same = eqb-false _ _ (not-true _ (sym (ap differ (pair_at k h)) ∙ e)) (ap (λ x. x.value) same)

  pub compared : (r : Option ℕ) → r ≡ first_unequal (take m t) (take m u) → MatchOption r (Totals count_kind F N t) (FirstWrong F N t)
  compared None e =
      let none : length pairs ≤ position_or_len differ pairs = grind (arith, common_steps) in
      each_totals count_kind F count_laws N t
      (all_right F N t u each m (λ k h. alike k h (fails_before_first differ pairs k (count_kind.none, count_kind.none) (omega (arith, length-pairs)))) (omega arith))
  compared (Some i) e =
      let q = position-Some differ pairs i (count_kind.none, count_kind.none) (sym e) in
      let inside : i < m = omega (arith, q.0, length-pairs) in
      first_wrong F N t u each i (λ k h. alike k (omega arith) (q.2 k h)) (omega arith) (unlike i inside q.1)
