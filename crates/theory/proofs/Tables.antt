-- A table solves the equations exactly where it holds the totals. Assumes nothing.
use Rattle.std.proofs.Common.{◌≡◌, ℕ, zero, suc, ◌+◌, ◌-◌, ◌*◌, ◌<◌, ◌≤◌, Bool, true, false, cond, not, ◌&&◌, eqb, ◌⊎◌, List, [], ◌∷◌, map, length, drop, sym, refl, ap, ◌∙◌, subst, ap₂, inl, inr, ⊎_elim, not-suc-le-zero, add-suc, mul-le-mul_right, suc-mul, zero-mul, arith}
use Rattle.std.proofs.lemmas.Bool.{cases_Bool, cases_lt, and_left, ne_eqb, cond-true, cond-false, not_from_true, not_from_false}
use Rattle.theory.specs.Kinds.{Kind, Laws}
use Rattle.theory.specs.Orders.{Splits, upward}
use Rattle.theory.specs.Lists.{below}
use Rattle.theory.specs.Families.{Item, name, literal, Family, alternatives, alternative, Known, all_tails, item_count, tail_at, first_item}
use Rattle.theory.specs.Layouts.{chosen}
use Rattle.theory.specs.Sequence.{layouts, tail_forests}
use Rattle.theory.specs.Nullable.{leads_in, Adopted}
use Rattle.theory.specs.Totals.{sum_of, weight, total, tail_total, item_value, tail_value, alternatives_value, value_within}
use Rattle.theory.specs.Tables.{
  entry_at,
  item_row,
  EntriesArePlaced,
  tail_entry,
  item_equation,
  Solves,
  HoldsTotals,
  SolutionHoldsTotals,
  TotalsSolve,
  NamesSolve,
  NamesHoldTotals,
  NameTotalsSolve,
  FilledByRank,
}
use Rattle.theory.proofs.Lists.{count_among}
use Rattle.theory.proofs.Orders.{upward-splits}
use Rattle.theory.proofs.Items.{Begins, begins_head, begins_name, begins_item, known-rest, tail_known}
use Rattle.theory.proofs.Sums.{sum_ext, sum-map, sum_of_nones, sum_joined}
use Rattle.theory.proofs.Ranks.{Sorted, sorted_by, sort}
use Rattle.theory.proofs.Agreement.{Filling, tail_none, agree}
use Rattle.theory.proofs.Sequence.{cond_zero, enough, enough_below, enough_layouts, enough_lower, enough_rest, enough_not, not_all, within_bare, sequence_unfolds}
use Rattle.theory.proofs.Totals.{recursion_gives_totals, tail_total_value, tail_total_cons, tail_total_end}

-- places

entry_less : (N r n s : ℕ) → n ≤ N → r < s → entry_at N r n < s * (N + 1)
entry_less N r n s h l =
    let a : suc r * (N + 1) ≤ s * (N + 1) = mul-le-mul_right (N + 1) l in
    let b = suc-mul r (N + 1) in
    omega arith

entry_each : (N R x : ℕ) → x < R * (N + 1) → (r : ℕ) × (n : ℕ) × (r < R) × (n ≤ N) × (entry_at N r n ≡ x)
entry_each N zero x h = absurd (not-suc-le-zero (subst (λ (v : ℕ). x < v) (zero-mul (N + 1)) h))
entry_each N (suc R) x h = split (cases_lt x (R * (N + 1))) (λ l. entry_each N R x l)
  where
    split : (x < R * (N + 1)) ⊎ (R * (N + 1) ≤ x) → (x < R * (N + 1) → (r : ℕ) × (n : ℕ) × (r < R) × (n ≤ N) × (entry_at N r n ≡ x)) → (r : ℕ) × (n : ℕ) × (r < suc R) × (n ≤ N) × (entry_at N r n ≡ x)
    split (inl l) more = let t = more l in let u = t.2 in (t.0, t.1, omega arith, t.3, t.4)
    split (inr l) more = let b = suc-mul R (N + 1) in (R, x - R * (N + 1), omega arith, omega arith, omega arith)

pub entries_placed : EntriesArePlaced
entries_placed N R = record {
  within = λ r n h w. entry_less N r n R w h;
  once = λ r n s k h w e.
      ⊎_elim
      (λ (l : r < s). absurd (omega (arith, entry_less N r n s h l)))
      (λ (l : s ≤ r). ⊎_elim
      (λ (m : s < r). absurd (omega (arith, entry_less N s k r w m)))
      (λ (m : r ≤ s). let q : r ≡ s = omega arith in let p : r * (N + 1) ≡ s * (N + 1) = ap (λ v. v * (N + 1)) q in (q, omega arith))
      (cases_lt s r))
      (cases_lt r s);
  each = entry_each N R;
}

-- the three cases of a name's equation
module _ {K : Type 0} (o : Kind K) (nul : ℕ → Bool) (y : ℕ) (v : K) where
  pub name_bare : nul y ≡ false → cond (eqb 0 0 && not (nul y)) o.none v ≡ o.none
  name_bare h = cond-true (eqb 0 0 && not (nul y)) o.none v (not_from_false (nul y) h)

  pub name_first : nul y ≡ true → cond (eqb 0 0 && not (nul y)) o.none v ≡ v
  name_first h = cond-false (eqb 0 0 && not (nul y)) o.none v (not_from_true (nul y) h)

  pub name_later : (n : ℕ) → cond (eqb (suc n) 0 && not (nul y)) o.none v ≡ v
  name_later n = cond-false (eqb (suc n) 0 && not (nul y)) o.none v (and_left (eqb (suc n) 0) (not (nul y)) (ne_eqb (suc n) 0 (λ e. omega arith)))

-- sums as a filling

module _ {K : Type 0} (o : Kind K) (laws : Laws o) where
  sum_filling : Filling upward (item_value o) (tail_value o) o.none o.none o.product (sum_of o)
  sum_filling = record {
    item_name = λ e y k. refl;
    item_literal = λ e f x s c k. refl;
    literal_zero = λ e x s c h. cond_zero s (o.weigh c) o.none h;
    tail_nil = λ e f n. refl;
    tail_cons = λ e i is n. refl;
    nil_times = laws.none_left;
    times_none = laws.none_right;
    fold_ext = sum_ext o;
    fold_none = sum_of_nones o laws;
  }

  module _ (F : Family) (nul : ℕ → Bool) (sorted : Sorted F nul) where
    -- a name that cannot be empty has nothing at size 0
    pub alternatives_bare : (e : ℕ → ℕ → K) → ((z : ℕ) → z < length F → nul z ≡ false → e z 0 ≡ o.none) → (y : ℕ) → nul y ≡ false → alternatives_value o F e y 0 ≡ o.none
    alternatives_bare e bare y h =
        sum_of_nones o laws (λ a. tail_value o e (alternative F y a) 0) (below (length (alternatives F y)))
        (λ a w. tail_none upward upward-splits (item_value o) (tail_value o) o.none o.none o.product (sum_of o) sum_filling nul (length F) e bare (alternative F y a) (sorted.defined y a) (not_all F nul sorted y a w h))

    value_bare : (d y : ℕ) → nul y ≡ false → value_within o F d y 0 ≡ o.none
    unfolding value_within
    value_bare zero y h = refl
    value_bare (suc d) y h = alternatives_bare (value_within o F d) (λ z b q. value_bare d z q) y h

    -- a tail's value from two tables that agree at lower sizes, and at this size at the names to which it leads
    pub tail_agree : (e f : ℕ → ℕ → K) → ((z : ℕ) → z < length F → nul z ≡ false → e z 0 ≡ o.none) → ((z : ℕ) → z < length F → nul z ≡ false → f z 0 ≡ o.none) → (is : List Item) (n : ℕ) → Known (length F) is →
        ((z k : ℕ) → z < length F → k < n → e z k ≡ f z k) → ((z : ℕ) → z < length F → leads_in nul z is ≡ true → e z n ≡ f z n) → tail_value o e is n ≡ tail_value o f is n
    tail_agree e f be bf is n known lower here =
        agree upward upward-splits (item_value o) (tail_value o) o.none o.none o.product (sum_of o) sum_filling nul (length F) e f be bf is n known lower here

    -- one name's value from two tables that agree at lower sizes, and at this size at lower ranks
    pub name_level : (e f : ℕ → ℕ → K) → ((z : ℕ) → z < length F → nul z ≡ false → e z 0 ≡ o.none) → ((z : ℕ) → z < length F → nul z ≡ false → f z 0 ≡ o.none) → (y n : ℕ) →
        ((z k : ℕ) → z < length F → k < n → e z k ≡ f z k) → ((z : ℕ) → z < length F → sorted.rank z < sorted.rank y → e z n ≡ f z n) → alternatives_value o F e y n ≡ alternatives_value o F f y n
    name_level e f be bf y n lower here =
        sum_ext o (λ a. tail_value o e (alternative F y a) n) (λ a. tail_value o f (alternative F y a) n) (below (length (alternatives F y)))
        (λ a w. tail_agree e f be bf (alternative F y a) n (sorted.defined y a) lower
        (λ z b q. here z b (sorted.falls y z a (omega (arith, count_among 0 (length (alternatives F y)) a w)) q)))

    module _ (N : ℕ) (e : ℕ → ℕ → K) (solves : NamesSolve o F nul N e) where
      entry_bare : (y : ℕ) → y < length F → nul y ≡ false → e y 0 ≡ o.none
      entry_bare y h t = solves y 0 h (omega arith) ∙ name_bare o nul y (alternatives_value o F e y 0) t

      solved_within : (d y n : ℕ) → y < length F → n ≤ N → enough F nul sorted y n ≤ d → e y n ≡ value_within o F d y n
      unfolding value_within
      solved_within zero y n h w v = absurd (enough_not F nul sorted y n v)
      solved_within (suc d) y zero h w v =
          ⊎_elim
          (λ (t : nul y ≡ true). solves y 0 h w ∙ name_first o nul y (alternatives_value o F e y 0) t ∙ name_level e (value_within o F d) entry_bare (λ z b q. value_bare d z q) y 0
          (λ z k b l. absurd (omega arith))
          (λ z b q. solved_within d z 0 b w (enough_lower F nul sorted y z 0 d q v)))
          (λ (t : nul y ≡ false). entry_bare y h t ∙ sym (value_bare (suc d) y t))
          (cases_Bool (nul y))
      solved_within (suc d) y (suc n) h w v =
          solves y (suc n) h w ∙ name_later o nul y (alternatives_value o F e y (suc n)) n ∙ name_level e (value_within o F d) entry_bare (λ z b q. value_bare d z q) y (suc n)
          (λ z k b l. solved_within d z k b (omega arith) (enough_below F nul sorted z k (suc n) d b l (enough_rest F nul sorted y (suc n) d v)))
          (λ z b q. solved_within d z (suc n) b w (enough_lower F nul sorted y z (suc n) d q v))

  pub names_hold_totals : NamesHoldTotals o
  names_hold_totals S law F nul adopted N e solves y n h w =
      let sorted = sort F nul adopted in
      solved_within F nul sorted N e solves (length F * suc n) y n h w (enough_layouts F nul sorted y n h) ∙ sym (recursion_gives_totals o laws S law F y n)

  module _ (S : ℕ → List ℕ) (law : Splits S) (F : Family) (nul : ℕ → Bool) (adopted : Adopted F nul) where
    -- a name's total is the sum over its alternatives
    pub total-alternatives : (y n : ℕ) → total o S F y n ≡ sum_of o (λ a. tail_total o S F (alternative F y a) n) (below (length (alternatives F y)))
    total-alternatives y n =
        ap (sum_of o (weight o F (name y))) (sequence_unfolds S law F nul adopted y n)
        ∙ sum_joined o laws (weight o F (name y)) (λ a. map (chosen a) (tail_forests S F (alternative F y a) n)) (below (length (alternatives F y)))
        ∙ sum_ext o (λ a. sum_of o (weight o F (name y)) (map (chosen a) (tail_forests S F (alternative F y a) n))) (λ a. tail_total o S F (alternative F y a) n) (below (length (alternatives F y)))
        (λ a w. sum-map o (weight o F (name y)) (chosen a) (tail_forests S F (alternative F y a) n))

    pub total_value : (y n : ℕ) → total o S F y n ≡ alternatives_value o F (total o S F) y n
    total_value y n =
        total-alternatives y n
        ∙ sum_ext o (λ a. tail_total o S F (alternative F y a) n) (λ a. tail_value o (total o S F) (alternative F y a) n) (below (length (alternatives F y)))
        (λ a w. tail_total_value o laws S law F (alternative F y a) n)

    pub total_bare : (y : ℕ) → nul y ≡ false → total o S F y 0 ≡ o.none
    unfolding layouts
    total_bare y h = ap (sum_of o (weight o F (name y))) (within_bare F nul (sort F nul adopted) S law (length F * 1) y h)

    -- the sum over the alternatives, but none at size 0 for a name that cannot be empty
    total_cases : (v : ℕ → K) (y n : ℕ) → total o S F y n ≡ v n → total o S F y n ≡ cond (eqb n 0 && not (nul y)) o.none (v n)
    total_cases v y zero h =
        ⊎_elim
        (λ (t : nul y ≡ true). h ∙ sym (name_first o nul y (v 0) t))
        (λ (t : nul y ≡ false). total_bare y t ∙ sym (name_bare o nul y (v 0) t))
        (cases_Bool (nul y))
    total_cases v y (suc n) h = h ∙ sym (name_later o nul y (v (suc n)) n)

  pub name_totals_solve : NameTotalsSolve o
  name_totals_solve S law F nul adopted N y n h w =
      total_cases S law F nul adopted (alternatives_value o F (total o S F) y) y n (total_value S law F nul adopted y n)

  pub filled_by_rank : FilledByRank o
  filled_by_rank S law F nul adopted ranks e bare y n lower here =
      name_level F nul (sorted_by F nul adopted.defined adopted.nullable.closed ranks) e (total o S F) bare (λ z b q. total_bare S law F nul adopted z q) y n lower here
      ∙ sym (total_value S law F nul adopted y n)

  -- the rows of the items

  -- a tail's entry stands for its value by the names' entries
  module _ (F : Family) (nul : ℕ → Bool) (N : ℕ) (e : ℕ → ℕ → K) (solves : Solves o F nul N e) where
    pub entry_value : (is : List Item) (j n : ℕ) → Begins (drop j (all_tails F)) is → n ≤ N → tail_entry o e (item_row F j) is n ≡ tail_value o e is n
    entry_value [] j n b w = refl
    entry_value (i ∷ is) j n b w =
        let q = begins_head (all_tails F) j i is b in
        solves.items j n q.0 w
        ∙ ap (λ t. item_equation o e (item_row F j) t n) q.1
        ∙ sum_ext o (λ k. o.product (item_value o e i k) (tail_entry o e (suc (item_row F j)) is (n - k))) (λ k. o.product (item_value o e i k) (tail_value o e is (n - k))) (below (suc n))
        (λ k l. ap (o.product (item_value o e i k)) (ap (λ r. tail_entry o e r is (n - k)) (sym (add-suc (length F) j)) ∙ entry_value is (suc j) (n - k) q.2 (omega arith)))

    pub item_row_value : (j n : ℕ) → j < item_count F → n ≤ N → e (item_row F j) n ≡ tail_value o e (tail_at F j) n
    item_row_value j n h w = at (tail_at F j) (begins_item F j) (solves.items j n h w)
      where
        at : (is : List Item) → Begins (drop j (all_tails F)) is → e (item_row F j) n ≡ item_equation o e (item_row F j) is n → e (item_row F j) n ≡ tail_value o e is n
        at [] b q = q
        at (i ∷ is) b q = entry_value (i ∷ is) j n b w

    pub names_solve : NamesSolve o F nul N e
    names_solve y n h w =
        solves.names y n h w
        ∙ ap (λ v. cond (eqb n 0 && not (nul y)) o.none v)
        (sum_ext o (λ a. tail_entry o e (item_row F (first_item F y a)) (alternative F y a) n) (λ a. tail_value o e (alternative F y a) n) (below (length (alternatives F y)))
        (λ a l. entry_value (alternative F y a) (first_item F y a) n (begins_name F y a (omega (arith, count_among 0 (length (alternatives F y)) a l))) w))

  -- tables that agree on the names up to N have the same tails up to N
  item_same : (m N : ℕ) (e f : ℕ → ℕ → K) → ((y k : ℕ) → y < m → k ≤ N → e y k ≡ f y k) → (i : Item) (is : List Item) (k : ℕ) → Known m (i ∷ is) → k ≤ N → item_value o e i k ≡ item_value o f i k
  item_same m N e f same (literal x s c) is k known w = refl
  item_same m N e f same (name y) is k known w = same y k known.0 w

  pub tail_same : (m N : ℕ) (e f : ℕ → ℕ → K) → ((y k : ℕ) → y < m → k ≤ N → e y k ≡ f y k) → (is : List Item) (n : ℕ) → Known m is → n ≤ N → tail_value o e is n ≡ tail_value o f is n
  tail_same m N e f same [] n known w = refl
  tail_same m N e f same (i ∷ is) n known w =
      sum_ext o (λ k. o.product (item_value o e i k) (tail_value o e is (n - k))) (λ k. o.product (item_value o f i k) (tail_value o f is (n - k))) (below (suc n))
      (λ k l.
      let t = count_among 0 (suc n) k l in
      ap₂ o.product (item_same m N e f same i is k known (omega arith)) (tail_same m N e f same is (n - k) (known-rest m i is known) (omega arith)))

  pub solution_holds_totals : SolutionHoldsTotals o
  solution_holds_totals S law F nul adopted N e solves = record {
    names = names;
    items = λ j n h w.
        item_row_value F nul N e solves j n h w
        ∙ tail_same (length F) N e (total o S F) names (tail_at F j) n (tail_known F adopted.defined j) w
        ∙ sym (tail_total_value o laws S law F (tail_at F j) n);
  }
    where
      names : (y n : ℕ) → y < length F → n ≤ N → e y n ≡ total o S F y n
      names = names_hold_totals S law F nul adopted N e (names_solve F nul N e solves)

  -- the other way

  module _ (S : ℕ → List ℕ) (law : Splits S) (F : Family) (nul : ℕ → Bool) (adopted : Adopted F nul) (N : ℕ) (e : ℕ → ℕ → K) (holds : HoldsTotals o S F N e) where
    entry_total : (is : List Item) (j n : ℕ) → Begins (drop j (all_tails F)) is → n ≤ N → tail_entry o e (item_row F j) is n ≡ tail_total o S F is n
    entry_total [] j n b w = sym (tail_total_end o laws S law F n)
    entry_total (i ∷ is) j n b w =
        let q = begins_head (all_tails F) j i is b in
        holds.items j n q.0 w ∙ ap (λ t. tail_total o S F t n) q.1

    item_total : (is : List Item) (j n : ℕ) → Begins (drop j (all_tails F)) is → Known (length F) is → n ≤ N → tail_total o S F is n ≡ item_equation o e (item_row F j) is n
    item_total [] j n b known w = tail_total_end o laws S law F n
    item_total (i ∷ is) j n b known w =
        let q = begins_head (all_tails F) j i is b in
        tail_total_cons o laws S law F i is n
        ∙ sum_ext o (λ k. o.product (item_value o (total o S F) i k) (tail_total o S F is (n - k))) (λ k. o.product (item_value o e i k) (tail_entry o e (suc (item_row F j)) is (n - k))) (below (suc n))
        (λ k l.
        let t = count_among 0 (suc n) k l in
        ap₂ o.product (sym (item_same (length F) N e (total o S F) holds.names i is k known (omega arith)))
        (sym (ap (λ r. tail_entry o e r is (n - k)) (sym (add-suc (length F) j)) ∙ entry_total is (suc j) (n - k) q.2 (omega arith))))

    totals_solve_at : Solves o F nul N e
    totals_solve_at = record {
      names = λ y n h w.
          holds.names y n h w
          ∙ total_cases S law F nul adopted (λ m. sum_of o (λ a. tail_total o S F (alternative F y a) m) (below (length (alternatives F y)))) y n (total-alternatives S law F nul adopted y n)
          ∙ ap (λ v. cond (eqb n 0 && not (nul y)) o.none v)
          (sum_ext o (λ a. tail_total o S F (alternative F y a) n) (λ a. tail_entry o e (item_row F (first_item F y a)) (alternative F y a) n) (below (length (alternatives F y)))
          (λ a l. sym (entry_total (alternative F y a) (first_item F y a) n (begins_name F y a (omega (arith, count_among 0 (length (alternatives F y)) a l))) w)));
      items = λ j n h w. holds.items j n h w ∙ item_total (tail_at F j) j n (begins_item F j) (tail_known F adopted.defined j) w;
    }

  pub totals_solve : TotalsSolve o
  totals_solve S law F nul adopted N e holds = totals_solve_at S law F nul adopted N e holds
