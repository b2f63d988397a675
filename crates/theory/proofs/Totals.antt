-- Totals are sums over all layouts, the recursion gives them, and what the totals of counts and of costs are. Assumes nothing.
use Rattle.std.proofs.Common.{◌≡◌, ℕ, zero, suc, ◌-◌, ◌*◌, ◌<◌, ◌≤◌, min, cond, eqb, ◌⊎◌, List, [], ◌∷◌, map, length, sym, refl, ap, ◌∙◌, ap₂, inl, inr, ⊎_elim, add_assoc, mul_assoc, add-mul, add_comm, one-mul, mul-zero, zero-add, zero-mul, mul-one, mul-add, arith}
use Rattle.std.proofs.lemmas.Bool.{cases_lt}
use Rattle.theory.specs.Kinds.{Kind, Laws}
use Rattle.theory.specs.Orders.{Splits}
use Rattle.theory.specs.Lists.{Among, below}
use Rattle.theory.specs.Families.{Item, name, Family}
use Rattle.theory.specs.Layouts.{forest_costs, costs}
use Rattle.theory.specs.Sequence.{layouts, tail_forests}
use Rattle.theory.specs.Totals.{
  sum_of,
  product_of,
  weight,
  forest_weight,
  total,
  tail_total,
  TotalsSumAll,
  item_value,
  tail_value,
  RecursionGivesTotals,
  counting,
  count,
  SequenceCounted,
  Counts,
  CountsCapped,
  CountsUpToCap,
  sum_costs,
  Cheapens,
  LeastCost,
  Cheapest,
  TotalsAreCheapest,
}
use Rattle.theory.proofs.Sums.{sum_ext, sum_same, sum-forests, sum_within}
use Rattle.theory.proofs.Sequence.{sequence_lists_layouts, tails_list_forests}

pub totals_sum-all : {K : Type 0} (o : Kind K) → Laws o → TotalsSumAll o
totals_sum-all o laws S law F nul adopted = record {
  names = λ y n ls w.
      let h = sequence_lists_layouts S law F nul adopted y n in
      sum_same o laws (weight o F (name y)) (layouts S F y n) ls h.once w.once (λ l g. w.complete l (h.sound l g)) (λ l g. h.complete l (w.sound l g));
  tails = λ is n ts w.
      let h = tails_list_forests S law F nul adopted is n in
      sum_same o laws (forest_weight o F is) (tail_forests S F is n) ts h.once w.once (λ t g. w.complete t (h.sound t g)) (λ t g. h.complete t (w.sound t g));
}

pub recursion_gives_totals : {K : Type 0} (o : Kind K) → Laws o → RecursionGivesTotals o
unfolding layouts
recursion_gives_totals o laws S law F y n = sum_within o laws F S law (length F * suc n) y n

-- the total does not depend on the order
pub total-any_order : {K : Type 0} (o : Kind K) → Laws o → (S R : ℕ → List ℕ) → Splits S → Splits R → (F : Family) (y n : ℕ) → total o S F y n ≡ total o R F y n
total-any_order o laws S R s r F y n = recursion_gives_totals o laws S s F y n ∙ sym (recursion_gives_totals o laws R r F y n)

-- a tail's total by its item and the rest
module _ {K : Type 0} (o : Kind K) (laws : Laws o) (S : ℕ → List ℕ) (law : Splits S) (F : Family) where
  pub tail_total_value : (is : List Item) (n : ℕ) → tail_total o S F is n ≡ tail_value o (total o S F) is n
  tail_total_value is n = sum-forests o laws F S law (layouts S F) (total o S F) (λ y k. refl) is n

  pub tail_total_cons : (i : Item) (is : List Item) (n : ℕ) → tail_total o S F (i ∷ is) n ≡ sum_of o (λ k. o.product (item_value o (total o S F) i k) (tail_total o S F is (n - k))) (below (suc n))
  tail_total_cons i is n =
      tail_total_value (i ∷ is) n
      ∙ sum_ext o (λ k. o.product (item_value o (total o S F) i k) (tail_value o (total o S F) is (n - k))) (λ k. o.product (item_value o (total o S F) i k) (tail_total o S F is (n - k))) (below (suc n))
      (λ k w. ap (o.product (item_value o (total o S F) i k)) (sym (tail_total_value is (n - k))))

  pub tail_total_end : (n : ℕ) → tail_total o S F [] n ≡ cond (eqb n 0) o.unit o.none
  tail_total_end n = tail_total_value [] n

-- counting

pub counting_laws : Laws counting
counting_laws = record {
  sum_assoc = add_assoc;
  sum_comm = add_comm;
  sum_none = zero-add;
  product_assoc = mul_assoc;
  unit_left = one-mul;
  unit_right = mul-one;
  none_left = zero-mul;
  none_right = mul-zero;
  left_dist = mul-add;
  right_dist = add-mul;
}

product_ones : (cs : List ℕ) → product_of counting (map counting.weigh cs) ≡ 1
product_ones [] = refl
product_ones (c ∷ cs) = one-mul (product_of counting (map counting.weigh cs)) ∙ product_ones cs

sum_ones : {A : Type 0} (f : A → ℕ) (xs : List A) → ((x : A) → f x ≡ 1) → length xs ≡ sum_of counting f xs
sum_ones f [] h = refl
sum_ones f (x ∷ xs) h = omega (arith, h x, sum_ones f xs h)

-- the total of the counting kind is the number of layouts
pub length-total : (S : ℕ → List ℕ) (F : Family) (y n : ℕ) → length (layouts S F y n) ≡ total counting S F y n
length-total S F y n = sum_ones (weight counting F (name y)) (layouts S F y n) (λ l. product_ones (costs F (name y) l))

pub length-tail_total : (S : ℕ → List ℕ) (F : Family) (is : List Item) (n : ℕ) → length (tail_forests S F is n) ≡ tail_total counting S F is n
length-tail_total S F is n = sum_ones (forest_weight counting F is) (tail_forests S F is n) (λ t. product_ones (forest_costs F is t))

pub sequence_counted : SequenceCounted
unfolding count
sequence_counted S law F y n = length-total S F y n ∙ recursion_gives_totals counting counting_laws S law F y n

-- there are as many layouts by one order as by another
pub length-any_order : (S R : ℕ → List ℕ) → Splits S → Splits R → (F : Family) (y n : ℕ) → length (layouts S F y n) ≡ length (layouts R F y n)
length-any_order S R s r F y n = sequence_counted S s F y n ∙ sym (sequence_counted R r F y n)

-- up to a cap

module _ {K : Type 0} (cap : ℕ) (o : Kind K) (v : K → ℕ) (counts : Counts cap o v) where
  square : (b : ℕ) → b ≤ 1 → b * b ≡ b
  square zero h = refl
  square (suc zero) h = refl
  square (suc (suc b)) h = absurd (omega arith)

  product_capped : (cs : List ℕ) → v (product_of o (map o.weigh cs)) ≡ min cap 1
  product_capped [] = counts.unit
  product_capped (c ∷ cs) =
      counts.product (o.weigh c) (product_of o (map o.weigh cs))
      ∙ ap₂ (λ (a b : ℕ). min cap (a * b)) (counts.weigh c) (product_capped cs)
      ∙ ap (min cap) (square (min cap 1) (omega arith))
      ∙ omega arith

  sum-capped : {A : Type 0} (f : A → K) (xs : List A) → ((x : A) → v (f x) ≡ min cap 1) → v (sum_of o f xs) ≡ min cap (length xs)
  sum-capped f [] h = counts.none ∙ omega arith
  sum-capped f (x ∷ xs) h = counts.sum (f x) (sum_of o f xs) ∙ omega (arith, h x, sum-capped f xs h)

  capped : CountsCapped cap o v
  capped = record {
    names = λ S F y n. sum-capped (weight o F (name y)) (layouts S F y n) (λ l. product_capped (costs F (name y) l));
    tails = λ S F is n. sum-capped (forest_weight o F is) (tail_forests S F is n) (λ t. product_capped (forest_costs F is t));
  }

pub counts_up_to_cap : {K : Type 0} (o : Kind K) → CountsUpToCap o
counts_up_to_cap o cap v counts = capped cap o v counts

-- least costs

module _ {K : Type 0} (cap : ℕ) (o : Kind K) (v : K → ℕ) (cheapens : Cheapens cap o v) where
  product_cost : (cs : List ℕ) → v (product_of o (map o.weigh cs)) ≡ min cap (sum_costs cs)
  product_cost [] = cheapens.unit ∙ omega arith
  product_cost (c ∷ cs) = cheapens.product (o.weigh c) (product_of o (map o.weigh cs)) ∙ omega (arith, cheapens.weigh c, product_cost cs)

  -- the lower one of a cost and the least of others
  lower : {A : Type 0} (cost : A → ℕ) (l : A) (ls : List A) (r m : ℕ) → LeastCost cap cost ls r → m ≡ min (min cap (cost l)) r → LeastCost cap cost (l ∷ ls) m
  lower {A} cost l ls r m least e = record {
    bound = λ k w. ⊎_elim (λ (q : k ≡ l). let z = ap cost q in omega arith) (λ (q : Among k ls). let z = least.bound k q in omega arith) w;
    attained = ⊎_elim
        (λ (h : r < min cap (cost l)). others h least.attained)
        (λ (h : min cap (cost l) ≤ r). here h (cases_lt cap (cost l)))
        (cases_lt r (min cap (cost l)));
    capped = omega arith;
  }
    where
      others : r < min cap (cost l) → (r ≡ cap) ⊎ ((k : A) × Among k ls × (r ≡ cost k)) → (m ≡ cap) ⊎ ((k : A) × Among k (l ∷ ls) × (m ≡ cost k))
      others h (inl q) = absurd (omega arith)
      others h (inr q) = let z = q.2 in inr (q.0, inr q.1, omega arith)

      here : min cap (cost l) ≤ r → (cap < cost l) ⊎ (cost l ≤ cap) → (m ≡ cap) ⊎ ((k : A) × Among k (l ∷ ls) × (m ≡ cost k))
      here h (inl q) = inl (omega arith)
      here h (inr q) = inr (l, inl refl, omega arith)

  sum_least : {A : Type 0} (f : A → K) (cost : A → ℕ) (ls : List A) → ((l : A) → v (f l) ≡ min cap (cost l)) → LeastCost cap cost ls (v (sum_of o f ls))
  sum_least f cost [] h = record { bound = λ l w. absurd w; attained = inl cheapens.none; capped = omega (arith, cheapens.none) }
  sum_least f cost (l ∷ ls) h =
      lower cost l ls (v (sum_of o f ls)) (v (sum_of o f (l ∷ ls))) (sum_least f cost ls h) (cheapens.sum (f l) (sum_of o f ls) ∙ ap (λ m. min m (v (sum_of o f ls))) (h l))

  cheapest : Cheapest cap o v
  cheapest = record {
    names = λ S F y n. sum_least (weight o F (name y)) (λ l. sum_costs (costs F (name y) l)) (layouts S F y n) (λ l. product_cost (costs F (name y) l));
    tails = λ S F is n. sum_least (forest_weight o F is) (λ t. sum_costs (forest_costs F is t)) (tail_forests S F is n) (λ t. product_cost (forest_costs F is t));
  }

pub totals_are_cheapest : {K : Type 0} (o : Kind K) → TotalsAreCheapest o
totals_are_cheapest o cap v cheapens = cheapest cap o v cheapens
