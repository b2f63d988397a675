-- Weights of layouts, and totals: their sums. Assumes nothing.
use Rattle.std.specs.Prelude.{◌≡◌, ℕ, zero, suc, ◌+◌, ◌-◌, ◌*◌, ◌≤◌, min, Bool, cond, ◌⊎◌, List, [], ◌∷◌, map, length, ◌==◌}
use Rattle.theory.specs.Kinds.{Kind}
use Rattle.theory.specs.Lists.{Among, below}
use Rattle.theory.specs.Orders.{Splits}
use Rattle.theory.specs.Families.{Item, name, literal, Family, alternatives, alternative}
use Rattle.theory.specs.Layouts.{Forest, Layout, forest_costs, costs}
use Rattle.theory.specs.Nullable.{Adopted}
use Rattle.theory.specs.Sequence.{layouts, tail_forests, ListsLayouts, ListsForests}

-- the kind's sum of f over a list
abbrev pub sum_of : {A K : Type 0} → Kind K → (A → K) → List A → K
sum_of o f [] = o.none
sum_of o f (x ∷ xs) = o.sum (f x) (sum_of o f xs)

-- the kind's product, from left to right
abbrev pub product_of : {K : Type 0} → Kind K → List K → K
product_of o [] = o.unit
product_of o (x ∷ xs) = o.product x (product_of o xs)

-- the product of the weights of a layout's literals
abbrev pub weight : {K : Type 0} → Kind K → Family → Item → Layout → K
weight o F i l = product_of o (map o.weigh (costs F i l))

abbrev pub forest_weight : {K : Type 0} → Kind K → Family → List Item → Forest → K
forest_weight o F is t = product_of o (map o.weigh (forest_costs F is t))

-- THE TOTAL of the name y at size n: the sum over its layouts
abbrev pub total : {K : Type 0} → Kind K → (ℕ → List ℕ) → Family → ℕ → ℕ → K
total o S F y n = sum_of o (weight o F (name y)) (layouts S F y n)

-- the total of a tail
abbrev pub tail_total : {K : Type 0} → Kind K → (ℕ → List ℕ) → Family → List Item → ℕ → K
tail_total o S F is n = sum_of o (forest_weight o F is) (tail_forests S F is n)

-- A total is the sum over all layouts, each once, whatever the order of the splits and of the layouts

pub record SumsAll {K : Type 0} (o : Kind K) (S : ℕ → List ℕ) (F : Family) : Type 0 where
  pub names : (y n : ℕ) (ls : List Layout) → ListsLayouts F (name y) n ls → total o S F y n ≡ sum_of o (weight o F (name y)) ls
  pub tails : (is : List Item) (n : ℕ) (ts : List Forest) → ListsForests F is n ts → tail_total o S F is n ≡ sum_of o (forest_weight o F is) ts

abbrev pub TotalsSumAll : {K : Type 0} → Kind K → Type 0
TotalsSumAll o = (S : ℕ → List ℕ) → Splits S → (F : Family) (nul : ℕ → Bool) → Adopted F nul → SumsAll o S F

-- The recursive method, from the totals `e y n` of the names

-- a literal has its weight at its own size, and none elsewhere
abbrev pub item_value : {K : Type 0} → Kind K → (ℕ → ℕ → K) → Item → ℕ → K
item_value o e (literal t s c) k = cond (k == s) (o.weigh c) o.none
item_value o e (name y) k = e y k

-- the empty tail has the unit at 0, and none elsewhere; a tail the sum over k from 0 to n of its item's at k times the rest's at n - k
abbrev pub tail_value : {K : Type 0} → Kind K → (ℕ → ℕ → K) → List Item → ℕ → K
tail_value o e [] n = cond (n == 0) o.unit o.none
tail_value o e (i ∷ is) n = sum_of o (λ k. o.product (item_value o e i k) (tail_value o e is (n - k))) (below (suc n))

-- the sum over the alternatives
abbrev pub alternatives_value : {K : Type 0} → Kind K → Family → (ℕ → ℕ → K) → ℕ → ℕ → K
alternatives_value o F e y n = sum_of o (λ a. tail_value o e (alternative F y a) n) (below (length (alternatives F y)))

-- over the layouts that are at most d deep
unfoldable pub value_within : {K : Type 0} → Kind K → Family → ℕ → ℕ → ℕ → K
value_within o F zero y n = o.none
value_within o F (suc d) y n = alternatives_value o F (value_within o F d) y n

-- the recursion gives the totals, for every family
abbrev pub RecursionGivesTotals : {K : Type 0} → Kind K → Type 0
RecursionGivesTotals o = (S : ℕ → List ℕ) → Splits S → (F : Family) (y n : ℕ) → total o S F y n ≡ value_within o F (length F * suc n) y n

-- Counting

abbrev pub counting : Kind ℕ
counting = record { none = 0; unit = 1; sum = ◌+◌; product = ◌*◌; weigh = λ c. 1 }

-- how many layouts the name y has of size n, by the recursive method
unfoldable pub count : Family → ℕ → ℕ → ℕ
count F y n = value_within counting F (length F * suc n) y n

-- the sequence is as long as that
abbrev pub SequenceCounted : Type 0
SequenceCounted = (S : ℕ → List ℕ) → Splits S → (F : Family) (y n : ℕ) → length (layouts S F y n) ≡ count F y n

-- a kind whose values v count, and stop at the cap
pub record Counts {K : Type 0} (cap : ℕ) (o : Kind K) (v : K → ℕ) : Type 0 where
  pub none : v o.none ≡ 0
  pub unit : v o.unit ≡ min cap 1
  pub sum : (x y : K) → v (o.sum x y) ≡ min cap (v x + v y)
  pub product : (x y : K) → v (o.product x y) ≡ min cap (v x * v y)
  pub weigh : (c : ℕ) → v (o.weigh c) ≡ min cap 1

pub record CountsCapped {K : Type 0} (cap : ℕ) (o : Kind K) (v : K → ℕ) : Type 0 where
  pub names : (S : ℕ → List ℕ) (F : Family) (y n : ℕ) → v (total o S F y n) ≡ min cap (length (layouts S F y n))
  pub tails : (S : ℕ → List ℕ) (F : Family) (is : List Item) (n : ℕ) → v (tail_total o S F is n) ≡ min cap (length (tail_forests S F is n))

-- its total is the number of layouts, or the cap
abbrev pub CountsUpToCap : {K : Type 0} → Kind K → Type 0
CountsUpToCap {K} o = (cap : ℕ) (v : K → ℕ) → Counts cap o v → CountsCapped cap o v

-- Least costs

-- the sum of a layout's costs
abbrev pub sum_costs : List ℕ → ℕ
sum_costs [] = 0
sum_costs (c ∷ cs) = c + sum_costs cs

-- a kind whose values v are costs that add up, and stop at the cap, of which the sum takes the lower one; the cap stands for no layout
pub record Cheapens {K : Type 0} (cap : ℕ) (o : Kind K) (v : K → ℕ) : Type 0 where
  pub none : v o.none ≡ cap
  pub unit : v o.unit ≡ 0
  pub sum : (x y : K) → v (o.sum x y) ≡ min (v x) (v y)
  pub product : (x y : K) → v (o.product x y) ≡ min cap (v x + v y)
  pub weigh : (c : ℕ) → v (o.weigh c) ≡ min cap c

-- x is the least of the costs of some things, or the cap
pub record LeastCost {A : Type 0} (cap : ℕ) (cost : A → ℕ) (ls : List A) (x : ℕ) : Type 0 where
  pub bound : (l : A) → Among l ls → x ≤ cost l
  pub attained : (x ≡ cap) ⊎ ((l : A) × Among l ls × (x ≡ cost l))
  pub capped : x ≤ cap

pub record Cheapest {K : Type 0} (cap : ℕ) (o : Kind K) (v : K → ℕ) : Type 0 where
  pub names : (S : ℕ → List ℕ) (F : Family) (y n : ℕ) → LeastCost cap (λ l. sum_costs (costs F (name y) l)) (layouts S F y n) (v (total o S F y n))
  pub tails : (S : ℕ → List ℕ) (F : Family) (is : List Item) (n : ℕ) → LeastCost cap (λ t. sum_costs (forest_costs F is t)) (tail_forests S F is n) (v (tail_total o S F is n))

-- its total is the least cost of a layout, or the cap where no layout has a lower cost
abbrev pub TotalsAreCheapest : {K : Type 0} → Kind K → Type 0
TotalsAreCheapest {K} o = (cap : ℕ) (v : K → ℕ) → Cheapens cap o v → Cheapest cap o v
