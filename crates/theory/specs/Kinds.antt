-- Weight kinds: what they have and the laws that they keep. Assumes nothing.
use Rattle.std.specs.Prelude.{◌≡◌, ℕ}

-- a set of values with a none, a unit, a sum, a product and a weight for each cost
pub record Kind (K : Type 0) : Type 0 where
  pub none : K
  pub unit : K
  pub sum : K → K → K
  pub product : K → K → K
  pub weigh : ℕ → K

-- a semiring; the product need not commute
pub record Laws {K : Type 0} (o : Kind K) : Type 0 where
  pub sum_assoc : (x y z : K) → o.sum (o.sum x y) z ≡ o.sum x (o.sum y z)
  pub sum_comm : (x y : K) → o.sum x y ≡ o.sum y x
  pub sum_none : (x : K) → o.sum o.none x ≡ x
  pub product_assoc : (x y z : K) → o.product (o.product x y) z ≡ o.product x (o.product y z)
  pub unit_left : (x : K) → o.product o.unit x ≡ x
  pub unit_right : (x : K) → o.product x o.unit ≡ x
  pub none_left : (x : K) → o.product o.none x ≡ o.none
  pub none_right : (x : K) → o.product x o.none ≡ o.none
  pub left_dist : (x y z : K) → o.product x (o.sum y z) ≡ o.sum (o.product x y) (o.product x z)
  pub right_dist : (x y z : K) → o.product (o.sum x y) z ≡ o.sum (o.product x z) (o.product y z)
