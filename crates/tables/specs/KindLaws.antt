-- The laws of the two kinds. Assumes nothing.
use Rattle.std.specs.Prelude.{◌≡◌, ◌≤◌}
use mathlib.Core.HLevel.{is_prop→PathP}
use Rattle.std.proofs.Common.{arith}
use Rattle.std.proofs.Math.Bridge.{le_prop}
use Rattle.tables.specs.Capped.{cap_product_assoc, cap_left_dist, cap_right_dist}
use Rattle.theory.specs.Kinds.{Laws}
use Rattle.tables.specs.Counts.{count_kind}
use Rattle.tables.specs.Costs.{cheapest_kind}
use Rattle.tables.specs.declared.count.Count.{Count}
use Rattle.tables.specs.declared.cheapest.Cheapest.{Cheapest}

-- two counts with one value are one
pub same_count : {x y : Count} → x.value ≡ y.value → x ≡ y
same_count {x} {y} e = λ i. record { value = e i; within = is_prop→PathP (λ j. e j ≤ 18446744073709551615) (λ j. le_prop) x.within y.within i }

pub count_laws : Laws count_kind
count_laws = record {
  sum_assoc = λ x y z. same_count (omega arith);
  sum_comm = λ x y. same_count (omega arith);
  sum_none = λ x. same_count (omega (arith, x.within));
  product_assoc = λ x y z. same_count (cap_product_assoc 18446744073709551615 x.value y.value z.value);
  unit_left = λ x. same_count (omega (arith, x.within));
  unit_right = λ x. same_count (omega (arith, x.within));
  none_left = λ x. same_count (omega arith);
  none_right = λ x. same_count (omega arith);
  left_dist = λ x y z. same_count (cap_left_dist 18446744073709551615 x.value y.value z.value);
  right_dist = λ x y z. same_count (cap_right_dist 18446744073709551615 x.value y.value z.value);
}

pub same_cost : {x y : Cheapest} → x.cost ≡ y.cost → x ≡ y
same_cost {x} {y} e = λ i. record { cost = e i; within = is_prop→PathP (λ j. e j ≤ 4294967295) (λ j. le_prop) x.within y.within i }

pub cheapest_laws : Laws cheapest_kind
cheapest_laws = record {
  sum_assoc = λ x y z. same_cost (omega arith);
  sum_comm = λ x y. same_cost (omega arith);
  sum_none = λ x. same_cost (omega (arith, x.within));
  product_assoc = λ x y z. same_cost (omega arith);
  unit_left = λ x. same_cost (omega (arith, x.within));
  unit_right = λ x. same_cost (omega (arith, x.within));
  none_left = λ x. same_cost (omega arith);
  none_right = λ x. same_cost (omega arith);
  left_dist = λ x y z. same_cost (omega arith);
  right_dist = λ x y z. same_cost (omega arith);
}
