-- The cheapest. Assumes nothing.
use Rattle.std.specs.Prelude.{ℕ, ◌+◌, min, cond, Some, None, Option, ◌==◌}
use Rattle.std.proofs.Math.Nat.{min-le_left}
use Rattle.std.proofs.Common.{le_trans}
use Rattle.theory.specs.Kinds.{Kind}
use Rattle.tables.specs.declared.cheapest.Cheapest.{Cheapest}

-- n, or the none if less
abbrev pub costing : ℕ → Cheapest
costing n = record { cost = min 4294967295 n; within = min-le_left 4294967295 n }

abbrev pub cheapest_kind : Kind Cheapest
cheapest_kind = record {
  none = costing 4294967295;
  unit = costing 0;
  sum = λ x y. record { cost = min x.cost y.cost; within = le_trans (min-le_left x.cost y.cost) x.within };
  product = λ x y. costing (x.cost + y.cost);
  weigh = λ cost. costing cost;
}

abbrev pub cheapest_shown : Cheapest → Option ℕ
cheapest_shown x = cond (x.cost == 4294967295) None (Some x.cost)
