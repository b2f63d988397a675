-- Counting, up to a cap. Assumes nothing.
use Rattle.std.specs.Prelude.{ℕ, ◌+◌, ◌*◌, min, Some, Option}
use Rattle.std.proofs.Math.Nat.{min-le_left}
use Rattle.theory.specs.Kinds.{Kind}
use Rattle.tables.specs.declared.count.Count.{Count}

-- n, or the cap if less
abbrev pub capped : ℕ → Count
capped n = record { value = min 18446744073709551615 n; within = min-le_left 18446744073709551615 n }

abbrev pub count_kind : Kind Count
count_kind = record {
  none = capped 0;
  unit = capped 1;
  sum = λ x y. capped (x.value + y.value);
  product = λ x y. capped (x.value * y.value);
  weigh = λ cost. capped 1;
}

abbrev pub count_shown : Count → Option ℕ
count_shown x = Some x.value
