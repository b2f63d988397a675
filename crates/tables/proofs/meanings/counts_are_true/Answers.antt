use Rattle.std.proofs.Common.{refl}
use Rattle.theory.proofs.Totals.{counts_up_to_cap}
use Rattle.tables.specs.Counts.{count_kind}
use Rattle.tables.proofs.meanings.counts_are_true.Goals as goal

pub returns : goal.returns
returns c = counts_up_to_cap count_kind 18446744073709551615 (λ x. x.value) (record { none = refl; unit = refl; sum = λ x y. refl; product = λ x y. refl; weigh = λ n. refl })
