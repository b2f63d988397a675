use Rattle.std.proofs.Common.{refl}
use Rattle.theory.proofs.Totals.{totals_are_cheapest}
use Rattle.tables.specs.Costs.{cheapest_kind}
use Rattle.tables.proofs.meanings.costs_are_least.Goals as goal

pub returns : goal.returns
returns c = totals_are_cheapest cheapest_kind 4294967295 (λ x. x.cost) (record { none = refl; unit = refl; sum = λ x y. refl; product = λ x y. refl; weigh = λ n. refl })
