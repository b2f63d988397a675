use Rattle.theory.proofs.Totals.{totals_are_cheapest}
use Rattle.theory.proofs.totals_are_cheapest.Goals as goal

pub returns : goal.returns
returns g c = totals_are_cheapest g.W.Weight.kind
