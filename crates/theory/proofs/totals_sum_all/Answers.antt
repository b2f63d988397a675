use Rattle.theory.proofs.Totals.{totals_sum-all}
use Rattle.theory.proofs.totals_sum_all.Goals as goal

pub returns : goal.returns
returns g c = totals_sum-all g.W.Weight.kind g.W.Weight.laws
