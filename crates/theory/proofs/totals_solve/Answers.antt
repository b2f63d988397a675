use Rattle.theory.proofs.Tables.{totals_solve}
use Rattle.theory.proofs.totals_solve.Goals as goal

pub returns : goal.returns
returns g c = totals_solve g.W.Weight.kind g.W.Weight.laws
