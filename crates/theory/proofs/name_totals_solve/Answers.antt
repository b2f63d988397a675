use Rattle.theory.proofs.Tables.{name_totals_solve}
use Rattle.theory.proofs.name_totals_solve.Goals as goal

pub returns : goal.returns
returns g c = name_totals_solve g.W.Weight.kind g.W.Weight.laws
