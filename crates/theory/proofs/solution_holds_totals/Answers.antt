use Rattle.theory.proofs.Tables.{solution_holds_totals}
use Rattle.theory.proofs.solution_holds_totals.Goals as goal

pub returns : goal.returns
returns g c = solution_holds_totals g.W.Weight.kind g.W.Weight.laws
