use Rattle.theory.proofs.Tables.{names_hold_totals}
use Rattle.theory.proofs.names_hold_totals.Goals as goal

pub returns : goal.returns
returns g c = names_hold_totals g.W.Weight.kind g.W.Weight.laws
