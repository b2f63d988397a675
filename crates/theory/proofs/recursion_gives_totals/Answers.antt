use Rattle.theory.proofs.Totals.{recursion_gives_totals}
use Rattle.theory.proofs.recursion_gives_totals.Goals as goal

pub returns : goal.returns
returns g c = recursion_gives_totals g.W.Weight.kind g.W.Weight.laws
