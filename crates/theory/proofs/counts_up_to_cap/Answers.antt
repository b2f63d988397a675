use Rattle.theory.proofs.Totals.{counts_up_to_cap}
use Rattle.theory.proofs.counts_up_to_cap.Goals as goal

pub returns : goal.returns
returns g c = counts_up_to_cap g.W.Weight.kind
