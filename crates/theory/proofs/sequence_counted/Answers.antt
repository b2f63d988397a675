use Rattle.theory.proofs.Totals.{sequence_counted}
use Rattle.theory.proofs.sequence_counted.Goals as goal

pub returns : goal.returns
returns c = sequence_counted
