use Rattle.theory.proofs.Sequence.{sequence_unfolds}
use Rattle.theory.proofs.sequence_unfolds.Goals as goal

pub returns : goal.returns
returns c = sequence_unfolds
