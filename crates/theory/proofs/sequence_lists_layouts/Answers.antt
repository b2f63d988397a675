use Rattle.theory.proofs.Sequence.{sequence_lists_layouts}
use Rattle.theory.proofs.sequence_lists_layouts.Goals as goal

pub returns : goal.returns
returns c = sequence_lists_layouts
