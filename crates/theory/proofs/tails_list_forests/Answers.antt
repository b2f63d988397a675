use Rattle.theory.proofs.Sequence.{tails_list_forests}
use Rattle.theory.proofs.tails_list_forests.Goals as goal

pub returns : goal.returns
returns c = tails_list_forests
