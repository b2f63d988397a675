use Rattle.theory.proofs.Items.{items_numbered}
use Rattle.theory.proofs.items_numbered.Goals as goal

pub returns : goal.returns
returns c = items_numbered
