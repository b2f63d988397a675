use Rattle.theory.proofs.Numbers.{pairs_numbered}
use Rattle.theory.proofs.pairs_numbered.Goals as goal

pub returns : goal.returns
returns c = pairs_numbered
