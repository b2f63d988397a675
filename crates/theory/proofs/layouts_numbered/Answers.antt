use Rattle.theory.proofs.Numbers.{layouts_numbered}
use Rattle.theory.proofs.layouts_numbered.Goals as goal

pub returns : goal.returns
returns c = layouts_numbered
