use Rattle.theory.proofs.Depth.{layouts_shallow}
use Rattle.theory.proofs.layouts_shallow.Goals as goal

pub returns : goal.returns
returns c = layouts_shallow
