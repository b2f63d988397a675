use Rattle.theory.proofs.Ranks.{closure_adopts}
use Rattle.theory.proofs.closure_adopts.Goals as goal

pub returns : goal.returns
returns c = closure_adopts
