use Rattle.theory.proofs.Sweeps.{sweeps_find_nullable}
use Rattle.theory.proofs.sweeps_find_nullable.Goals as goal

pub returns : goal.returns
returns c = sweeps_find_nullable
