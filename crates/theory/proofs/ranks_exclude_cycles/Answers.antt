use Rattle.theory.proofs.Ranks.{ranks_exclude_cycles}
use Rattle.theory.proofs.ranks_exclude_cycles.Goals as goal

pub returns : goal.returns
returns c = ranks_exclude_cycles
