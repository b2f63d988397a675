use Rattle.theory.proofs.Ranks.{acyclic_has_ranks}
use Rattle.theory.proofs.acyclic_has_ranks.Goals as goal

pub returns : goal.returns
returns c = acyclic_has_ranks
