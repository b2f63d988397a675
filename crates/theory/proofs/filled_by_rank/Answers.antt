use Rattle.theory.proofs.Tables.{filled_by_rank}
use Rattle.theory.proofs.filled_by_rank.Goals as goal

pub returns : goal.returns
returns g c = filled_by_rank g.W.Weight.kind g.W.Weight.laws
