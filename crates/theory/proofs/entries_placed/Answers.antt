use Rattle.theory.proofs.Tables.{entries_placed}
use Rattle.theory.proofs.entries_placed.Goals as goal

pub returns : goal.returns
returns c = entries_placed
