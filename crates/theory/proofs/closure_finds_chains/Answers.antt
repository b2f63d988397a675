use Rattle.theory.proofs.Ranks.{closure_finds_chains}
use Rattle.theory.proofs.closure_finds_chains.Goals as goal

pub returns : goal.returns
returns c = closure_finds_chains
