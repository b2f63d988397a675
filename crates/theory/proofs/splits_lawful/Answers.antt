use Rattle.theory.proofs.Orders.{splits_lawful}
use Rattle.theory.proofs.splits_lawful.Goals as goal

pub returns : goal.returns
returns c = splits_lawful
