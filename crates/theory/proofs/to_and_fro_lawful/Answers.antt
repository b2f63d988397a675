use Rattle.theory.proofs.Orders.{to_and_fro_lawful}
use Rattle.theory.proofs.to_and_fro_lawful.Goals as goal

pub returns : goal.returns
returns c = to_and_fro_lawful
