use Rattle.theory.proofs.Numbers.{choices_tell}
use Rattle.theory.proofs.choices_tell.Goals as goal

pub returns : goal.returns
returns c = choices_tell
