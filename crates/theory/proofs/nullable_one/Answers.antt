use Rattle.theory.proofs.Nullable.{nullable_one}
use Rattle.theory.proofs.nullable_one.Goals as goal

pub returns : goal.returns
returns c = nullable_one
