use Rattle.theory.proofs.Nullable.{nullable_has_empty_layout}
use Rattle.theory.proofs.nullable_has_empty_layout.Goals as goal

pub returns : goal.returns
returns c = nullable_has_empty_layout
