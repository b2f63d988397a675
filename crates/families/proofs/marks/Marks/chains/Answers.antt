use Rattle.std.proofs.Common.{rules}
use Rattle.families.proofs.marks.Marks.chains.Goals as goal

pub loop-by-init : goal.loop-by-init
loop-by-init c = λ x y h k. let e = c.new-chains.ensures x y h k in search rules
