use Rattle.std.proofs.Common.{rules}
use Rattle.families.proofs.relation.Relation.lengthened.Goals as goal

pub returns : goal.returns
returns c = λ x y h k. let e = c.new.ensures x y h k in search rules
