use Rattle.tables.specs.Fillings.{lists_at, Writes}
use Rattle.tables.proofs.Stored.{Before}
use Rattle.tables.proofs.level.Level.fill_items.Given as goal

-- the items of the names so far are written
abbrev pub invariant-loop-y : goal.invariant-loop-y
invariant-loop-y g l = Writes g.K.WeightKind.kind (Before (lists_at l.initial.self) l.y) l.initial.self l.self
