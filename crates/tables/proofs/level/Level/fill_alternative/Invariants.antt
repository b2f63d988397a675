use Rattle.std.proofs.Common.{◌+◌}
use Rattle.tables.specs.Fillings.{Writes}
use Rattle.tables.proofs.Rows.{From}
use Rattle.tables.proofs.level.Level.fill_alternative.Given as goal

-- the items from `slot` on are written
abbrev pub invariant-loop-slot : goal.invariant-loop-slot
invariant-loop-slot g l =
    Writes g.K.WeightKind.kind (From (l.alternative.first + l.slot) (l.alternative.first + l.alternative.count)) l.initial.self l.self
