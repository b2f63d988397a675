use Rattle.tables.specs.Fillings.{lists_at, Writes}
use Rattle.tables.proofs.Stored.{Upto}
use Rattle.tables.proofs.level.Level.fill_alternatives.Given as goal

-- the alternatives so far are written
abbrev pub invariant-loop-alternative : goal.invariant-loop-alternative
invariant-loop-alternative g l =
    Writes g.K.WeightKind.kind (Upto (lists_at l.initial.self) l.y l.alternative-index) l.initial.self l.self
