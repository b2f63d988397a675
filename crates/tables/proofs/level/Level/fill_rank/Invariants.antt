use Rattle.tables.proofs.Levels.{Ranking}
use Rattle.tables.proofs.level.Level.fill_rank.Given as goal

-- the lower ranks are done, and of this one the names so far
abbrev pub invariant-loop-y : goal.invariant-loop-y
invariant-loop-y g l = Ranking g.K.WeightKind.kind l.rank l.y l.initial.self l.self
