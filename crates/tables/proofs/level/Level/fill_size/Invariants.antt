use Rattle.tables.specs.Fillings.{Kept, RanksDone}
use Rattle.tables.proofs.level.Level.fill_size.Given as goal

-- the lower ranks are done
abbrev pub invariant-loop-rank : goal.invariant-loop-rank
invariant-loop-rank g l =
    record { kept : Kept l.initial.self l.self; done : RanksDone g.K.WeightKind.kind l.rank l.self }
