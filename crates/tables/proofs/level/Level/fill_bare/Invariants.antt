use Rattle.families.specs.Sound.{marked}
use Rattle.tables.specs.Fillings.{Kept}
use Rattle.tables.proofs.Sizes.{Bare}
use Rattle.tables.proofs.level.Level.fill_bare.Given as goal

-- the names so far have their none at 0 where they cannot be empty
abbrev pub invariant-loop-y : goal.invariant-loop-y
invariant-loop-y g l =
    record {
      kept : Kept l.initial.self l.self;
      bare : Bare g.K.WeightKind.kind l.self.shape.top (marked l.self.family.now.nullable) l.self.table.now l.y;
    }
