use Rattle.families.specs.Sound.{marked}
use Rattle.tables.specs.Tables.{rules_of, Beyond}
use Rattle.tables.specs.Fillings.{Ready}
use Rattle.tables.proofs.filling.fill_all.Given as goal

-- the lower sizes are done
abbrev pub invariant-loop-size : goal.invariant-loop-size
invariant-loop-size g l =
    record {
      ready : Ready g.K.WeightKind.kind (rules_of l.family) (marked l.family.nullable) l.shape.top l.size (λ z. ⊥) l.table;
      beyond : Beyond l.shape.rows l.shape.top l.initial.table l.table;
    }
