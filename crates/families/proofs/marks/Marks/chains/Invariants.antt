use Rattle.theory.specs.Nullable.{through}
use Rattle.families.specs.Sound.{marked}
use Rattle.families.specs.Reaches.{Shows, rules_of}
use Rattle.families.proofs.marks.Marks.chains.Given as goal

abbrev pub invariant-loop-by : goal.invariant-loop-by
invariant-loop-by l = Shows l.chains.rows (through (rules_of l.self.draft.now) (marked l.self.nullable) l.by)
