use Rattle.std.proofs.Common.{◌≡◌}
use Rattle.theory.specs.Nullable.{swept}
use Rattle.families.specs.Sound.{marked}
use Rattle.families.specs.Reaches.{rules_of}
use Rattle.families.proofs.marks.Marks.new.Given as goal

abbrev pub invariant-loop : goal.invariant-loop
invariant-loop l = (l.marks.draft.now ≡ l.draft) × (marked l.marks.nullable ≡ swept (rules_of l.draft) l.counter)
