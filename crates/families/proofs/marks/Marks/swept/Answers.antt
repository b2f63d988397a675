use Rattle.std.proofs.Common.{rules, false, ◌≡◌}
use Rattle.theory.specs.Nullable.{sweep}
use Rattle.families.specs.Sound.{marked}
use Rattle.families.specs.Reaches.{rules_of}
use Rattle.families.proofs.Made.{made}
use Rattle.families.proofs.marks.Marks.swept.Goals as goal

pub returns-clause-swept : goal.returns-clause-swept
returns-clause-swept c = λ y l. made _ _ (λ i r. r ≡ sweep (rules_of c.args.self.now.draft.now) (marked c.args.self.now.nullable) i) (λ i r q k. search rules) _ false 32 y c.from_fn.ensures.items l
