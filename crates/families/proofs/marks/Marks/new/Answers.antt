use Rattle.std.proofs.Common.{◌≡◌, length, refl, ap, ◌∙◌, arith}
use Rattle.theory.specs.Nullable.{sweep, swept}
use Rattle.families.specs.Sound.{marked}
use Rattle.files.specs.Grammars.{lists_of}
use Rattle.files.proofs.Places.{names_are}
use Rattle.families.specs.Reaches.{rules_of}
use Rattle.families.proofs.Sweeping.{unswept, swept_more}
use Rattle.families.proofs.marks.Marks.new.Goals as goal

pub loop-init : goal.loop-init
loop-init c = (refl, unswept c.args.draft.now)

pub loop-preserved : goal.loop-preserved
loop-preserved c = (
  c.swept-marks.ensures.draft ∙ c.loop.invariant.0,
  swept_more c.args.draft.now c.loop.marks.nullable c.swept-marks.result.nullable c.loop.counter (omega arith) c.loop.invariant.1
      (λ y l. c.swept-marks.ensures.swept y l ∙ ap (λ v. sweep (rules_of v) (marked c.loop.marks.nullable) y) c.loop.invariant.0),
)

pub returns-clause-found : goal.returns-clause-found
returns-clause-found c = λ y.
    let all : c.loop.counter ≡ length (rules_of c.args.draft.now) = omega (arith, names_are (lists_of c.args.draft.now.grammar), ap (λ v. length v.rules.items) c.grammar.ensures) in
    ap (λ p. p y) c.loop.invariant.1 ∙ ap (λ n. swept (rules_of c.args.draft.now) n y) all
