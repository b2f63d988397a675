use Rattle.std.proofs.Common.{length, sym, refl, ap, ◌∙◌, subst, arith}
use Rattle.files.specs.Grammars.{Lists, lists_of, rule_at}
use Rattle.files.specs.Models.{NamesDiffer}
use Rattle.files.specs.declared.fault.Fault.TheVariants.{EmptyCycle}
use Rattle.families.specs.Sound.{Sound}
use Rattle.families.proofs.Cycles.{on_cycle, off_cycle, acyclic, sound}
use Rattle.families.proofs.family.Family.adopt.Goals as goal

pub returns-in-Some-clause-adopts : goal.returns-in-Some-clause-adopts
returns-in-Some-clause-adopts c =
    let rule = c.rule.ensures ∙ ap (λ v. rule_at v.rules.items c.in-Some.cycle) c.grammar-grammar.ensures in
    let cycle = on_cycle _ _ c.new-marks.ensures.draft _ _ c.new-marks.ensures.found c.chains-chains.ensures c.in-Some.cycle c.in-Some.ensures.0 c.in-Some.ensures.1 in (
      refl,
      refl,
      refl,
      record {
        name = c.in-Some.cycle;
        defined = cycle.0;
        is = ap EmptyCycle (c.span.ensures ∙ ap (λ r. record { place = r.label.place; length = r.label.length }) rule);
        cycle = cycle.1;
        first = λ z h. off_cycle _ _ c.new-marks.ensures.draft _ _ c.new-marks.ensures.found c.chains-chains.ensures z (omega (arith, c.in-Some.ensures.0)) (c.in-Some.ensures.2 z h);
      },
    )

pub invariant_of-self : goal.invariant_of-self
invariant_of-self c =
    let copied = c.copy_from.ensures ∙ ap lists_of c.grammar-grammar.ensures in
    let many = c.names.ensures.value ∙ ap (λ v. length v.rules.items) c.grammar-grammar.ensures in
    let whole = sound _ _ c.new-marks.ensures.draft _ _ c.new-marks.ensures.found c.chains-chains.ensures c.in_default.ensures c.ranks-self.result c.names.result many c.ranks-self.ensures in
    record {
      sound = ∣ subst (λ (v : Lists). Sound v c.new-marks.result.nullable c.ranks-self.result) (sym copied) whole ∣₁;
      names_differ = subst (λ (v : Lists). ∥ NamesDiffer v ∥₁) (sym copied) c.args.draft.names_differ;
    }

pub returns-clause-adopts : goal.returns-clause-adopts
returns-clause-adopts c = (c.copy_from.ensures ∙ ap lists_of c.grammar-grammar.ensures, acyclic _ _ c.new-marks.ensures.draft _ _ c.new-marks.ensures.found c.chains-chains.ensures c.in_default.ensures)

pub returns-clause-keeps : goal.returns-clause-keeps
returns-clause-keeps c =
    let many = c.names.ensures.value ∙ ap (λ v. length v.rules.items) c.grammar-grammar.ensures in
    sound _ _ c.new-marks.ensures.draft _ _ c.new-marks.ensures.found c.chains-chains.ensures c.in_default.ensures c.ranks-self.result c.names.result many c.ranks-self.ensures
