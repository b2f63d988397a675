use Rattle.std.proofs.Common.{◌≡◌, ◌+◌, sym, ap, ◌∙◌, subst, inl, inr, ⊎_elim, arith}
use Rattle.std.proofs.lemmas.Bool.{cases_eq}
use Rattle.files.specs.Grammars.{lists_of, rule_at, alternative_at}
use Rattle.files.specs.declared.item.Alternative.{Alternative}
use Rattle.tables.specs.Fillings.{Stands, Of, lists_at}
use Rattle.tables.proofs.Stored.{Upto}
use Rattle.tables.proofs.Levels.{onward, element, found_at, writes_then, writes_lower}
use Rattle.tables.proofs.level.Level.fill_alternatives.Goals as goal

pub fill_alternative-requires-clause-stands : goal.fill_alternative-requires-clause-stands
fill_alternative-requires-clause-stands g c =
    let l = c.args.self.now in
    let i = c.loop-alternative.alternative-index in
    let xs = c.alternatives-alternative-items.result.now in
    onward l c.loop-alternative.self c.loop-alternative.invariant.kept (λ f s n. Stands (lists_of f.now.grammar) (element xs i))
    (found_at l c.args.y i c.rule.result xs c.requires.there c.rule.ensures c.alternatives-alternative-items.ensures c.loop-alternative-test.true).stood

pub fill_alternative-requires-clause-lower : goal.fill_alternative-requires-clause-lower
fill_alternative-requires-clause-lower g c =
    writes_lower g.K.WeightKind.kind g.met.K.WeightKind.laws (Upto (lists_at c.args.self.now) c.args.y c.loop-alternative.alternative-index) c.args.self.now c.loop-alternative.self c.loop-alternative.invariant c.requires.lower

pub loop-alternative-preserved : goal.loop-alternative-preserved
loop-alternative-preserved g c =
    let l = lists_at c.args.self.now in
    let i = c.loop-alternative.alternative-index in
    let xs = c.alternatives-alternative-items.result.now in
    let q = found_at c.args.self.now c.args.y i c.rule.result xs c.requires.there c.rule.ensures c.alternatives-alternative-items.ensures c.loop-alternative-test.true in
    writes_then g.K.WeightKind.kind g.met.K.WeightKind.laws (Upto l c.args.y i) (Of (element xs i)) (Upto l c.args.y (i + 1)) c.args.self.now c.loop-alternative.self c.fill_alternative.new.self
    (λ j x.
    ⊎_elim
    (λ (e : x.0 ≡ i). inr (subst (λ (a : Alternative). Of a j) (ap (λ k. alternative_at l.alternatives ((rule_at l.rules c.args.y).first + k)) e ∙ sym q.same) x.2))
    (λ (e : x.0 ≡ i → ⊥). inl (x.0, omega (arith, x.1), x.2))
    (cases_eq x.0 i))
    c.loop-alternative.invariant c.fill_alternative.ensures
