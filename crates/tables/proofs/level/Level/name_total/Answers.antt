use Rattle.std.proofs.Common.{◌≡◌, ◌+◌, map, length, sym, ap, ◌∙◌, subst, arith}
use Rattle.std.proofs.lemmas.List.{length-map}
use Rattle.theory.specs.Lists.{below}
use Rattle.theory.specs.Families.{alternatives, alternative}
use Rattle.theory.specs.Totals.{sum_of, tail_value}
use Rattle.files.specs.Models.{alternative_model, rule_model}
use Rattle.files.specs.declared.item.Alternative.{Alternative}
use Rattle.files.proofs.Places.{rule_is}
use Rattle.tables.specs.Fillings.{Of, rules_at, lists_at, value_at}
use Rattle.tables.proofs.Rows.{sum_step}
use Rattle.tables.proofs.Levels.{element, found_at}
use Rattle.tables.proofs.level.Level.name_total.Goals as goal

pub rest_total-requires-clause-stands : goal.rest_total-requires-clause-stands
rest_total-requires-clause-stands g c =
    (found_at c.args.self.now c.args.y c.loop-alternative.alternative-index c.rule.result c.alternatives-alternative-items.result.now c.requires.there c.rule.ensures c.alternatives-alternative-items.ensures c.loop-alternative-test.true).stood

pub rest_total-requires-clause-right : goal.rest_total-requires-clause-right
rest_total-requires-clause-right g c = λ h.
    let i = c.loop-alternative.alternative-index in
    let xs = c.alternatives-alternative-items.result.now in
    let first = (element xs i).first in
    let q = found_at c.args.self.now c.args.y i c.rule.result xs c.requires.there c.rule.ensures c.alternatives-alternative-items.ensures c.loop-alternative-test.true in
    c.requires.right (first + 0) (q.stood.inside 0 h) (i, q.below, subst (λ (z : Alternative). Of z (first + 0)) q.same (omega arith, omega arith))

pub loop-alternative-preserved : goal.loop-alternative-preserved
loop-alternative-preserved g c =
    let o = g.K.WeightKind.kind in
    let l = c.args.self.now in
    let i = c.loop-alternative.alternative-index in
    let q = found_at l c.args.y i c.rule.result c.alternatives-alternative-items.result.now c.requires.there c.rule.ensures c.alternatives-alternative-items.ensures c.loop-alternative-test.true in
    sum_step o g.met.K.WeightKind.laws (λ b. tail_value o (value_at o l) (alternative (rules_at l) c.args.y b) l.size) i c.loop-alternative.total c.rest_total.result c.plus-total.result c.loop-alternative.invariant
    (c.rest_total.ensures ∙ ap (λ z. tail_value o (value_at o l) z l.size) (sym q.items)) c.plus-total.ensures

pub returns : goal.returns
returns g c =
    let o = g.K.WeightKind.kind in
    let l = c.args.self.now in
    let xs = c.alternatives-alternative-items.result.now in
    let many : length (alternatives (rules_at l) c.args.y) ≡ length xs =
    ap length (rule_is (lists_at l) c.args.y)
    ∙ ap (λ r. length (rule_model (lists_at l) r)) (sym c.rule.ensures)
    ∙ ap (λ zs. length (map (alternative_model (lists_at l).labels) zs)) (sym c.alternatives-alternative-items.ensures)
    ∙ length-map xs (alternative_model (lists_at l).labels) in
    let all : c.loop-alternative.alternative-index ≡ length (alternatives (rules_at l) c.args.y) = omega (arith, many) in
    c.loop-alternative.invariant ∙ ap (λ m. sum_of o (λ a. tail_value o (value_at o l) (alternative (rules_at l) c.args.y a) l.size) (below m)) all
