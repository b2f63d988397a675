use Rattle.std.proofs.Common.{◌≡◌, ◌+◌, ◌-◌, min, drop, sym, ap, ◌∙◌, subst, ap₂, arith}
use Rattle.theory.specs.Totals.{item_value, tail_value}
use Rattle.files.specs.Models.{item_model, alternative_model}
use Rattle.tables.specs.Fillings.{Below, symbols_of, lists_at, value_at}
use Rattle.tables.proofs.Stored.{item_below}
use Rattle.tables.proofs.Rows.{split_term, sum_step, tail_sum}
use Rattle.tables.proofs.level.Level.tail_total.Goals as goal

pub item_total-requires-clause-known : goal.item_total-requires-clause-known
item_total-requires-clause-known g c =
    let l = c.args.self.now in
    subst (Below l.shape.rows) (sym c.item-item.ensures)
    (item_below (lists_at l) c.args.tail.alternative c.requires.stands c.args.tail.slot l.shape.rows c.requires.there (omega (arith, l.all_rows)))

pub loop-k-preserved : goal.loop-k-preserved
loop-k-preserved g c =
    let o = g.K.WeightKind.kind in
    let l = c.args.self.now in
    let first = c.item_total.ensures (lists_at l).labels ∙ ap (λ i. item_value o (value_at o l) (item_model (lists_at l).labels i) c.loop-k.k) c.item-item.ensures in
    let a = c.args.tail.alternative in
    let slot : min 18446744073709551615 (c.args.tail.slot + 1) ≡ c.args.tail.slot + 1 = omega (arith, c.requires.there, c.requires.stands.six) in
    let rest =
    c.rest_total.ensures
    ∙ ap (λ t. tail_value o (value_at o l) (symbols_of (lists_at l).labels t) (l.size - c.loop-k.k)) c.rest-rest.ensures
    ∙ ap (λ n. tail_value o (value_at o l) (drop n (alternative_model (lists_at l).labels a)) (l.size - c.loop-k.k)) slot in
    sum_step o g.met.K.WeightKind.laws (split_term o (value_at o l) (lists_at l).labels c.args.tail.alternative c.args.tail.slot l.size) c.loop-k.k c.loop-k.total c.times-split.result c.plus-total.result c.loop-k.invariant
    (c.times-split.ensures ∙ ap₂ o.product first rest) c.plus-total.ensures

pub returns : goal.returns
returns g c =
    let l = c.args.self.now in
    c.loop-k.invariant ∙ tail_sum g.K.WeightKind.kind (lists_at l) c.args.tail.alternative c.requires.stands l.shape.top l.table.now c.args.tail.slot l.size c.loop-k.k (omega arith) c.requires.there
