use Rattle.std.proofs.Common.{◌<◌, length, get_or, ap, ◌∙◌, arith}
use Rattle.std.proofs.lemmas.List.{get_or_default}
use Rattle.tables.specs.Counts.{count_kind}
use Rattle.tables.specs.Tables.{rules_of}
use Rattle.tables.proofs.Stored.{rows-model}
use Rattle.tables.proofs.Opens.{checked_totals, totals_each}
use Rattle.tables.proofs.checked.Checked.count.Goals as goal
use Rattle.tables.proofs.checked.Checked.count.Goals.{else-row-self-via-then-row-self+else-size-self, else-row-self-via-else-row-self}

pub returns-then-size-self-clause-total : goal.returns-then-size-self-clause-total
returns-then-size-self-clause-total c = λ h w.
    let t = c.args.self.now in
    let inside : c.place.result < length t.table.now = omega (arith, t.room) in
    ap (λ x. x.value) (get_or_default t.table.now c.place.result c.index-self-place.result count_kind.none inside
    ∙ ap (λ n. get_or t.table.now n count_kind.none) c.place.ensures.exact
    ∙ totals_each count_kind (rules_of t.family.now) t.shape.top t.table.now (checked_totals t) c.args.row c.args.size h w)

pub returns-else-row-self-clause-total : goal.returns-else-row-self-clause-total
returns-else-row-self-clause-total c = λ h l. absurd (elim c.else-row-self.branch [
  | else-row-self-via-then-row-self+else-size-self w ↦ omega (arith, w.if-size-self.false)
  | else-row-self-via-else-row-self w ↦ omega (arith, w.if-row-self.false, c.args.self.now.all_rows, rows-model c.args.self.now.family.now)
])
