use Rattle.std.proofs.Common.{◌≡◌, ◌+◌, ◌*◌, ◌≤◌, take, ap, ◌∙◌, mul-le-mul, arith}
use Rattle.std.proofs.lemmas.Grind.{common_steps}
use Rattle.families.specs.Sound.{marked}
use Rattle.tables.specs.Counts.{count_kind}
use Rattle.tables.specs.Tables.{rules_of, entries}
use Rattle.tables.specs.Openings.{first_unequal}
use Rattle.tables.proofs.Opens.{ready_each, compared}
use Rattle.tables.proofs.scratch.Scratch.first_wrong.Goals as goal

pub returns : goal.returns
returns c =
    let f = c.args.family.now in
    let s = c.args.shape in
    let u = c.fill_all.new.table in
    let kept : c.deref.result.now ≡ u = grind (arith, common_steps) in
    let most : s.rows * (s.top + 1) ≤ 160 * 41 = mul-le-mul {n₁ = s.rows} {m₁ = s.top + 1} {n₂ = 160} {m₂ = 41} s.few (omega (arith, s.low)) in
    compared (rules_of f) s.top c.args.table.now u
    (ready_each count_kind (rules_of f) (marked f.nullable) s.top (s.top + 1) (λ z. ⊥) u (omega arith) c.fill_all.ensures.ready)
    c.entries-size.result (c.entries-size.ensures ∙ ap (λ r. entries r s.top) c.requires.rows) (omega arith) (omega (arith, c.deref_mut.ensures.len, c.args.self.now.long)) c.first_difference.result
    (c.first_difference.ensures ∙ ap (λ w. first_unequal (take c.entries-size.result c.args.table.now) (take c.entries-size.result w)) kept)
