use Rattle.std.proofs.Common.{ℕ, ◌+◌, subst, ap₂, arith}
use Rattle.families.specs.Sound.{marked}
use Rattle.tables.specs.Tables.{rules_of, entries, Totals}
use Rattle.tables.proofs.Keeps.{keeps}
use Rattle.tables.proofs.Sizes.{ready_all}
use Rattle.tables.proofs.filling.fill.Goals as goal

pub returns : goal.returns
returns g c =
    let o = g.K.WeightKind.kind in
    let fits = c.in_ok-shape.ensures in
    let f = c.args.family.now in
    let u = c.fill_all.new.table in
    let s = c.in_ok-shape.shape in
    record {
      room = fits.0;
      totals = subst (λ (n : ℕ). Totals o (rules_of f) n u) fits.2 (ready_all o g.met.K.WeightKind.laws (rules_of f) (marked f.nullable) (keeps c.args.family.now).adopted s.top u (s.top + 1) (λ z. ⊥) (omega arith) c.fill_all.ensures.ready);
      beyond = λ i d h. c.fill_all.ensures.beyond i d (omega (arith, ap₂ entries fits.1 fits.2));
      length_same = omega arith;
    }
