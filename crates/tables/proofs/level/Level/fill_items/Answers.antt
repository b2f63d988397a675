use Rattle.std.proofs.Common.{◌≡◌, ℕ, ◌+◌, subst, inl, inr, ⊎_elim, arith}
use Rattle.std.proofs.lemmas.Bool.{cases_eq}
use Rattle.files.specs.Grammars.{lists_of}
use Rattle.tables.specs.Fillings.{Under, lists_at}
use Rattle.tables.proofs.Keeps.{keeps}
use Rattle.tables.proofs.Stored.{Before, length-model, every_item}
use Rattle.tables.proofs.Levels.{onward, writes_then, writes_lower}
use Rattle.tables.proofs.level.Level.fill_items.Goals as goal

pub fill_alternatives-requires-clause-lower : goal.fill_alternatives-requires-clause-lower
fill_alternatives-requires-clause-lower g c =
    writes_lower g.K.WeightKind.kind g.met.K.WeightKind.laws (Before (lists_at c.args.self.now) c.loop-y.y) c.args.self.now c.loop-y.self c.loop-y.invariant c.requires

pub loop-y-preserved : goal.loop-y-preserved
loop-y-preserved g c =
    let a = c.args.self.now in
    let b = c.loop-y.self in
    let y = c.loop-y.y in
    writes_then g.K.WeightKind.kind g.met.K.WeightKind.laws (Before (lists_at a) y) (Under (lists_at b) y) (Before (lists_at a) (y + 1)) a b c.fill_alternatives.new.self
    (λ j x.
    ⊎_elim
    (λ (e : x.0 ≡ y). inr (onward a b c.loop-y.invariant.kept (λ f s n. Under (lists_of f.now.grammar) y j) (subst (λ (z : ℕ). Under (lists_at a) z j) e x.2)))
    (λ (e : x.0 ≡ y → ⊥). inl (x.0, omega (arith, x.1), x.2))
    (cases_eq x.0 y))
    c.loop-y.invariant c.fill_alternatives.ensures

pub returns : goal.returns
returns g c =
    let a = c.args.self.now in
    let w = c.loop-y.invariant.wrote in
    record {
      kept = c.loop-y.invariant.kept;
      wrote = record {
        new = λ j h x.
            let q = every_item (lists_at a) (keeps a.family.now).fitting (keeps a.family.now).adopted.defined j h in
            w.new j h (q.0, omega (arith, q.1, length-model (lists_at a)), q.2);
        still = w.still;
        changed = w.changed;
      };
    }
