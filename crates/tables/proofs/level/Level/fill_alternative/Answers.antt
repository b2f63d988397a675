use Rattle.std.proofs.Common.{◌≡◌, ℕ, ◌+◌, ◌-◌, ◌<◌, inl, inr, ⊎_elim, arith}
use Rattle.std.proofs.lemmas.Bool.{cases_eq}
use Rattle.theory.specs.Families.{item_count}
use Rattle.tables.specs.Tables.{rules_of}
use Rattle.tables.proofs.Rows.{From}
use Rattle.tables.proofs.Levels.{onward, writes_then, writes_right, put_writes}
use Rattle.tables.proofs.level.Level.fill_alternative.Goals as goal

pub tail_total-total-requires-clause-rest : goal.tail_total-total-requires-clause-rest
tail_total-total-requires-clause-rest g c = λ k w h.
    let a = c.args.alternative in
    let p : ℕ = c.loop-slot.slot - 1 + 1 in
    writes_right g.K.WeightKind.kind g.met.K.WeightKind.laws (From (a.first + c.loop-slot.slot) (a.first + a.count)) c.args.self.now c.loop-slot.self c.loop-slot.invariant c.requires.lower (a.first + p) k
    (c.requires.stands.inside p h) (omega arith, omega arith) w

pub loop-slot-preserved : goal.loop-slot-preserved
loop-slot-preserved g c =
    let o = g.K.WeightKind.kind in
    let laws = g.met.K.WeightKind.laws in
    let a = c.args.alternative in
    let slot : ℕ = c.loop-slot.slot - 1 in
    let b = c.loop-slot.self in
    let one = put_writes o laws b c.put.new.self (a.first + slot) c.row.result c.tail_total-total.result
    (onward c.args.self.now b c.loop-slot.invariant.kept (λ f s n. a.first + slot < item_count (rules_of f.now)) (c.requires.stands.inside slot (omega arith)))
    c.row.ensures.row c.tail_total-total.ensures c.put.ensures.kept c.put.ensures.put in
    writes_then o laws (From (a.first + c.loop-slot.slot) (a.first + a.count)) (λ j. j ≡ a.first + slot) (From (a.first + slot) (a.first + a.count)) c.args.self.now b c.put.new.self
    (λ j x. ⊎_elim (λ (e : j ≡ a.first + slot). inr e) (λ (e : j ≡ a.first + slot → ⊥). inl (omega (arith, x.0), x.1)) (cases_eq j (a.first + slot)))
    c.loop-slot.invariant one
