use Rattle.std.proofs.Common.{ℕ, ◌+◌, ◌<◌, ◌≤◌, length, get_or, subst, arith}
use Rattle.tables.specs.Tables.{rules_of}
use Rattle.tables.specs.Fillings.{SizesDone, lists_at}
use Rattle.tables.proofs.Stored.{length-model}
use Rattle.tables.proofs.Levels.{onward, ready_lower, ready_done}
use Rattle.tables.proofs.level.Level.fill_size.Goals as goal

pub fill_items-requires : goal.fill_items-requires
fill_items-requires g c =
    let f = c.loop-rank.self.family.now in
    ready_lower g.K.WeightKind.kind g.met.K.WeightKind.laws (λ z. get_or f.ranks z 0 < c.loop-rank.rank) c.loop-rank.self c.loop-rank.invariant.done

pub returns-clause-done : goal.returns-clause-done
returns-clause-done g c =
    let a = c.args.self.now in
    let b = c.loop-rank.self in
    let o = g.K.WeightKind.kind in
    let kept = c.loop-rank.invariant.kept in
    subst (λ (n : ℕ). SizesDone o (n + 1) c.fill_items.new.self) kept.size
    (ready_done o g.met.K.WeightKind.laws c.loop-rank.rank b c.fill_items.new.self
    (onward a b kept (λ f s n. length (rules_of f.now) ≤ c.loop-rank.rank) (omega (arith, length-model (lists_at a))))
    c.loop-rank.invariant.done c.fill_items.ensures)
