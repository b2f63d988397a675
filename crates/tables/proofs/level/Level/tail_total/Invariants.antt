use Rattle.std.proofs.Common.{◌≡◌}
use Rattle.theory.specs.Lists.{below}
use Rattle.theory.specs.Totals.{sum_of}
use Rattle.tables.specs.Fillings.{lists_at, value_at}
use Rattle.tables.proofs.Rows.{split_term}
use Rattle.tables.proofs.level.Level.tail_total.Given as goal

-- the sum over the splits so far
abbrev pub invariant-loop-k : goal.invariant-loop-k
invariant-loop-k g l =
    let o = g.K.WeightKind.kind in
    l.total ≡ sum_of o (split_term o (value_at o l.self) (lists_at l.self).labels l.fn.tail.alternative l.fn.tail.slot l.self.size) (below l.k)
