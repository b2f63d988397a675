use Rattle.std.proofs.Common.{◌≡◌}
use Rattle.theory.specs.Lists.{below}
use Rattle.theory.specs.Families.{alternative}
use Rattle.theory.specs.Totals.{sum_of, tail_value}
use Rattle.tables.specs.Fillings.{rules_at, value_at}
use Rattle.tables.proofs.level.Level.name_total.Given as goal

-- the sum of the alternatives so far
abbrev pub invariant-loop-alternative : goal.invariant-loop-alternative
invariant-loop-alternative g l =
    let o = g.K.WeightKind.kind in
    l.total ≡ sum_of o (λ a. tail_value o (value_at o l.self) (alternative (rules_at l.self) l.y a) l.self.size) (below l.alternative-index)
