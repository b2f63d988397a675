-- What the totals of the two kinds are. Assumes nothing.
use Rattle.theory.specs.Totals.{CountsCapped, Cheapest as LeastCosts}
use Rattle.tables.specs.Counts.{count_kind}
use Rattle.tables.specs.Costs.{cheapest_kind}

-- a count is the true number of layouts, or the cap where there are that many or more
abbrev pub CountsAreTrue : Type 0
CountsAreTrue = CountsCapped 18446744073709551615 count_kind (λ c. c.value)

-- a cheapest total is the least sum of costs of a layout, or the none where no layout costs less than it
abbrev pub CostsAreLeast : Type 0
CostsAreLeast = LeastCosts 4294967295 cheapest_kind (λ c. c.cost)
