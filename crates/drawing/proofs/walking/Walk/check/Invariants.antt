use Rattle.drawing.specs.Walks.{left, SamePlaces}
use Rattle.drawing.proofs.walking.Walk.check.Given as goal

abbrev pub invariant-loop : goal.invariant-loop
invariant-loop l = SamePlaces l.initial.self l.self

abbrev pub decreases-loop : goal.decreases-loop
decreases-loop l = left l.self
