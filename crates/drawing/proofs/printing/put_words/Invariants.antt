use Rattle.drawing.specs.Texts.{Continues}
use Rattle.drawing.specs.Walks.{left, SamePlaces}
use Rattle.drawing.proofs.printing.put_words.Given as goal

abbrev pub invariant-loop-item : goal.invariant-loop-item
invariant-loop-item l = record {
  same : SamePlaces l.initial.walk l.walk;
  continued : Continues l.initial.text l.text;
}

abbrev pub decreases-loop-item : goal.decreases-loop-item
decreases-loop-item l = left l.walk
