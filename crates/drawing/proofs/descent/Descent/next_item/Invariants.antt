use Rattle.std.proofs.Common.{◌≡◌, ◌≤◌}
use Rattle.drawing.specs.Descents.{left}
use Rattle.drawing.proofs.descent.Descent.next_item.Given as goal

abbrev pub invariant-loop-item : goal.invariant-loop-item
invariant-loop-item l = record {
  same_reference : l.self.pending.places.ghost_name ≡ l.initial.self.pending.places.ghost_name;
  same : l.self.pending.places.now ≡ l.initial.self.pending.places.now;
  lower : l.self.pending.height ≤ l.initial.self.pending.height;
  nearer : left l.self ≤ left l.initial.self;
}

abbrev pub decreases-loop-item : goal.decreases-loop-item
decreases-loop-item l = l.self.pending.height
