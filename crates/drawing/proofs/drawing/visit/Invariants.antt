use Rattle.std.proofs.Common.{◌≡◌, ◌+◌, ◌-◌, ◌*◌, ◌≤◌, length, drop}
use Rattle.drawing.specs.Descents.{left}
use Rattle.drawing.proofs.drawing.visit.Given as goal

abbrev pub invariant-loop-item : goal.invariant-loop-item
invariant-loop-item g l = record {
  same_list : l.choices.places.ghost_name ≡ l.initial.choices.places.ghost_name;
  same_stack : l.descent.pending.places.ghost_name ≡ l.initial.descent.pending.places.ghost_name;
  room : length l.choices.places.now ≤ length l.descent.pending.places.now;
  fewer : l.descent.pending.height ≤ l.choices.height;
  behind : drop l.choices.height l.choices.places.now ≡ drop l.choices.height l.fn.list;
}

abbrev pub decreases-loop-item : goal.decreases-loop-item
decreases-loop-item g l = 16 * (length l.choices.places.now - l.choices.height) + left l.descent
