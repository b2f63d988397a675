-- How far a walk along a choice list has come. Assumes nothing.
use Rattle.std.specs.Prelude.{◌≡◌, ℕ, ◌+◌, ◌-◌, ◌*◌, ◌<◌, length}
use Rattle.drawing.specs.Descents as descents
use Rattle.drawing.specs.declared.walking.Walk.{Walk}

-- a bound on the steps to come: each choice that is read leaves one tail more
abbrev pub left : Walk → ℕ
left w = 16 * (length w.list.now - w.read) + descents.left w.descent

-- the walk v holds the stack that w holds
abbrev pub SamePlaces : Walk → Walk → Type 0
SamePlaces w v = v.descent.pending.places.ghost_name ≡ w.descent.pending.places.ghost_name

-- the walk stands in a layout: it read the layout's first choice, and left each pending tail at a later one
abbrev pub Standing : Walk → Type 0
Standing w = w.descent.pending.height < w.read
