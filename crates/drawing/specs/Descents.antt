-- How far a descent has come. Assumes nothing.
use Rattle.std.specs.Prelude.{ℕ, ◌+◌, ◌-◌, ◌*◌}
use Rattle.drawing.specs.declared.descent.Descent.{Descent}

-- a bound on the steps to come, but for the names that are still to be entered
abbrev pub left : Descent → ℕ
left d = 8 * d.pending.height + (8 - d.current.slot)
