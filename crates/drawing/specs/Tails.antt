-- Tails that are pending. Assumes nothing.
use Rattle.std.specs.Prelude.{◌≡◌, ℕ}
use Rattle.drawing.specs.declared.pending.Pending.{Pending}

-- the tail of alternative a from place s on, with the size n and the number x
abbrev pub TailOf : Pending → ℕ → ℕ → ℕ → ℕ → Type 0
TailOf p a s n x = (p.alternative ≡ a) × (p.slot ≡ s) × (p.size ≡ n) × (p.number ≡ x)
