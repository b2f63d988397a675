-- Bounds on what few digits stand for. Assumes nothing.
use Rattle.std.proofs.Common.{ℕ, zero, suc, ◌+◌, ◌*◌, ◌<◌, ◌≤◌, arith}

-- the most that n bytes can come to as digits
abbrev pub most : ℕ → ℕ
most zero = 0
most (suc n) = most n * 10 + 207

pub few : (n : ℕ) → n < 4 → most n ≤ 22977
few zero h = omega arith
few (suc zero) h = omega arith
few (suc (suc zero)) h = omega arith
few (suc (suc (suc zero))) h = omega arith
few (suc (suc (suc (suc n)))) h = absurd (omega arith)
