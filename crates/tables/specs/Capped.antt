-- What a cap leaves of sums and products. Assumes nothing.
use Rattle.std.specs.Prelude.{◌≡◌, ℕ, zero, suc, ◌+◌, ◌*◌, ◌≤◌, min, ◌⊎◌}
use Rattle.std.proofs.Common.{sym, ap, ◌∙◌, inl, inr, mul_comm, mul_assoc, mul-add, add-mul, zero-mul, suc-mul, mul-le-mul_left, arith}
use Rattle.std.proofs.Math.Nat.{min-le_right}
use Rattle.std.proofs.Math.Decide.{dec_le}

-- a capped factor under a cap
pub cap_right : (c a b : ℕ) → min c (a * min c b) ≡ min c (a * b)
cap_right c zero b = rw (zero-mul (min c b), zero-mul b)
cap_right c (suc a) b =
    omega (arith, suc-mul a (min c b), suc-mul a b, mul-le-mul_left a (min-le_right c b), go (dec_le c b))
  where
    go : Dec (c ≤ b) → (c ≤ b) ⊎ (a * min c b ≡ a * b)
    go (yes h) = inl h
    go (no h) = inr (ap (λ n. a * n) (omega arith))

pub cap_left : (c a b : ℕ) → min c (min c a * b) ≡ min c (a * b)
cap_left c a b = ap (min c) (mul_comm (min c a) b) ∙ cap_right c b a ∙ ap (min c) (mul_comm b a)

pub cap_product_assoc : (c x y z : ℕ) → min c (min c (x * y) * z) ≡ min c (x * min c (y * z))
cap_product_assoc c x y z = cap_left c (x * y) z ∙ ap (min c) (mul_assoc x y z) ∙ sym (cap_right c x (y * z))

pub cap_left_dist : (c x y z : ℕ) → min c (x * min c (y + z)) ≡ min c (min c (x * y) + min c (x * z))
cap_left_dist c x y z = cap_right c x (y + z) ∙ ap (min c) (mul-add x y z) ∙ omega arith

pub cap_right_dist : (c x y z : ℕ) → min c (min c (x + y) * z) ≡ min c (min c (x * z) + min c (y * z))
cap_right_dist c x y z = cap_left c (x + y) z ∙ ap (min c) (add-mul x y z) ∙ omega arith
