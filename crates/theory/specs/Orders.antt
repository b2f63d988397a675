-- Split orders: in which sequence the splits of a size are met. Assumes nothing.
use Rattle.std.specs.Prelude.{◌≡◌, ℕ, suc, ◌-◌, ◌/◌, ◌%◌, ◌≤◌, cond, List, map, ◌==◌, nat_le}
use Rattle.theory.specs.Lists.{Among, Distinct, below}

-- for each n up to the top, every k from 0 to n is answered at one i from 0 to n and at no other
pub record Order (top : ℕ) (at : ℕ → ℕ → ℕ) : Type 0 where
  pub within : (n i : ℕ) → n ≤ top → i ≤ n → at n i ≤ n
  pub once : (n i j : ℕ) → n ≤ top → i ≤ n → j ≤ n → at n i ≡ at n j → i ≡ j
  pub each : (n k : ℕ) → n ≤ top → k ≤ n → (i : ℕ) × (i ≤ n) × (at n i ≡ k)

-- from 0 up
abbrev pub rising : ℕ → ℕ → ℕ
rising n i = i

-- from both ends in turn, the low end first
abbrev pub to_and_fro : ℕ → ℕ → ℕ
to_and_fro n i = cond (i % 2 == 0) (i / 2) (n - (i - 1) / 2)

-- Splits as lists: `S n` has the splits of n, in the sequence in which they are met

-- for each n, every k from 0 to n once, and nothing else
pub record Splits (S : ℕ → List ℕ) : Type 0 where
  pub once : (n : ℕ) → Distinct (S n)
  pub within : (n k : ℕ) → Among k (S n) → k ≤ n
  pub each : (n k : ℕ) → k ≤ n → Among k (S n)

-- from 0 up
abbrev pub upward : ℕ → List ℕ
upward n = below (suc n)

-- by an order up to its top; past the top, where an order's answers are free, from 0 up
abbrev pub splits : ℕ → (ℕ → ℕ → ℕ) → ℕ → List ℕ
splits top at n = cond (nat_le n top) (map (at n) (below (suc n))) (upward n)

-- The two orders keep the law, and the splits by a lawful order are lawful

abbrev pub RisingLawful : Type 0
RisingLawful = (top : ℕ) → Order top rising

abbrev pub ToAndFroLawful : Type 0
ToAndFroLawful = (top : ℕ) → Order top to_and_fro

abbrev pub SplitsLawful : Type 0
SplitsLawful = (top : ℕ) (at : ℕ → ℕ → ℕ) → Order top at → Splits (splits top at)
