-- The counts of rows of letters: a table of them solves the equations, so it holds the totals. Assumes nothing.
use Rattle.std.proofs.Common.{◌≡◌, ℕ, zero, suc, ◌^◌, ◌<◌, ◌≤◌, Bool, true, false, cond, ◌&&◌, eqb, List, [], ◌∷◌, Some, sym, refl, ap, ◌∙◌, inl, inr, arith, lit<, lit≤}
use Rattle.std.proofs.lemmas.Bool.{eqb-true, and_parts}
use Rattle.theory.specs.Lists.{Among, below}
use Rattle.theory.specs.Orders.{upward}
use Rattle.theory.specs.Families.{Defined}
use Rattle.theory.specs.Nullable.{nullable_set, reaches, Adopted}
use Rattle.theory.specs.Totals.{total}
use Rattle.theory.specs.Tables.{name_value, NamesSolve}
use Rattle.theory.proofs.Lists.{among_count}
use Rattle.theory.proofs.Orders.{upward-splits}
use Rattle.theory.proofs.Ranks.{closure_adopts}
use Rattle.theory.proofs.Sweeps.{sweeps_find_nullable}
use Rattle.theory.proofs.Tables.{names_hold_totals}
use Rattle.tables.specs.Counts.{capped, count_kind, count_shown}
use Rattle.tables.specs.declared.count.Count.{Count}
use Rattle.tables.specs.KindLaws.{count_laws, same_count}
use Rattle.worked.specs.Worked.{letters}

-- a has 4 layouts at size 1, b has 4 to the power of n at each size n
abbrev table : ℕ → ℕ → Count
table y n = capped (cond (eqb y 1) (4 ^ n) (cond (eqb n 1) 4 0))

-- the table's entry is what its equation says
abbrev right : ℕ → ℕ → Bool
right y n = eqb (table y n).value (name_value count_kind letters (nullable_set letters) table y n).value

abbrev all : (ℕ → Bool) → List ℕ → Bool
all f [] = true
all f (x ∷ xs) = f x && all f xs

each_of : (f : ℕ → Bool) (xs : List ℕ) (x : ℕ) → all f xs ≡ true → Among x xs → f x ≡ true
each_of f [] x e h = absurd h
each_of f (z ∷ xs) x e (inl q) = ap f q ∙ (and_parts (f z) (all f xs) e).0
each_of f (z ∷ xs) x e (inr h) = each_of f xs x (and_parts (f z) (all f xs) e).1 h

right_a : all (right 0) (below 33) ≡ true
right_a = refl

right_b : all (right 1) (below 33) ≡ true
right_b = refl

solves : NamesSolve count_kind letters (nullable_set letters) 32 table
solves zero n h w = same_count (eqb-true _ _ (each_of (right 0) (below 33) n right_a (among_count 0 33 n (omega arith) (omega arith))))
solves (suc zero) n h w = same_count (eqb-true _ _ (each_of (right 1) (below 33) n right_b (among_count 0 33 n (omega arith) (omega arith))))
solves (suc (suc y)) n h w = absurd (omega arith)

defined : Defined letters
defined zero zero = tt
defined zero (suc zero) = tt
defined zero (suc (suc zero)) = tt
defined zero (suc (suc (suc zero))) = tt
defined zero (suc (suc (suc (suc a)))) = tt
defined (suc zero) zero = tt
defined (suc zero) (suc zero) = (lit< tt, (lit< tt, tt))
defined (suc zero) (suc (suc a)) = tt
defined (suc (suc y)) a = tt

no_cycle : (x : ℕ) → x < 2 → reaches letters (nullable_set letters) x x ≡ false
no_cycle zero h = refl
no_cycle (suc zero) h = refl
no_cycle (suc (suc x)) h = absurd (omega arith)

adopted : Adopted letters (nullable_set letters)
adopted = closure_adopts letters (nullable_set letters) defined (sweeps_find_nullable letters) no_cycle

holds : (n : ℕ) → n ≤ 32 → total count_kind upward letters 1 n ≡ table 1 n
holds n w = sym (names_hold_totals count_kind count_laws upward upward-splits letters (nullable_set letters) adopted 32 table solves 1 n (lit< tt) w)

pub counted : count_shown (total count_kind upward letters 1 31) ≡ Some 4611686018427387904
counted = ap count_shown (holds 31 (lit≤ tt))

pub at_cap : count_shown (total count_kind upward letters 1 32) ≡ Some 18446744073709551615
at_cap = ap count_shown (holds 32 (lit≤ tt))
