-- What drawing asks, answers and leaves. Assumes nothing.
use Rattle.std.specs.Prelude.{◌≡◌, ℕ, ◌≤◌, cond, List, length, drop, Some, None, Ok, Err, Option, Result, nat_le, nat_lt}
use Rattle.files.specs.declared.fault.Fault.{Fault}
use Rattle.files.specs.declared.fault.Fault.TheVariants.{UnknownName, SizeTooLarge, TotalCapped, NumberTooLarge, StackTooShort, ListTooShort}
use Rattle.tables.specs.Tables.{names_open}
use Rattle.tables.specs.Openings.{count_at, family_open, top_open}
use Rattle.tables.specs.declared.open_table.OpenTable.{OpenTable}

-- the answer tells how many places were written, and those behind are as they were; or the list was too short
abbrev pub LeftOver : Result ℕ Fault → List ℕ → List ℕ → Type 0
LeftOver (Ok n) old new = (n ≤ length old) × (drop n new ≡ drop n old)
LeftOver (Err e) old new = e ≡ ListTooShort

-- the questions that come before the list is touched, in their order: the first that is answered no
abbrev pub first_no : OpenTable → ℕ → ℕ → ℕ → ℕ → ℕ → Option Fault
first_no t y n x places stack =
    cond (nat_lt y (names_open (family_open t)))
    (cond (nat_le n (top_open t))
    (cond (nat_lt (count_at t y n) 18446744073709551615)
    (cond (nat_lt x (count_at t y n))
    (cond (nat_le places stack) None (Some StackTooShort))
    (Some NumberTooLarge))
    (Some TotalCapped))
    (Some SizeTooLarge))
    (Some UnknownName)

-- refused by one of them, the list is untouched
abbrev pub Drawn : Option Fault → Result ℕ Fault → List ℕ → List ℕ → Type 0
Drawn (Some e) r old new = (r ≡ Err e) × (new ≡ old)
Drawn None r old new = LeftOver r old new

abbrev pub Draws : Result ℕ Fault → OpenTable → ℕ → ℕ → ℕ → List ℕ → List ℕ → ℕ → Type 0
Draws r t y n x old new stack = Drawn (first_no t y n x (length old) stack) r old new
