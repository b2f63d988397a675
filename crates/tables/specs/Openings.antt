-- What opening a table answers and leaves. Assumes nothing.
use Rattle.std.specs.Prelude.{◌≡◌, ℕ, ◌<◌, ◌≤◌, cond, ◌&&◌, not, ◌==◌, List, length, Some, None, Option, Ok, Err, Result, nat_le, nat_lt}
use Rattle.std.specs.List.{position, zip}
use Rattle.std.specs.Borrow.{Bor}
use Rattle.theory.specs.Families.{Family as Rules}
use Rattle.theory.specs.Tables.{entry_at, rows}
use Rattle.families.specs.declared.family.Family.{Family}
use Rattle.files.specs.declared.fault.Fault.{Fault}
use Rattle.files.specs.declared.fault.Fault.TheVariants.{WrongEntry}
use Rattle.tables.specs.Tables.{Room, Refusal, rows_of, rules_of, entry_of, total_at, Totals}
use Rattle.tables.specs.Counts.{count_kind}
use Rattle.tables.specs.declared.count.Count.{Count}
use Rattle.tables.specs.declared.checked.Checked.{Checked}
use Rattle.tables.specs.declared.open_table.OpenTable.{OpenTable}

-- the first index at which two tables differ
abbrev pub first_unequal : List Count → List Count → Option ℕ
first_unequal t u = position (λ p. not (p.0.value == p.1.value)) (zip t u)

-- i is the first index whose entry is not its total
pub record FirstWrong (F : Rules) (N : ℕ) (t : List Count) (i : ℕ) : Type 0 where
  pub row : ℕ
  pub size : ℕ
  pub row_there : row < rows F
  pub size_there : size ≤ N
  pub here : i ≡ entry_at N row size
  pub differs : entry_of count_kind N t row size ≡ total_at count_kind F row size → ⊥
  pub before : (r n : ℕ) → r < rows F → n ≤ N → entry_at N r n < i → entry_of count_kind N t r n ≡ total_at count_kind F r n

-- why a table is not opened: no room, or a wrong entry
pub data NotOpened (f : Family) (t : List Count) (n : ℕ) : Fault → Type 0 where
  no_room : (e : Fault) → Refusal (rows_of f) (length t) n e → NotOpened f t n e
  wrong : (i : ℕ) → Room (rows_of f) (length t) n → FirstWrong (rules_of f) n t i → NotOpened f t n (WrongEntry i)

-- The family that is open, and its table's largest size: none, and 0, where none is

abbrev pub family_in : Option Checked → Option (Bor Family)
family_in None = None
family_in (Some c) = Some c.family

abbrev pub top_in : Option Checked → ℕ
top_in None = 0
top_in (Some c) = c.shape.top

abbrev pub family_open : OpenTable → Option (Bor Family)
family_open t = family_in t.checked

abbrev pub top_open : OpenTable → ℕ
top_open t = top_in t.checked

-- what is open is of this family, table and top, and each entry is its total
pub record Open (f : Bor Family) (table : Bor (List Count)) (n : ℕ) (after : OpenTable) : Type 0 where
  pub checked : Checked
  pub here : after.checked ≡ Some checked
  pub of_family : checked.family ≡ f
  pub of_table : checked.table ≡ table
  pub of_top : checked.shape.top ≡ n
  pub room : Room (rows_of f.now) (length table.now) n
  pub totals : Totals count_kind (rules_of f.now) n table.now

-- what was open is open still
abbrev pub StillOpen : OpenTable → OpenTable → Type 0
StillOpen before after = after.checked ≡ before.checked

abbrev pub Opened : Result (Unit {0}) Fault → OpenTable → OpenTable → Bor Family → Bor (List Count) → ℕ → Type 0
Opened (Ok x) before after f table n = Open f table n after
Opened (Err e) before after f table n = StillOpen before after × NotOpened f.now table.now n e

-- the count in a row at n; 0 where there is none
abbrev pub count_in : Option Checked → ℕ → ℕ → ℕ
count_in None r n = 0
count_in (Some c) r n = cond (nat_lt r (rows_of c.family.now) && nat_le n c.shape.top) (entry_of count_kind c.shape.top c.table.now r n).value 0

abbrev pub count_at : OpenTable → ℕ → ℕ → ℕ
count_at t = count_in t.checked
