-- The shape of tables, when one is refused, and what filling one writes. Assumes nothing.
use Rattle.std.specs.Prelude.{◌≡◌, ℕ, ◌+◌, ◌-◌, ◌*◌, ◌<◌, ◌≤◌, cond, List, [], length, Some, None, Ok, Err, vec_items, Option, Result, nat_lt, slice_index_or}
use Rattle.std.specs.Borrow.{Bor}
use Rattle.theory.specs.Kinds.{Kind}
use Rattle.theory.specs.Orders.{Splits, upward}
use Rattle.theory.specs.Families.{Family as Rules, tail_at}
use Rattle.theory.specs.Totals.{total, tail_total}
use Rattle.theory.specs.Tables.{entry_at, HoldsTotals}
use Rattle.files.specs.Grammars.{lists_of}
use Rattle.files.specs.Models.{model}
use Rattle.families.specs.declared.family.Family.{Family}
use Rattle.files.specs.declared.fault.Fault.{Fault}
use Rattle.files.specs.declared.fault.Fault.TheVariants.{TopTooLarge, TableTooShort}
use Rattle.tables.specs.declared.shape.Shape.{Shape}

-- the names, alternatives and items of an adopted family
abbrev pub rules_of : Family → Rules
rules_of f = model (lists_of f.grammar)

-- one row for each name and then one for each item
abbrev pub rows_of : Family → ℕ
rows_of f = length (vec_items f.grammar.rules) + length (vec_items f.grammar.labels)

-- a table of r rows has entries for the sizes 0 to n in each
abbrev pub entries : ℕ → ℕ → ℕ
entries r n = r * (n + 1)

-- the entry of row r and size n, in a table up to the size N
abbrev pub entry_of : {K : Type 0} → Kind K → ℕ → List K → ℕ → ℕ → K
entry_of o N t r n = slice_index_or t (entry_at N r n) o.none

-- each entry of the table is its total, by every split order
abbrev pub Totals : {K : Type 0} → Kind K → Rules → ℕ → List K → Type 0
Totals o F N t = (S : ℕ → List ℕ) → Splits S → HoldsTotals o S F N (entry_of o N t)

-- the total of a row at n: of a name, or of the tail that begins with an item; the split order does not matter
abbrev pub total_at : {K : Type 0} → Kind K → Rules → ℕ → ℕ → K
total_at o F r n = cond (nat_lt r (length F)) (total o upward F r n) (tail_total o upward F (tail_at F (r - length F)) n)

-- what stands behind the entries of r rows is as it was
abbrev pub Beyond : {K : Type 0} → ℕ → ℕ → List K → List K → Type 0
Beyond {K} r N t u = (i : ℕ) (d : K) → entries r N ≤ i → slice_index_or u i d ≡ slice_index_or t i d

-- a table of `size` entries has place for r rows up to the size n
pub record Room (r size n : ℕ) : Type 0 where
  pub low : n ≤ 40
  pub long : entries r n ≤ size

-- why there is no table of r rows up to the size n in `size` entries
pub data Refusal (r size n : ℕ) : Fault → Type 0 where
  top : 40 < n → Refusal r size n TopTooLarge
  short : n ≤ 40 → size < entries r n → Refusal r size n TableTooShort

abbrev pub Fits : Result Shape Fault → ℕ → ℕ → ℕ → Type 0
Fits (Ok s) r size n = Room r size n × (s.rows ≡ r) × (s.top ≡ n)
Fits (Err e) r size n = Refusal r size n e

-- the table t was filled for the family, and is u now
pub record Filled {K : Type 0} (o : Kind K) (f : Family) (N : ℕ) (t u : List K) : Type 0 where
  pub room : Room (rows_of f) (length t) N
  pub totals : Totals o (rules_of f) N u
  pub beyond : Beyond (rows_of f) N t u
  pub length_same : length u ≡ length t

-- a filling is refused where there is no room, and writes nothing then
abbrev pub Fills : {K : Type 0} → Kind K → Result (Unit {0}) Fault → Family → ℕ → List K → List K → Type 0
Fills o (Ok x) f N t u = Filled o f N t u
Fills o (Err e) f N t u = (u ≡ t) × Refusal (rows_of f) (length t) N e

-- The family that is open, and none where none is

abbrev pub rules_open : Option (Bor Family) → Rules
rules_open None = []
rules_open (Some f) = rules_of f.now

abbrev pub names_open : Option (Bor Family) → ℕ
names_open None = 0
names_open (Some f) = length (vec_items f.now.grammar.rules)
