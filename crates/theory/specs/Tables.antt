-- Tables of totals, the equations between their entries, and what solves them. Assumes nothing.
use Rattle.std.specs.Prelude.{◌≡◌, ℕ, suc, ◌+◌, ◌-◌, ◌*◌, ◌<◌, ◌≤◌, Bool, false, cond, not, ◌&&◌, List, [], ◌∷◌, length, ◌==◌}
use Rattle.theory.specs.Kinds.{Kind}
use Rattle.theory.specs.Lists.{below}
use Rattle.theory.specs.Orders.{Splits}
use Rattle.theory.specs.Families.{Item, Family, alternatives, alternative, item_count, tail_at, first_item}
use Rattle.theory.specs.Nullable.{Adopted, Ranks}
use Rattle.theory.specs.Totals.{sum_of, total, tail_total, item_value, alternatives_value}

-- A table for the top N has a row for each name and then one for each item; each row has an entry for each size from 0 to N.

-- where the entry of row r and size n stands
abbrev pub entry_at : ℕ → ℕ → ℕ → ℕ
entry_at N r n = r * (N + 1) + n

-- the row of the item j
abbrev pub item_row : Family → ℕ → ℕ
item_row F j = length F + j

-- how many rows there are
abbrev pub rows : Family → ℕ
rows F = length F + item_count F

-- the entries of R rows stand each at one place, and fill the places from the first on
pub record EntriesPlaced (N R : ℕ) : Type 0 where
  pub within : (r n : ℕ) → r < R → n ≤ N → entry_at N r n < R * (N + 1)
  pub once : (r n s k : ℕ) → n ≤ N → k ≤ N → entry_at N r n ≡ entry_at N s k → (r ≡ s) × (n ≡ k)
  pub each : (x : ℕ) → x < R * (N + 1) → (r : ℕ) × (n : ℕ) × (r < R) × (n ≤ N) × (entry_at N r n ≡ x)

abbrev pub EntriesArePlaced : Type 0
EntriesArePlaced = (N R : ℕ) → EntriesPlaced N R

-- Below `e r n` is the entry of row r and size n.

-- the entry of a tail whose first item has the row r; the empty tail has no row: its total is the unit at 0, and none elsewhere
abbrev pub tail_entry : {K : Type 0} → Kind K → (ℕ → ℕ → K) → ℕ → List Item → ℕ → K
tail_entry o e r [] n = cond (n == 0) o.unit o.none
tail_entry o e r (i ∷ is) n = e r n

-- an item's row from the others: the tail's total at n by its item and the rest, which has the next row
abbrev pub item_equation : {K : Type 0} → Kind K → (ℕ → ℕ → K) → ℕ → List Item → ℕ → K
item_equation o e r [] n = cond (n == 0) o.unit o.none
item_equation o e r (i ∷ is) n = sum_of o (λ k. o.product (item_value o e i k) (tail_entry o e (suc r) is (n - k))) (below (suc n))

-- a name's row from the others: the sum over its alternatives, but at size 0 none for a name that cannot be empty
abbrev pub name_equation : {K : Type 0} → Kind K → Family → (ℕ → Bool) → (ℕ → ℕ → K) → ℕ → ℕ → K
name_equation o F nul e y n =
    cond (n == 0 && not (nul y)) o.none (sum_of o (λ a. tail_entry o e (item_row F (first_item F y a)) (alternative F y a) n) (below (length (alternatives F y))))

-- the table solves the equations
pub record Solves {K : Type 0} (o : Kind K) (F : Family) (nul : ℕ → Bool) (N : ℕ) (e : ℕ → ℕ → K) : Type 0 where
  pub names : (y n : ℕ) → y < length F → n ≤ N → e y n ≡ name_equation o F nul e y n
  pub items : (j n : ℕ) → j < item_count F → n ≤ N → e (item_row F j) n ≡ item_equation o e (item_row F j) (tail_at F j) n

-- the table holds the totals
pub record HoldsTotals {K : Type 0} (o : Kind K) (S : ℕ → List ℕ) (F : Family) (N : ℕ) (e : ℕ → ℕ → K) : Type 0 where
  pub names : (y n : ℕ) → y < length F → n ≤ N → e y n ≡ total o S F y n
  pub items : (j n : ℕ) → j < item_count F → n ≤ N → e (item_row F j) n ≡ tail_total o S F (tail_at F j) n

-- a table that solves the equations holds the totals, by every split order
abbrev pub SolutionHoldsTotals : {K : Type 0} → Kind K → Type 0
SolutionHoldsTotals {K} o =
    (S : ℕ → List ℕ) → Splits S → (F : Family) (nul : ℕ → Bool) → Adopted F nul → (N : ℕ) (e : ℕ → ℕ → K) → Solves o F nul N e → HoldsTotals o S F N e

-- a table that holds the totals solves the equations
abbrev pub TotalsSolve : {K : Type 0} → Kind K → Type 0
TotalsSolve {K} o =
    (S : ℕ → List ℕ) → Splits S → (F : Family) (nul : ℕ → Bool) → Adopted F nul → (N : ℕ) (e : ℕ → ℕ → K) → HoldsTotals o S F N e → Solves o F nul N e

-- the rows of the names alone: the tails' totals are made of the names' entries

abbrev pub name_value : {K : Type 0} → Kind K → Family → (ℕ → Bool) → (ℕ → ℕ → K) → ℕ → ℕ → K
name_value o F nul e y n = cond (n == 0 && not (nul y)) o.none (alternatives_value o F e y n)

abbrev pub NamesSolve : {K : Type 0} → Kind K → Family → (ℕ → Bool) → ℕ → (ℕ → ℕ → K) → Type 0
NamesSolve o F nul N e = (y n : ℕ) → y < length F → n ≤ N → e y n ≡ name_value o F nul e y n

abbrev pub NamesHoldTotals : {K : Type 0} → Kind K → Type 0
NamesHoldTotals {K} o =
    (S : ℕ → List ℕ) → Splits S → (F : Family) (nul : ℕ → Bool) → Adopted F nul → (N : ℕ) (e : ℕ → ℕ → K) → NamesSolve o F nul N e →
    (y n : ℕ) → y < length F → n ≤ N → e y n ≡ total o S F y n

abbrev pub NameTotalsSolve : {K : Type 0} → Kind K → Type 0
NameTotalsSolve o =
    (S : ℕ → List ℕ) → Splits S → (F : Family) (nul : ℕ → Bool) → Adopted F nul → (N : ℕ) → NamesSolve o F nul N (total o S F)

-- A table can be filled size after size, and within a size by rank: with totals at lower sizes, and at this size at lower ranks, the sum over the alternatives
-- of a name is its total, whatever the other entries of the size hold

abbrev pub FilledByRank : {K : Type 0} → Kind K → Type 0
FilledByRank {K} o =
    (S : ℕ → List ℕ) → Splits S → (F : Family) (nul : ℕ → Bool) → Adopted F nul → (ranks : Ranks F nul) (e : ℕ → ℕ → K) →
    ((z : ℕ) → z < length F → nul z ≡ false → e z 0 ≡ o.none) → (y n : ℕ) →
    ((z k : ℕ) → z < length F → k < n → e z k ≡ total o S F z k) → ((z : ℕ) → z < length F → ranks.rank z < ranks.rank y → e z n ≡ total o S F z n) →
    alternatives_value o F e y n ≡ total o S F y n
