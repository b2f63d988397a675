-- Names that can be empty, steps, chains of steps, empty cycles, and ranks. Assumes nothing.
use Rattle.std.specs.Prelude.{◌≡◌, ℕ, zero, suc, ◌<◌, Bool, true, false, ◌&&◌, ◌||◌, List, [], ◌∷◌, length, ◌==◌}
use Rattle.theory.specs.Lists.{any}
use Rattle.theory.specs.Families.{Item, name, literal, Family, alternatives, alternative, Defined}
use Rattle.theory.specs.Layouts.{Layout, LayoutOf}

-- Sets of names are tests, as `nul`.

-- a literal of size 0, or a name of the set
abbrev pub item_empty : (ℕ → Bool) → Item → Bool
item_empty nul (literal t s c) = s == 0
item_empty nul (name y) = nul y

-- every item is such
abbrev pub all_empty : (ℕ → Bool) → List Item → Bool
all_empty nul [] = true
all_empty nul (i ∷ is) = item_empty nul i && all_empty nul is

-- the set has each name with an alternative of such items only
abbrev pub Closed : Family → (ℕ → Bool) → Type 0
Closed F nul = (y a : ℕ) → a < length (alternatives F y) → all_empty nul (alternative F y a) ≡ true → nul y ≡ true

-- the names that can be empty: the least closed set
pub record Nullable (F : Family) (nul : ℕ → Bool) : Type 0 where
  pub closed : Closed F nul
  pub least : (P : ℕ → Bool) → Closed F P → (y : ℕ) → y < length F → nul y ≡ true → P y ≡ true

-- Steps

abbrev pub is_name : ℕ → Item → Bool
is_name y (literal t s c) = false
is_name y (name x) = x == y

-- y is an item, and every other item can be empty
abbrev pub leads_in : (ℕ → Bool) → ℕ → List Item → Bool
leads_in nul y [] = false
leads_in nul y (i ∷ is) = (is_name y i && all_empty nul is) || (item_empty nul i && leads_in nul y is)

-- a step leads from x to y
abbrev pub leads : Family → (ℕ → Bool) → ℕ → ℕ → Bool
leads F nul x y = any (leads_in nul y) (alternatives F x)

-- one or more steps lead from x to y
pub data Chain (F : Family) (nul : ℕ → Bool) : ℕ → ℕ → Type 0 where
  last : {x y : ℕ} → leads F nul x y ≡ true → Chain F nul x y
  step : {x y : ℕ} (w : ℕ) → leads F nul x w ≡ true → Chain F nul w y → Chain F nul x y

-- x stands on a closed chain
abbrev pub EmptyCycle : Family → (ℕ → Bool) → ℕ → Type 0
EmptyCycle F nul x = Chain F nul x x

-- a family that can be adopted, with its names that can be empty
pub record Adopted (F : Family) (nul : ℕ → Bool) : Type 0 where
  pub defined : Defined F
  pub nullable : Nullable F nul
  pub acyclic : (x : ℕ) → EmptyCycle F nul x → ⊥

-- Finding the names that can be empty, by sweeps over the family

-- the names with an alternative that is empty by the set P
abbrev pub sweep : Family → (ℕ → Bool) → ℕ → Bool
sweep F P y = any (all_empty P) (alternatives F y)

-- after k sweeps
abbrev pub swept : Family → ℕ → ℕ → Bool
swept F zero y = false
swept F (suc k) y = sweep F (swept F k) y

-- after as many sweeps as there are names
abbrev pub nullable_set : Family → ℕ → Bool
nullable_set F y = swept F (length F) y

-- these sweeps find the least closed set
abbrev pub SweepsFindNullable : Type 0
SweepsFindNullable = (F : Family) → Nullable F (nullable_set F)

-- and there is no other
abbrev pub NullableOne : Type 0
NullableOne = (F : Family) (nul lun : ℕ → Bool) → Nullable F nul → Nullable F lun → (y : ℕ) → y < length F → nul y ≡ lun y

-- The names that can be empty are those that have a layout of size 0

pub record EmptyLayout (F : Family) (nul : ℕ → Bool) (y : ℕ) : Type 0 where
  pub has : nul y ≡ true → (l : Layout) × LayoutOf F (name y) 0 l
  pub is : (l : Layout) → LayoutOf F (name y) 0 l → nul y ≡ true

abbrev pub NullableHasEmptyLayout : Type 0
NullableHasEmptyLayout = (F : Family) (nul : ℕ → Bool) → Adopted F nul → (y : ℕ) → y < length F → EmptyLayout F nul y

-- Reaching: the closure of the steps, name after name

-- a chain from x to y that passes only names below k
abbrev pub through : Family → (ℕ → Bool) → ℕ → ℕ → ℕ → Bool
through F nul zero x y = leads F nul x y
through F nul (suc k) x y = through F nul k x y || (through F nul k x k && through F nul k k y)

-- over all names
abbrev pub reaches : Family → (ℕ → Bool) → ℕ → ℕ → Bool
reaches F nul x y = through F nul (length F) x y

pub record FindsChains (F : Family) (nul : ℕ → Bool) (x y : ℕ) : Type 0 where
  pub found : reaches F nul x y ≡ true → Chain F nul x y
  pub finds : Chain F nul x y → reaches F nul x y ≡ true

-- the closure finds the chains and nothing else
abbrev pub ClosureFindsChains : Type 0
ClosureFindsChains = (F : Family) (nul : ℕ → Bool) → Defined F → (x y : ℕ) → FindsChains F nul x y

-- a family in which no name reaches itself can be adopted
abbrev pub ClosureAdopts : Type 0
ClosureAdopts =
    (F : Family) (nul : ℕ → Bool) → Defined F → Nullable F nul → ((x : ℕ) → x < length F → reaches F nul x x ≡ false) → Adopted F nul

-- Ranks: each step leads to a lower one

pub record Ranks (F : Family) (nul : ℕ → Bool) : Type 0 where
  pub rank : ℕ → ℕ
  pub low : (y : ℕ) → y < length F → rank y < length F
  pub falls : (x y : ℕ) → leads F nul x y ≡ true → rank y < rank x

abbrev pub AcyclicHasRanks : Type 0
AcyclicHasRanks = (F : Family) (nul : ℕ → Bool) → Adopted F nul → Ranks F nul

-- and where there are ranks there is no empty cycle
abbrev pub RanksExcludeCycles : Type 0
RanksExcludeCycles = (F : Family) (nul : ℕ → Bool) → Ranks F nul → (x : ℕ) → EmptyCycle F nul x → ⊥
