-- How far a filling has come. Assumes nothing.
use Rattle.std.specs.Prelude.{◌≡◌, ℕ, ◌+◌, ◌<◌, ◌≤◌, ◌⊎◌, Bool, false, List, length, drop, slice_index}
use Rattle.theory.specs.Kinds.{Kind}
use Rattle.theory.specs.Orders.{upward}
use Rattle.theory.specs.Families.{Item as Symbol, Family as Rules, item_count, tail_at, Known}
use Rattle.theory.specs.Totals.{total, tail_total, tail_value}
use Rattle.theory.specs.Tables.{item_row}
use Rattle.files.specs.Grammars.{Lists, lists_of, rule_at, alternative_at}
use Rattle.files.specs.Models.{model, alternative_model}
use Rattle.families.specs.Sound.{marked}
use Rattle.files.specs.declared.item.Item.{Item}
use Rattle.files.specs.declared.item.Item.TheVariants.{Vacant, Use, Name, Literal}
use Rattle.files.specs.declared.item.Label.{Label}
use Rattle.files.specs.declared.item.Alternative.{Alternative}
use Rattle.tables.specs.Tables.{rules_of, entry_of, Beyond}
use Rattle.tables.specs.declared.level.Level.{Level}
use Rattle.tables.specs.declared.tail.Tail.{Tail}

-- a name's number is below m
abbrev pub Below : ℕ → Item → Type 0
Below m (Name y) = y < m
Below m (Literal t s c) = Unit {0}
Below m (Use t) = Unit {0}
Below m Vacant = Unit {0}

-- the alternative is one of the family's: its items have the numbers from its first on
pub record Stands (l : Lists) (a : Alternative) : Type 0 where
  pub six : a.count ≤ 6
  pub full : length a.items ≡ 6
  pub inside : (p : ℕ) → p < a.count → a.first + p < item_count (model l)
  pub tail : (p : ℕ) → p < a.count → tail_at (model l) (a.first + p) ≡ drop p (alternative_model l.labels a)
  pub known : Known (length (model l)) (alternative_model l.labels a)

-- the item j is of the alternative
abbrev pub Of : Alternative → ℕ → Type 0
Of a j = (a.first ≤ j) × (j < a.first + a.count)

-- it is of one of the alternatives of the rule y
abbrev pub Under : Lists → ℕ → ℕ → Type 0
Under l y j = (a : ℕ) × (a < (rule_at l.rules y).count) × Of (alternative_at l.alternatives ((rule_at l.rules y).first + a)) j

-- the table u is t, but for entries of the size n in rows of W
abbrev pub Changed : {K : Type 0} → Kind K → ℕ → ℕ → (ℕ → Type 0) → List K → List K → Type 0
Changed o N n W t u = (q k : ℕ) → k ≤ N → (k ≡ n → W q → ⊥) → entry_of o N u q k ≡ entry_of o N t q k

-- the entry of the item j at n is what the names' entries make it
abbrev pub Right : {K : Type 0} → Kind K → Rules → ℕ → List K → ℕ → ℕ → Type 0
Right o F N t j n = entry_of o N t (item_row F j) n ≡ tail_value o (entry_of o N t) (tail_at F j) n

-- at n, the items of P were written right, and nothing but items
pub record Wrote {K : Type 0} (o : Kind K) (F : Rules) (N n : ℕ) (P : ℕ → Type 0) (t u : List K) : Type 0 where
  pub new : (j : ℕ) → j < item_count F → P j → Right o F N u j n
  pub still : (j : ℕ) → j < item_count F → Right o F N t j n → Right o F N u j n
  pub changed : Changed o N n (λ r. length F ≤ r) t u

-- all entries of lower sizes than n are totals, and at n those of the names of D
pub record Ready {K : Type 0} (o : Kind K) (F : Rules) (nul : ℕ → Bool) (N n : ℕ) (D : ℕ → Type 0) (t : List K) : Type 0 where
  pub bare : (z : ℕ) → z < length F → nul z ≡ false → entry_of o N t z 0 ≡ o.none
  pub names : (z k : ℕ) → z < length F → k < n → entry_of o N t z k ≡ total o upward F z k
  pub items : (j k : ℕ) → j < item_count F → k < n → entry_of o N t (item_row F j) k ≡ tail_total o upward F (tail_at F j) k
  pub here : (z : ℕ) → z < length F → D z → entry_of o N t z n ≡ total o upward F z n

-- the number of a tail's first item, through the whole family
abbrev pub number_of : Tail → ℕ
number_of t = t.alternative.first + t.slot

-- what a tail's items are, in the family's rules
abbrev pub symbols_of : List Label → Tail → List Symbol
symbols_of ls t = drop t.slot (alternative_model ls t.alternative)

-- A table at one size

-- the family's rules, and its stored lists
abbrev pub rules_at : {K : Type 0} → Level K → Rules
rules_at l = rules_of l.family.now

abbrev pub lists_at : {K : Type 0} → Level K → Lists
lists_at l = lists_of l.family.now.grammar

-- the entry of a row at a size
abbrev pub value_at : {K : Type 0} → Kind K → Level K → ℕ → ℕ → K
value_at o l = entry_of o l.shape.top l.table.now

-- the entry of the item j at k is right by the names' entries
abbrev pub RightAt : {K : Type 0} → Kind K → Level K → ℕ → ℕ → Type 0
RightAt o l j k = Right o (rules_at l) l.shape.top l.table.now j k

-- the items' entries of all lower sizes are
abbrev pub LowerRight : {K : Type 0} → Kind K → Level K → Type 0
LowerRight o l = (j k : ℕ) → j < item_count (rules_at l) → k < l.size → RightAt o l j k

-- the entries of the sizes below m are totals
abbrev pub SizesDone : {K : Type 0} → Kind K → ℕ → Level K → Type 0
SizesDone o m l = Ready o (rules_at l) (marked l.family.now.nullable) l.shape.top m (λ z. ⊥) l.table.now

-- so are those of the lower sizes, and at this one those of the names of ranks below m
abbrev pub RanksDone : {K : Type 0} → Kind K → ℕ → Level K → Type 0
RanksDone o m l = Ready o (rules_at l) (marked l.family.now.nullable) l.shape.top l.size (λ z. slice_index l.family.now.ranks z < m) l.table.now

-- the family, the table's place, the shape and the size are the same, and what stands behind the entries
pub record Kept {K : Type 0} (a b : Level K) : Type 0 where
  pub family : b.family ≡ a.family
  pub table : b.table.ghost_name ≡ a.table.ghost_name
  pub shape : b.shape ≡ a.shape
  pub size : b.size ≡ a.size
  pub beyond : Beyond a.shape.rows a.shape.top a.table.now b.table.now

-- the items of P were written right, and nothing but items
pub record Writes {K : Type 0} (o : Kind K) (P : ℕ → Type 0) (a b : Level K) : Type 0 where
  pub kept : Kept a b
  pub wrote : Wrote o (rules_at a) a.shape.top a.size P a.table.now b.table.now

-- the name y has its total, and nothing but its entry and items was written
pub record FillsName {K : Type 0} (o : Kind K) (y : ℕ) (a b : Level K) : Type 0 where
  pub kept : Kept a b
  pub total : entry_of o a.shape.top b.table.now y a.size ≡ total o upward (rules_at a) y a.size
  pub changed : Changed o a.shape.top a.size (λ r. (r ≡ y) ⊎ (length (rules_at a) ≤ r)) a.table.now b.table.now
