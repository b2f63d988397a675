-- A draft's rules as the family that they are, and relations of names as rows of flags. Assumes nothing.
use Rattle.std.specs.Prelude.{◌≡◌, ℕ, ◌<◌, Bool, false, ◌&&◌, ◌||◌, List, [], slice_index_or}
use Rattle.theory.specs.Lists.{any}
use Rattle.theory.specs.Families.{Item as Symbol, Family as Rules, alternatives}
use Rattle.files.specs.Grammars.{lists_of}
use Rattle.files.specs.Models.{item_model, alternative_model, model}
use Rattle.files.specs.declared.draft.Draft.{Draft}
use Rattle.files.specs.declared.item.Item.{Item}
use Rattle.files.specs.declared.item.Alternative.{Alternative}

-- the family that a draft's rules are
abbrev pub rules_of : Draft → Rules
rules_of d = model (lists_of d.grammar)

-- an item of a draft, as an item of that family
abbrev pub symbol : Draft → Item → Symbol
symbol d = item_model (lists_of d.grammar).labels

-- where the answers that Tells gives for alternatives are those of a test p, r is whether some alternative of name y passes p
abbrev pub TellsOfAny : Draft → ℕ → (Alternative → Bool → Type 0) → Bool → Type 0
TellsOfAny d y Tells r = (p : List Symbol → Bool) → ((a : Alternative) (b : Bool) → Tells a b → b ≡ p (alternative_model (lists_of d.grammar).labels a)) → r ≡ any p (alternatives (rules_of d) y)

-- the flag for two names: in the row of the one, at the place of the other
abbrev pub pair : List (List Bool) → ℕ → ℕ → Bool
pair rows x y = slice_index_or (slice_index_or rows x []) y false

-- the flags show a relation of names
abbrev pub Shows : List (List Bool) → (ℕ → ℕ → Bool) → Type 0
Shows rows R = (x y : ℕ) → x < 32 → y < 32 → pair rows x y ≡ R x y

-- the pairs of a relation, and those that meet at w
abbrev pub joined : List (List Bool) → ℕ → ℕ → ℕ → Bool
joined rows w x y = pair rows x y || (pair rows x w && pair rows w y)

-- none of the first n names is related to itself
abbrev pub NoCycleBelow : List (List Bool) → ℕ → Type 0
NoCycleBelow rows n = (k : ℕ) → k < n → pair rows k k ≡ false
