-- Looking a name up. Assumes nothing.
use Rattle.std.specs.Prelude.{◌≡◌, ℕ, ◌<◌, List, length, Some, None, Option}
use Rattle.files.specs.Items.{text_of}
use Rattle.files.specs.Grammars.{rule_at}
use Rattle.files.specs.declared.item.Rule.{Rule}

-- the rule y has the name s
abbrev pub Has : List Rule → ℕ → List ℕ → Type 0
Has rs y s = (y < length rs) × (text_of (rule_at rs y).label ≡ s)

-- the number of the one rule with the name s, or none where no rule has it
abbrev pub Finds : List Rule → List ℕ → Option ℕ → Type 0
Finds rs s (Some y) = Has rs y s × ((z : ℕ) → Has rs z s → z ≡ y)
Finds rs s None = (z : ℕ) → Has rs z s → ⊥
