-- How many rules and alternatives are begun and not yet stored. Assumes nothing.
use Rattle.std.specs.Prelude.{◌≡◌, ℕ}
use Rattle.files.specs.declared.state.State.{State}
use Rattle.files.specs.declared.state.State.TheVariants.{Outside, Named, Items, AfterLiteral, AfterColon, AfterSize, AfterAt}

abbrev pub begun : State → ℕ
begun Outside = 0
begun Named = 0
begun Items = 1
begun AfterLiteral = 1
begun AfterColon = 1
begun AfterSize = 1
begun AfterAt = 1

abbrev pub opened : State → ℕ
opened Outside = 0
opened Named = 1
opened Items = 1
opened AfterLiteral = 1
opened AfterColon = 1
opened AfterSize = 1
opened AfterAt = 1

-- an alternative, and with it a rule, is begun
abbrev pub InAlternative : State → Type 0
InAlternative s = (begun s ≡ 1) × (opened s ≡ 1)
