-- What adopting a draft answers and leaves. Assumes nothing.
use Rattle.std.specs.Prelude.{◌≡◌, ℕ, ◌<◌, length, Ok, Err, Result}
use Rattle.theory.specs.Nullable.{EmptyCycle as OnClosedChain, nullable_set}
use Rattle.files.specs.Grammars.{Lists, lists_of, rule_at}
use Rattle.files.specs.Models.{model}
use Rattle.files.specs.declared.fault.Fault.{Fault}
use Rattle.files.specs.declared.fault.Fault.TheVariants.{EmptyCycle}
use Rattle.families.specs.declared.family.Family.{Family}

-- x stands on an empty cycle of the rules
abbrev pub Cyclic : Lists → ℕ → Type 0
Cyclic l x = OnClosedChain (model l) (nullable_set (model l)) x

-- the refusal names the first of the draft's rules that stands on an empty cycle
pub record OnCycle (l : Lists) (e : Fault) : Type 0 where
  pub name : ℕ
  pub defined : name < length l.rules
  pub is : e ≡ EmptyCycle (record { place = (rule_at l.rules name).label.place; length = (rule_at l.rules name).label.length })
  pub cycle : Cyclic l name
  pub first : (z : ℕ) → z < name → Cyclic l z → ⊥

-- f before, g after, l the draft's rules: they are adopted where no name stands on an empty cycle
abbrev pub Adopts : Result (Unit {0}) Fault → Family → Family → Lists → Type 0
Adopts (Ok x) f g l = (lists_of g.grammar ≡ l) × ((y : ℕ) → Cyclic l y → ⊥)
Adopts (Err e) f g l = (lists_of g.grammar ≡ lists_of f.grammar) × (g.nullable ≡ f.nullable) × (g.ranks ≡ f.ranks) × OnCycle l e
