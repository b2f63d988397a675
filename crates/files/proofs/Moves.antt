-- The moves of the rule reader: which words a state allows, and what they do. Assumes nothing.
use Rattle.std.proofs.Common.{◌≡◌, ℕ, ◌⊎◌, List, refl, inl, inr}
use Rattle.files.specs.Scans.{Word, name, literal, digits, equals, bar, semicolon, colon, at}
use Rattle.files.specs.Steps.{next_alternative, end_rule, add_name, add_literal, expect_cost, unfit, action}
use Rattle.files.specs.declared.state.State.{State}
use Rattle.files.specs.declared.state.State.TheVariants.{Outside, Named, Items, AfterLiteral, AfterColon, AfterSize, AfterAt}

-- the states in which an item, `|` or `;` may come
pub data Ready : State → Type 0 where
  in_items : Ready Items
  behind_literal : Ready AfterLiteral
  behind_size : Ready AfterSize

-- the states in which `@` may come
pub data Unpriced : State → Type 0 where
  bare : Unpriced AfterLiteral
  sized : Unpriced AfterSize

pub data Move : State → Word → Type 0 where
  names_rule : (s : List ℕ) → Move Outside (name s)
  begins_first : Move Named equals
  uses : {st : State} (s : List ℕ) → Ready st → Move st (name s)
  spells : {st : State} (s : List ℕ) → Ready st → Move st (literal s)
  begins_next : {st : State} → Ready st → Move st bar
  ends_rule : {st : State} → Ready st → Move st semicolon
  marks_size : Move AfterLiteral colon
  marks_cost : {st : State} → Unpriced st → Move st at
  says_size : (s : List ℕ) → Move AfterColon (digits s)
  says_cost : (s : List ℕ) → Move AfterAt (digits s)

-- a state has a move for a word, or the word does not fit
pub view : (st : State) (w : Word) → Move st w ⊎ (action st w ≡ unfit)
view Outside (name s) = inl (names_rule s)
view Outside (literal s) = inr refl
view Outside (digits s) = inr refl
view Outside equals = inr refl
view Outside bar = inr refl
view Outside semicolon = inr refl
view Outside colon = inr refl
view Outside at = inr refl
view Named (name s) = inr refl
view Named (literal s) = inr refl
view Named (digits s) = inr refl
view Named equals = inl begins_first
view Named bar = inr refl
view Named semicolon = inr refl
view Named colon = inr refl
view Named at = inr refl
view Items (name s) = inl (uses s in_items)
view Items (literal s) = inl (spells s in_items)
view Items (digits s) = inr refl
view Items equals = inr refl
view Items bar = inl (begins_next in_items)
view Items semicolon = inl (ends_rule in_items)
view Items colon = inr refl
view Items at = inr refl
view AfterLiteral (name s) = inl (uses s behind_literal)
view AfterLiteral (literal s) = inl (spells s behind_literal)
view AfterLiteral (digits s) = inr refl
view AfterLiteral equals = inr refl
view AfterLiteral bar = inl (begins_next behind_literal)
view AfterLiteral semicolon = inl (ends_rule behind_literal)
view AfterLiteral colon = inl marks_size
view AfterLiteral at = inl (marks_cost bare)
view AfterColon (name s) = inr refl
view AfterColon (literal s) = inr refl
view AfterColon (digits s) = inl (says_size s)
view AfterColon equals = inr refl
view AfterColon bar = inr refl
view AfterColon semicolon = inr refl
view AfterColon colon = inr refl
view AfterColon at = inr refl
view AfterSize (name s) = inl (uses s behind_size)
view AfterSize (literal s) = inl (spells s behind_size)
view AfterSize (digits s) = inr refl
view AfterSize equals = inr refl
view AfterSize bar = inl (begins_next behind_size)
view AfterSize semicolon = inl (ends_rule behind_size)
view AfterSize colon = inr refl
view AfterSize at = inl (marks_cost sized)
view AfterAt (name s) = inr refl
view AfterAt (literal s) = inr refl
view AfterAt (digits s) = inl (says_cost s)
view AfterAt equals = inr refl
view AfterAt bar = inr refl
view AfterAt semicolon = inr refl
view AfterAt colon = inr refl
view AfterAt at = inr refl

-- what a word does in a state where an item may come

pub use_adds : {st : State} (s : List ℕ) → Ready st → action st (name s) ≡ add_name
use_adds s in_items = refl
use_adds s behind_literal = refl
use_adds s behind_size = refl

pub literal_adds : {st : State} (s : List ℕ) → Ready st → action st (literal s) ≡ add_literal
literal_adds s in_items = refl
literal_adds s behind_literal = refl
literal_adds s behind_size = refl

pub bar_nexts : {st : State} → Ready st → action st bar ≡ next_alternative
bar_nexts in_items = refl
bar_nexts behind_literal = refl
bar_nexts behind_size = refl

pub semicolon_ends : {st : State} → Ready st → action st semicolon ≡ end_rule
semicolon_ends in_items = refl
semicolon_ends behind_literal = refl
semicolon_ends behind_size = refl

pub at_expects : {st : State} → Unpriced st → action st at ≡ expect_cost
at_expects bare = refl
at_expects sized = refl
