-- Rules as they stand in a file, and the tokens that they are written with. Assumes nothing.
use Rattle.std.specs.Prelude.{◌≡◌, ℕ, ◌+◌, ◌≤◌, not, List, [], ◌∷◌, ◌++◌, map, length, drop, replicate}
use Rattle.std.specs.List.{prefix_len}
use Rattle.std.specs.Str.{bytes_eq}
use Rattle.theory.specs.Lists.{Among, Distinct}
use Rattle.files.specs.Scans.{Word, name, literal, digits, equals, bar, semicolon, colon, at}
use Rattle.files.specs.Tokens.{Token, token}
use Rattle.files.specs.Items.{label_of, decimal}
use Rattle.files.specs.Grammars.{Lists}
use Rattle.files.specs.declared.item.Item.{Item}
use Rattle.files.specs.declared.item.Item.TheVariants.{Vacant, Use, Name, Literal}
use Rattle.files.specs.declared.item.Label.{Label}
use Rattle.files.specs.declared.item.Alternative.{Alternative}
use Rattle.files.specs.declared.item.Rule.{Rule}

-- Rules

-- an item: a name that is used, or a literal with its size and its cost; each with its text and its token's place
pub data SourceItem : Type 0 where
  a_name : List ℕ → ℕ → SourceItem
  a_literal : List ℕ → ℕ → ℕ → ℕ → SourceItem

-- a rule: its name, with the name's place, and its alternatives
pub record SourceRule : Type 0 where
  pub name : List ℕ
  pub place : ℕ
  pub alternatives : List (List SourceItem)

abbrev pub names_of : List SourceRule → List (List ℕ)
names_of rs = map (λ r. r.name) rs

-- all in one list
abbrev pub flat : {X : Type 0} → List (List X) → List X
flat [] = []
flat (xs ∷ xss) = xs ++ flat xss

abbrev pub alternatives_of : List SourceRule → List (List SourceItem)
alternatives_of rs = flat (map (λ r. r.alternatives) rs)

abbrev pub items_in_file : List SourceRule → List SourceItem
items_in_file rs = flat (alternatives_of rs)

-- Tokens

-- the tokens of the xs, one after another
abbrev pub InTurn : {X : Type 0} → (X → List Token → Type 0) → List X → List Token → Type 0
InTurn R [] ts = ts ≡ []
InTurn R (x ∷ xs) ts = (us : List Token) × (vs : List Token) × (ts ≡ us ++ vs) × R x us × InTurn R xs vs

-- the mark and a digit run for n; or neither, and n is 1
pub data Optional (mark : Word) (ts : List Token) (n : ℕ) : Type 0 where
  absent : ts ≡ [] → n ≡ 1 → Optional mark ts n
  given : (s : List ℕ) (p q : ℕ) → ts ≡ token mark p ∷ token (digits s) q ∷ [] → n ≡ decimal s → Optional mark ts n

-- an item is a name, or a literal with an optional `:` and size and then an optional `@` and cost
abbrev pub ItemTokens : SourceItem → List Token → Type 0
ItemTokens (a_name s p) ts = ts ≡ token (name s) p ∷ []
ItemTokens (a_literal s p n c) ts = (us : List Token) × (vs : List Token) × (ts ≡ token (literal s) p ∷ (us ++ vs)) × Optional colon us n × Optional at vs c

-- an alternative is its items
abbrev pub AlternativeTokens : List SourceItem → List Token → Type 0
AlternativeTokens is ts = InTurn ItemTokens is ts

-- an alternative with `|` behind it
abbrev pub BarredTokens : List SourceItem → List Token → Type 0
BarredTokens is ts = (us : List Token) × (p : ℕ) × (ts ≡ us ++ (token bar p ∷ [])) × AlternativeTokens is us

-- a rule that is begun: its name, the alternatives that `|` ends, and the last, which nothing ends yet
pub record OpenRule : Type 0 where
  pub name : List ℕ
  pub place : ℕ
  pub before : List (List SourceItem)
  pub last : List SourceItem

abbrev pub all_alternatives : OpenRule → List (List SourceItem)
all_alternatives o = o.before ++ (o.last ∷ [])

-- a name, `=`, and one or more alternatives with `|` between them
pub record OpenTokens (o : OpenRule) (ts : List Token) : Type 0 where
  pub equals_at : ℕ
  pub front : List Token
  pub back : List Token
  pub tokens : ts ≡ token (name o.name) o.place ∷ token equals equals_at ∷ (front ++ back)
  pub barred : InTurn BarredTokens o.before front
  pub ending : AlternativeTokens o.last back

abbrev pub closed_rule : OpenRule → SourceRule
closed_rule o = record { name = o.name; place = o.place; alternatives = all_alternatives o }

-- a rule is one that is begun, and `;`
abbrev pub RuleTokens : SourceRule → List Token → Type 0
RuleTokens r ts = (o : OpenRule) × (us : List Token) × (p : ℕ) × (r ≡ closed_rule o) × (ts ≡ us ++ (token semicolon p ∷ [])) × OpenTokens o us

abbrev pub RulesTokens : List SourceRule → List Token → Type 0
RulesTokens rs ts = InTurn RuleTokens rs ts

-- Names and limits

-- names that differ, at most 32, with at most 64 alternatives of at most six items, at most 128 in all
pub record Kept (names : List (List ℕ)) (alternatives : List (List SourceItem)) : Type 0 where
  pub new : Distinct names
  pub few_names : length names ≤ 32
  pub few_alternatives : length alternatives ≤ 64
  pub few_items : length (flat alternatives) ≤ 128
  pub six : (is : List SourceItem) → Among is alternatives → length is ≤ 6

-- each name that the items use is among the names
abbrev pub UsesAmong : List (List ℕ) → List SourceItem → Type 0
UsesAmong names [] = Unit {0}
UsesAmong names (a_name s p ∷ is) = Among s names × UsesAmong names is
UsesAmong names (a_literal s p n c ∷ is) = UsesAmong names is

-- Drafts

-- the number of a name: how many come before it
abbrev pub name_number : List (List ℕ) → List ℕ → ℕ
name_number names s = prefix_len (λ t. not (bytes_eq t s)) names

-- the item with the number j: a used name by its number, a literal with its size and its cost
abbrev pub numbered_item : List (List ℕ) → ℕ → SourceItem → Item
numbered_item names j (a_name s p) = Name (name_number names s)
numbered_item names j (a_literal s p n c) = Literal j n c

abbrev pub item_label : SourceItem → Label
item_label (a_name s p) = label_of s p
item_label (a_literal s p n c) = label_of s p

-- items from the number j on, each as `put` has it
abbrev pub items_from : (ℕ → SourceItem → Item) → ℕ → List SourceItem → List Item
items_from put j [] = []
items_from put j (i ∷ is) = put j i ∷ items_from put (j + 1) is

-- an alternative's six places, those behind its last item vacant
abbrev pub alternative_from : (ℕ → SourceItem → Item) → ℕ → List SourceItem → Alternative
alternative_from put j is = record { items = items_from put j is ++ drop (length is) (replicate 6 Vacant); count = length is; first = j }

-- alternatives in a row, their items numbered from j on
abbrev pub alternatives_from : (ℕ → SourceItem → Item) → ℕ → List (List SourceItem) → List Alternative
alternatives_from put j [] = []
alternatives_from put j (is ∷ alts) = alternative_from put j is ∷ alternatives_from put (j + length is) alts

-- rules in a row, the first of their alternatives being the a-th of all
abbrev pub rules_from : ℕ → List SourceRule → List Rule
rules_from a [] = []
rules_from a (r ∷ rs) = record { label = label_of r.name r.place; first = a; count = length r.alternatives } ∷ rules_from (a + length r.alternatives) rs

-- the draft of rules: names by the order of their rules, items numbered from 0 through the whole file, a label for each
abbrev pub drafted : (ℕ → SourceItem → Item) → List SourceRule → Lists
drafted put rs = record { rules = rules_from 0 rs; alternatives = alternatives_from put 0 (alternatives_of rs); labels = map item_label (items_in_file rs) }

abbrev pub draft_of : List SourceRule → Lists
draft_of rs = drafted (numbered_item (names_of rs)) rs

-- an item while the file is read: a used name by its label
abbrev pub read_item : ℕ → SourceItem → Item
read_item j (a_name s p) = Use j
read_item j (a_literal s p n c) = Literal j n c
