-- What stored rules mean: the family of names, alternatives and items that they are. Assumes nothing.
use Rattle.std.specs.Prelude.{◌≡◌, ℕ, ◌+◌, ◌<◌, ◌≤◌, List, [], map, length}
use Rattle.theory.specs.Lists.{Distinct}
use Rattle.theory.specs.Families.{Item as Symbol, name, literal, Family as Rules, first_item, item_count, Defined}
use Rattle.files.specs.Items.{text_of, items_of}
use Rattle.files.specs.Grammars.{Lists, rule_at, alternative_at, rule_alternatives, label_at}
use Rattle.files.specs.declared.item.Item.{Item}
use Rattle.files.specs.declared.item.Item.TheVariants.{Vacant, Use, Name, Literal}
use Rattle.files.specs.declared.item.Label.{Label}
use Rattle.files.specs.declared.item.Alternative.{Alternative}
use Rattle.files.specs.declared.item.Rule.{Rule}

-- a name is one by its number, a literal has its label's text; the rest stands in no adopted family
abbrev pub item_model : List Label → Item → Symbol
item_model ls (Name y) = name y
item_model ls (Literal t s c) = literal (text_of (label_at ls t)) s c
item_model ls (Use t) = literal [] 0 0
item_model ls Vacant = literal [] 0 0

abbrev pub alternative_model : List Label → Alternative → List Symbol
alternative_model ls a = map (item_model ls) (items_of a)

-- the alternatives of a rule stand in a row
abbrev pub rule_model : Lists → Rule → List (List Symbol)
rule_model l r = map (alternative_model l.labels) (rule_alternatives l.alternatives r)

abbrev pub model : Lists → Rules
model l = map (rule_model l) l.rules

-- the names of the rules
abbrev pub names_in : Lists → List (List ℕ)
names_in l = map (λ (r : Rule). text_of r.label) l.rules

-- the names of the rules differ
abbrev pub NamesDiffer : Lists → Type 0
NamesDiffer l = Distinct (names_in l)

-- the lists fit together: each rule's alternatives are there, each alternative is of one rule, its items have the
-- numbers that they should have, and there is a label for each item
pub record Formed (l : Lists) : Type 0 where
  pub few_rules : length l.rules ≤ 32
  pub few_alternatives : length l.alternatives ≤ 64
  pub few_items : length l.labels ≤ 128
  pub inside : (y : ℕ) → y < length l.rules → (rule_at l.rules y).first + (rule_at l.rules y).count ≤ length l.alternatives
  pub owned : (i : ℕ) → i < length l.alternatives → (y : ℕ) × (a : ℕ) × (y < length l.rules) × (a < (rule_at l.rules y).count) × (i ≡ (rule_at l.rules y).first + a)
  pub six : (i : ℕ) → i < length l.alternatives → ((alternative_at l.alternatives i).count ≤ 6) × (length (alternative_at l.alternatives i).items ≡ 6)
  pub numbered : (y a : ℕ) → y < length l.rules → a < (rule_at l.rules y).count → (alternative_at l.alternatives ((rule_at l.rules y).first + a)).first ≡ first_item (model l) y a
  pub counted : item_count (model l) ≡ length l.labels
  pub defined : Defined (model l)
