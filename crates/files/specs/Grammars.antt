-- The rules of a family as they are stored. Assumes nothing.
use Rattle.std.specs.Prelude.{ℕ, Bool, cond, not, List, [], length, take, drop, Some, None, vec_items, Option, nat_lt, slice_index_or}
use Rattle.std.specs.List.{prefix_len}
use Rattle.std.specs.Str.{bytes_eq}
use Rattle.files.specs.Items.{label_of, text_of, no_items}
use Rattle.files.specs.declared.item.Label.{Label}
use Rattle.files.specs.declared.item.Rule.{Rule}
use Rattle.files.specs.declared.item.Alternative.{Alternative}
use Rattle.files.specs.declared.grammar.Grammar.{Grammar}

-- what a grammar holds: its rules, the alternatives of all rules in a row, and a label for each item
pub record Lists : Type 0 where
  pub rules : List Rule
  pub alternatives : List Alternative
  pub labels : List Label

abbrev pub lists_of : Grammar → Lists
lists_of g = record { rules = vec_items g.rules; alternatives = vec_items g.alternatives; labels = vec_items g.labels }

abbrev pub no_lists : Lists
no_lists = record { rules = []; alternatives = []; labels = [] }

abbrev pub no_label : Label
no_label = label_of [] 0

abbrev pub no_rule : Rule
no_rule = record { label = no_label; first = 0; count = 0 }

abbrev pub rule_at : List Rule → ℕ → Rule
rule_at rs y = slice_index_or rs y no_rule

abbrev pub alternative_at : List Alternative → ℕ → Alternative
alternative_at xs a = slice_index_or xs a (no_items 0)

-- the alternatives of a rule: as many as it has, from its first on
abbrev pub rule_alternatives : List Alternative → Rule → List Alternative
rule_alternatives xs r = take r.count (drop r.first xs)

abbrev pub label_at : List Label → ℕ → Label
label_at ls j = slice_index_or ls j no_label

abbrev pub differs : List ℕ → Rule → Bool
differs s r = not (bytes_eq (text_of r.label) s)

-- the number of the first rule with that name, or how many rules there are
abbrev pub rule_index : List Rule → List ℕ → ℕ
rule_index rs s = prefix_len (differs s) rs

-- the number of a name, if a rule defines it
abbrev pub found_name : List Rule → List ℕ → Option ℕ
found_name rs s = cond (nat_lt (rule_index rs s) (length rs)) (Some (rule_index rs s)) None
