-- How rules are read, token by token. Assumes nothing.
use Rattle.std.specs.Prelude.{◌≡◌, ℕ, ◌-◌, cond, ◌&&◌, List, [], ◌∷◌, ◌++◌, length, Ok, Err, Result, nat_lt}
use Rattle.files.specs.Faults.{Answer, granted, refused, refusal}
use Rattle.files.specs.Scans.{Word, name, literal, digits, equals, bar, semicolon, colon, at}
use Rattle.files.specs.Items.{label_of, no_items, with_item, with_size, with_cost, decimal}
use Rattle.files.specs.Grammars.{Lists, lists_of, no_lists, no_label, rule_index}
use Rattle.files.specs.declared.fault.Fault.{Fault}
use Rattle.files.specs.declared.fault.Span.{Span}
use Rattle.files.specs.declared.item.Label.{Label}
use Rattle.files.specs.declared.item.Item.{Item}
use Rattle.files.specs.declared.item.Item.TheVariants.{Use, Literal}
use Rattle.files.specs.declared.item.Alternative.{Alternative}
use Rattle.files.specs.declared.state.State.{State}
use Rattle.files.specs.declared.state.State.TheVariants.{Outside, Named, Items, AfterLiteral, AfterColon, AfterSize, AfterAt}
use Rattle.files.specs.declared.reader.Reader.{Reader}

-- how far reading has come
pub record Reading : Type 0 where
  pub state : State
  -- the rule that is begun: its name, and the number of its first alternative
  pub name : Label
  pub first : ℕ
  -- the alternative that is begun
  pub current : Alternative
  -- the rules that are done
  pub lists : Lists

abbrev pub reading_of : Reader → Reading
reading_of r = record { state = r.state; name = r.name; first = r.first; current = r.current; lists = lists_of r.grammar }

abbrev pub fresh : Reading
fresh = record { state = Outside; name = no_label; first = 0; current = no_items 0; lists = no_lists }

-- what a token does
pub data Action : Type 0 where
  begin_rule : Action
  begin_alternative : Action
  next_alternative : Action
  end_rule : Action
  add_name : Action
  add_literal : Action
  set_size : Action
  set_cost : Action
  expect_size : Action
  expect_cost : Action
  unfit : Action

-- the grammar of a rule: a name, `=`, alternatives with `|` between, `;`;
-- an item is a name, or a literal with `:` and a size and then `@` and a cost
abbrev pub action : State → Word → Action
action Outside (name s) = begin_rule
action Outside (literal s) = unfit
action Outside (digits s) = unfit
action Outside equals = unfit
action Outside bar = unfit
action Outside semicolon = unfit
action Outside colon = unfit
action Outside at = unfit
action Named (name s) = unfit
action Named (literal s) = unfit
action Named (digits s) = unfit
action Named equals = begin_alternative
action Named bar = unfit
action Named semicolon = unfit
action Named colon = unfit
action Named at = unfit
action Items (name s) = add_name
action Items (literal s) = add_literal
action Items (digits s) = unfit
action Items equals = unfit
action Items bar = next_alternative
action Items semicolon = end_rule
action Items colon = unfit
action Items at = unfit
action AfterLiteral (name s) = add_name
action AfterLiteral (literal s) = add_literal
action AfterLiteral (digits s) = unfit
action AfterLiteral equals = unfit
action AfterLiteral bar = next_alternative
action AfterLiteral semicolon = end_rule
action AfterLiteral colon = expect_size
action AfterLiteral at = expect_cost
action AfterColon (name s) = unfit
action AfterColon (literal s) = unfit
action AfterColon (digits s) = set_size
action AfterColon equals = unfit
action AfterColon bar = unfit
action AfterColon semicolon = unfit
action AfterColon colon = unfit
action AfterColon at = unfit
action AfterSize (name s) = add_name
action AfterSize (literal s) = add_literal
action AfterSize (digits s) = unfit
action AfterSize equals = unfit
action AfterSize bar = next_alternative
action AfterSize semicolon = end_rule
action AfterSize colon = unfit
action AfterSize at = expect_cost
action AfterAt (name s) = unfit
action AfterAt (literal s) = unfit
action AfterAt (digits s) = set_cost
action AfterAt equals = unfit
action AfterAt bar = unfit
action AfterAt semicolon = unfit
action AfterAt colon = unfit
action AfterAt at = unfit

abbrev pub said : Word → List ℕ
said (name s) = s
said (literal s) = s
said (digits s) = s
said equals = []
said bar = []
said semicolon = []
said colon = []
said at = []

-- the lists with one alternative, label or rule more
abbrev pub with_alternative : Lists → Alternative → Lists
with_alternative l a = record { rules = l.rules; alternatives = l.alternatives ++ (a ∷ []); labels = l.labels }

abbrev pub with_label : Lists → Label → Lists
with_label l t = record { rules = l.rules; alternatives = l.alternatives; labels = l.labels ++ (t ∷ []) }

-- the rule n, whose first alternative has the number f and which has all from there on
abbrev pub with_rule : Lists → Label → ℕ → Lists
with_rule l n f = record { rules = l.rules ++ (record { label = n; first = f; count = length l.alternatives - f } ∷ []); alternatives = l.alternatives; labels = l.labels }

-- r in another state, with another current alternative and other lists
abbrev pub onward : Reading → State → Alternative → Lists → Answer Reading
onward r s a l = granted (record { state = s; name = r.name; first = r.first; current = a; lists = l })

-- the item i, with its label t, behind the current alternative's last
abbrev pub item_added : Reading → State → Label → Item → ℕ → ℕ → Answer Reading
item_added r s t i p n = cond (nat_lt r.current.count 6 && nat_lt (length r.lists.labels) 128) (onward r s (with_item r.current i) (with_label r.lists t)) (refused 8 p n)

-- what an action does with the text s of a token at p, of length n
abbrev pub acted : Action → List ℕ → Reading → ℕ → ℕ → Answer Reading
acted begin_rule s r p n =
    cond (nat_lt (rule_index r.lists.rules s) (length r.lists.rules)) (refused 7 p n)
    (cond (nat_lt (length r.lists.rules) 32) (granted (record { state = Named; name = label_of s p; first = length r.lists.alternatives; current = r.current; lists = r.lists })) (refused 8 p n))
acted begin_alternative s r p n = cond (nat_lt (length r.lists.alternatives) 64) (onward r Items (no_items (length r.lists.labels)) r.lists) (refused 8 p n)
acted next_alternative s r p n = cond (nat_lt (length r.lists.alternatives) 63) (onward r Items (no_items (length r.lists.labels)) (with_alternative r.lists r.current)) (refused 8 p n)
acted end_rule s r p n = onward r Outside r.current (with_rule (with_alternative r.lists r.current) r.name r.first)
acted add_name s r p n = item_added r Items (label_of s p) (Use (length r.lists.labels)) p n
acted add_literal s r p n = item_added r AfterLiteral (label_of s p) (Literal (length r.lists.labels) 1 1) p n
acted set_size s r p n = onward r AfterSize (with_size r.current (decimal s)) r.lists
acted set_cost s r p n = onward r Items (with_cost r.current (decimal s)) r.lists
acted expect_size s r p n = onward r AfterColon r.current r.lists
acted expect_cost s r p n = onward r AfterAt r.current r.lists
acted unfit s r p n = refused 6 p n

-- one step: by the state and the token together
abbrev pub stepped : Reading → Word → ℕ → ℕ → Answer Reading
stepped r w p n = acted (action r.state w) (said w) r p n

-- a step from the reading r to the reading s answers a, and a refusal leaves the reading as it was
abbrev pub StepAnswers : Result (Unit {0}) Fault → Reading → Reading → Answer Reading → Type 0
StepAnswers (Ok x) r s a = granted s ≡ a
StepAnswers (Err e) r s a = (refusal e ≡ a) × (s ≡ r)

-- what an action does to a reader, with the text s of a token at the span
abbrev pub Acts : Action → List ℕ → Span → Reader → Reader → Result (Unit {0}) Fault → Type 0
Acts a s p q r answer = StepAnswers answer (reading_of q) (reading_of r) (acted a s (reading_of q) p.place p.length)
