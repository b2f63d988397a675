-- The worked cases. Assumes nothing.
use Rattle.std.specs.Prelude.{◌≡◌, ℕ, true, List, [], ◌∷◌, map, Some, None, Err, codes, Result}
use Rattle.theory.specs.Lists.{below}
use Rattle.theory.specs.Orders.{rising, to_and_fro, splits, upward}
use Rattle.theory.specs.Families.{name, literal, Family as Rules}
use Rattle.theory.specs.Layouts.{choices}
use Rattle.theory.specs.Nullable.{nullable_set, reaches}
use Rattle.theory.specs.Totals.{total}
use Rattle.theory.specs.Numbers.{layout}
use Rattle.files.specs.Faults.{Answer, granted, refused}
use Rattle.files.specs.Items.{label_of}
use Rattle.files.specs.Grammars.{Lists, no_lists, rule_at}
use Rattle.files.specs.Files.{read_file}
use Rattle.files.specs.Models.{model}
use Rattle.families.specs.Adopts.{Adopts}
use Rattle.files.specs.declared.fault.Fault.{Fault}
use Rattle.files.specs.declared.fault.Fault.TheVariants.{EmptyCycle}
use Rattle.families.specs.declared.family.Family.{Family}
use Rattle.tables.specs.Counts.{count_kind, count_shown}
use Rattle.tables.specs.Costs.{cheapest_kind, cheapest_shown}

-- the lists that reading a file grants; none where it is refused
abbrev pub lists_granted : Answer Lists → Lists
lists_granted (granted l) = l
lists_granted (refused k p n) = no_lists

abbrev pub lists_read : List ℕ → Lists
lists_read f = lists_granted (read_file f)

-- the rules of a file
abbrev pub rules_read : List ℕ → Rules
rules_read f = model (lists_read f)

-- Lines of tracks

abbrev pub lines_file : List ℕ
lines_file = codes "line = track | track line ;\ntrack = \"plain\" | \"point\":2@5 ;\ntwo = line line ;\n"

-- line, track and two have the numbers 0, 1 and 2
abbrev pub lines : Rules
lines =
    ((name 1 ∷ []) ∷ (name 1 ∷ name 0 ∷ []) ∷ [])
    ∷ ((literal (codes "plain") 1 1 ∷ []) ∷ (literal (codes "point") 2 5 ∷ []) ∷ [])
    ∷ ((name 0 ∷ name 0 ∷ []) ∷ [])
    ∷ []

-- the choices of the layout of `two` at size 4 with the number x
abbrev pub two_choices : (ℕ → ℕ → ℕ) → ℕ → List ℕ
two_choices at x = choices (layout (splits 40 at) lines 2 4 x)

-- An empty cycle

abbrev pub looped_file : List ℕ
looped_file = codes "a = \"p\" | b a ; b = | \"p\" ;"

abbrev pub looped : Rules
looped = ((literal (codes "p") 1 1 ∷ []) ∷ (name 1 ∷ name 0 ∷ []) ∷ []) ∷ ([] ∷ (literal (codes "p") 1 1 ∷ []) ∷ []) ∷ []

-- Rows of letters

abbrev pub letters_file : List ℕ
letters_file = codes "a = \"p\" | \"q\" | \"r\" | \"s\" ; b = | a b ;"

abbrev pub letters : Rules
letters =
    ((literal (codes "p") 1 1 ∷ []) ∷ (literal (codes "q") 1 1 ∷ []) ∷ (literal (codes "r") 1 1 ∷ []) ∷ (literal (codes "s") 1 1 ∷ []) ∷ [])
    ∷ ([] ∷ (name 0 ∷ name 1 ∷ []) ∷ [])
    ∷ []

-- Names that can be empty

abbrev pub empty_file : List ℕ
empty_file = codes "a = b ; b = ;"

abbrev pub empties : Rules
empties = ((name 1 ∷ []) ∷ []) ∷ ([] ∷ []) ∷ []

pub record WorkedCases : Type 0 where
  -- the file of lines is read to the family of lines
  pub lines_are_read : rules_read lines_file ≡ lines
  -- `line` has 0, 1, 2, 3 and 5 layouts at the sizes 0 to 4
  pub lines_counted : map (λ n. count_shown (total count_kind upward lines 0 n)) (below 5) ≡ Some 0 ∷ Some 1 ∷ Some 2 ∷ Some 3 ∷ Some 5 ∷ []
  -- `two` has 10 layouts at size 4
  pub twos_counted : count_shown (total count_kind upward lines 2 4) ≡ Some 10
  -- the cheapest `line` at size 3 costs 3
  pub cheapest_line : cheapest_shown (total cheapest_kind upward lines 0 3) ≡ Some 3
  -- there is no `line` at size 0
  pub no_line : cheapest_shown (total cheapest_kind upward lines 0 0) ≡ None
  -- to and fro at 3: from both ends in turn
  pub from_both_ends : map (to_and_fro 3) (below 4) ≡ 0 ∷ 3 ∷ 1 ∷ 2 ∷ []
  -- number 3 of `two` at size 4, by rising
  pub third_rising : two_choices rising 3 ≡ 0 ∷ 0 ∷ 1 ∷ 0 ∷ 1 ∷ []
  -- number 3 of `two` at size 4, by to and fro
  pub third_to_and_fro : two_choices to_and_fro 3 ≡ 0 ∷ 1 ∷ 0 ∷ 0 ∷ 1 ∷ 0 ∷ 0 ∷ []
  -- number 4 of `two` at size 4, by rising
  pub fourth_rising : two_choices rising 4 ≡ 0 ∷ 0 ∷ 1 ∷ 1 ∷ 0 ∷ 0 ∷ 0 ∷ []
  -- number 1 of `two` at size 4, by rising
  pub first_rising : two_choices rising 1 ≡ 0 ∷ 0 ∷ 0 ∷ 1 ∷ 0 ∷ 1 ∷ 0 ∷ 0 ∷ 0 ∷ []
  -- reading grants the rules with an empty cycle
  pub looped_is_read : rules_read looped_file ≡ looped
  -- the name 0 reaches itself there
  pub looped_reaches : reaches looped (nullable_set looped) 0 0 ≡ true
  -- its label stands at the place 0 and is 1 long
  pub looped_label : (rule_at (lists_read looped_file).rules 0).label ≡ label_of (codes "a") 0
  -- adopting refuses: an empty cycle at the place 0, of length 1
  pub looped_refused : (r : Result (Unit {0}) Fault) (f g : Family) → Adopts r f g (lists_read looped_file) → r ≡ Err (EmptyCycle (record { place = 0; length = 1 }))
  -- the file of letters is read to the family of letters
  pub letters_are_read : rules_read letters_file ≡ letters
  -- b has 4 to the power of 31 layouts at size 31
  pub letters_counted : count_shown (total count_kind upward letters 1 31) ≡ Some 4611686018427387904
  -- at size 32 its count is the cap
  pub letters_capped : count_shown (total count_kind upward letters 1 32) ≡ Some 18446744073709551615
  -- the file `a = b ; b = ;` is read to its family
  pub empty_is_read : rules_read empty_file ≡ empties
  -- both names can be empty there
  pub both_empty : map (nullable_set empties) (below 2) ≡ true ∷ true ∷ []
