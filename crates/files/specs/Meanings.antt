-- What a family file is, and what each refusal of one says. Assumes nothing.
use Rattle.std.specs.Prelude.{◌≡◌, ℕ, ◌<◌, ◌≤◌, ◌⊎◌, List, [], ◌∷◌, ◌++◌, length, drop, ◌≢◌}
use Rattle.theory.specs.Lists.{Among}
use Rattle.files.specs.Faults.{Answer, granted, refused}
use Rattle.files.specs.Bytes.{blank}
use Rattle.files.specs.Scans.{Word, name, literal, equals, bar, colon, at}
use Rattle.files.specs.Tokens.{Every, Token, token, width, NextToken, Tokens, NoToken}
use Rattle.files.specs.Sources.{SourceItem, a_name, SourceRule, names_of, flat, alternatives_of, items_in_file, OpenRule, all_alternatives, OpenTokens, RulesTokens, Kept, UsesAmong, draft_of}
use Rattle.files.specs.Grammars.{Lists}

-- the file's tokens are those of rules that keep the limits, with names that differ
pub record RuleFile (f : List ℕ) (rs : List SourceRule) : Type 0 where
  pub short : length f ≤ 16384
  pub tokens : List Token
  pub end : ℕ
  pub in_a_row : Tokens f 0 tokens end
  pub blank_end : Every blank (drop end f)
  pub are_rules : RulesTokens rs tokens
  pub some : 0 < length rs
  pub kept : Kept (names_of rs) (alternatives_of rs)

-- f is a family file, and l its draft
pub record FamilyFile (f : List ℕ) (l : Lists) : Type 0 where
  pub rules : List SourceRule
  pub file : RuleFile f rules
  pub defined : UsesAmong (names_of rules) (items_in_file rules)
  pub draft : l ≡ draft_of rules

-- How far a file has come

-- what is begun of a rule: nothing, its name, its alternatives so far, or these and a `:` or `@` whose digits are still to come
pub data Part : Type 0 where
  nothing : Part
  its_name : List ℕ → ℕ → Part
  opened : OpenRule → Part
  awaiting : OpenRule → Part

abbrev pub PartTokens : Part → List Token → Type 0
PartTokens nothing ts = ts ≡ []
PartTokens (its_name s p) ts = ts ≡ token (name s) p ∷ []
PartTokens (opened o) ts = OpenTokens o ts
PartTokens (awaiting o) ts = (us : List Token) × (m : Word) × (p : ℕ) × (ts ≡ us ++ (token m p ∷ [])) × OpenTokens o us × ((m ≡ colon) ⊎ (m ≡ at))

abbrev pub names_begun : Part → List (List ℕ)
names_begun nothing = []
names_begun (its_name s p) = s ∷ []
names_begun (opened o) = o.name ∷ []
names_begun (awaiting o) = o.name ∷ []

abbrev pub alternatives_begun : Part → List (List SourceItem)
alternatives_begun nothing = []
alternatives_begun (its_name s p) = []
alternatives_begun (opened o) = all_alternatives o
alternatives_begun (awaiting o) = all_alternatives o

-- some rules begin with the tokens
abbrev pub BeginRules : List Token → Type 0
BeginRules ts = (us : List Token) × (rs : List SourceRule) × RulesTokens rs (ts ++ us)

-- the tokens are whole rules and a part of one more; all their names differ, and the limits are kept
pub record Start (ts : List Token) : Type 0 where
  pub rules : List SourceRule
  pub part : Part
  pub whole : List Token
  pub partial : List Token
  pub tokens : ts ≡ whole ++ partial
  pub are_rules : RulesTokens rules whole
  pub is_part : PartTokens part partial
  pub allowed : BeginRules ts
  pub kept : Kept (names_of rules ++ names_begun part) (alternatives_of rules ++ alternatives_begun part)

-- the file is no longer than it may be and has, up to the place q, tokens that rules may begin with
pub record ReadTo (f : List ℕ) (q : ℕ) : Type 0 where
  pub short : length f ≤ 16384
  pub tokens : List Token
  pub in_a_row : Tokens f 0 tokens q
  pub start : Start tokens

-- there is no place for what the word begins: the name of a rule, an alternative or an item
pub data NoPlace (rs : List SourceRule) : Part → Word → Type 0 where
  for_name : (s : List ℕ) → (Among s (names_of rs) → ⊥) → length rs ≡ 32 → NoPlace rs nothing (name s)
  for_first : (s : List ℕ) (p : ℕ) → length (alternatives_of rs) ≡ 64 → NoPlace rs (its_name s p) equals
  for_next : (o : OpenRule) → length (alternatives_of rs ++ all_alternatives o) ≡ 64 → NoPlace rs (opened o) bar
  for_use : (o : OpenRule) (s : List ℕ) → (length o.last ≡ 6) ⊎ (length (flat (alternatives_of rs ++ all_alternatives o)) ≡ 128) → NoPlace rs (opened o) (name s)
  for_literal : (o : OpenRule) (s : List ℕ) → (length o.last ≡ 6) ⊎ (length (flat (alternatives_of rs ++ all_alternatives o)) ≡ 128) → NoPlace rs (opened o) (literal s)

-- the first use of a name that no rule defines is that of s, at p
pub record FirstUndefined (rs : List SourceRule) (s : List ℕ) (p : ℕ) : Type 0 where
  pub front : List SourceItem
  pub back : List SourceItem
  pub items : items_in_file rs ≡ front ++ (a_name s p ∷ back)
  pub defined : UsesAmong (names_of rs) front
  pub undefined : Among s (names_of rs) → ⊥

-- f is refused, with the number, the place and the length
pub data Refused (f : List ℕ) : ℕ → ℕ → ℕ → Type 0 where
  -- the file is too long
  too_long : 16384 < length f → Refused f 1 0 0
  -- what comes next is no token
  no_token : {q k p n : ℕ} → ReadTo f q → NoToken f q k p n → Refused f k p n
  -- no rules begin with the tokens so far and the next
  not_allowed : {q : ℕ} (c : ReadTo f q) (t : Token) → NextToken f q t → (BeginRules (c.tokens ++ (t ∷ [])) → ⊥) → Refused f 6 t.place (width t)
  -- the file ends within a rule
  within_rule : {q : ℕ} (c : ReadTo f q) → Every blank (drop q f) → (c.start.part ≢ nothing) → Refused f 6 (length f) 0
  -- the next token is a rule's name, and an earlier rule has it
  name_taken : {q : ℕ} (c : ReadTo f q) (s : List ℕ) (p : ℕ) → NextToken f q (token (name s) p) → c.start.part ≡ nothing → Among s (names_of c.start.rules) → Refused f 7 p (length s)
  -- the next token begins what there is no place for
  no_place : {q : ℕ} (c : ReadTo f q) (t : Token) → NextToken f q t → NoPlace c.start.rules c.start.part t.word → Refused f 8 t.place (width t)
  -- there are only blanks
  no_rule : length f ≤ 16384 → Every blank f → Refused f 9 (length f) 0
  -- a name is used that no rule defines
  undefined_name : {s : List ℕ} {p : ℕ} (rs : List SourceRule) → RuleFile f rs → FirstUndefined rs s p → Refused f 10 p (length s)

-- what an answer to reading the file f says
abbrev pub Means : List ℕ → Answer Lists → Type 0
Means f (granted l) = FamilyFile f l
Means f (refused k p n) = Refused f k p n
