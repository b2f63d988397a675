-- Which tokens rules may begin with: those along which the reader's states go. Assumes nothing.
use Rattle.std.proofs.Common.{◌≡◌, ℕ, Bool, true, false, cond, ltb, List, [], ◌∷◌, ◌++◌, length, sym, refl, ap, ◌∙◌, subst, ⊎_elim}
use Rattle.std.proofs.lemmas.List.{append_assoc, append-nil}
use Rattle.files.specs.Faults.{Answer, granted, refused}
use Rattle.files.specs.Scans.{Word, digits, equals, bar, semicolon, colon, at}
use Rattle.files.specs.Steps.{Reading, Action, unfit, action, said, acted, stepped}
use Rattle.files.specs.Items.{label_of, decimal}
use Rattle.files.specs.Grammars.{rule_index}
use Rattle.files.specs.Tokens.{Token, token}
use Rattle.files.specs.Sources.{SourceItem, a_name, a_literal, SourceRule, InTurn, Optional, absent, given, ItemTokens, AlternativeTokens, BarredTokens, OpenRule, OpenTokens, closed_rule, RuleTokens, RulesTokens}
use Rattle.files.specs.Meanings.{Part, BeginRules}
use Rattle.files.specs.declared.state.State.{State}
use Rattle.files.specs.declared.state.State.TheVariants.{Outside, Named, Items, AfterLiteral, AfterColon, AfterSize, AfterAt}
use Rattle.files.proofs.Moves.{Ready, in_items, behind_literal, behind_size, Unpriced, bare, sized, Move, names_rule, begins_first, uses, spells, begins_next, ends_rule, marks_size, marks_cost, says_size, says_cost, view, use_adds, literal_adds, bar_nexts, semicolon_ends, at_expects}
use Rattle.files.proofs.Shows.{in_turn_push, with_literal, costless_open, size_read, cost_read, Stands, outside, named, among_items, after_literal, after_colon, after_size, after_at}

-- Rules begin with what was read

module _ (rs : List SourceRule) (us : List Token) (are : RulesTokens rs us) where
  -- a rule that the tokens ws and `;` end
  ended : (o : OpenRule) (vs ws : List Token) → OpenTokens o (vs ++ ws) → BeginRules (us ++ vs)
  ended o vs ws h =
      let end = token semicolon 0 ∷ [] in (
        ws ++ end,
        rs ++ (closed_rule o ∷ []),
        subst (RulesTokens (rs ++ (closed_rule o ∷ []))) (ap (λ l. us ++ l) (append_assoc vs ws end) ∙ sym (append_assoc us vs (ws ++ end)))
            (in_turn_push RuleTokens rs us (closed_rule o) ((vs ++ ws) ++ end) are (o, vs ++ ws, 0, refl, refl, h)),
      )

  ended_here : (o : OpenRule) (vs : List Token) → OpenTokens o vs → BeginRules (us ++ vs)
  ended_here o vs h = ended o vs [] (subst (OpenTokens o) (sym (append-nil vs)) h)

  -- the digit 0
  abbrev zero_said : List Token
  zero_said = token (digits (48 ∷ [])) 0 ∷ []

  pub begin : (vs : List Token) {st : State} {part : Part} → Stands vs st part → BeginRules (us ++ vs)
  begin vs (outside e) = ([], rs, subst (RulesTokens rs) (sym (append-nil us) ∙ ap (λ l. l ++ []) (sym (append-nil us)) ∙ ap (λ l. (us ++ l) ++ []) (sym e)) are)
  begin vs (named s p e) = ended (record { name = s; place = p; before = []; last = [] }) vs (token equals 0 ∷ [])
      (record { equals_at = 0; front = []; back = []; tokens = ap (λ l. l ++ (token equals 0 ∷ [])) e; barred = refl; ending = refl })
  begin vs (among_items o h) = ended_here o vs h
  begin vs (after_literal o h e) = ended_here o vs (costless_open o vs h)
  begin vs (after_colon o ws p e h none) = ended (with_literal o ws h (decimal (48 ∷ [])) 1) vs zero_said (costless_open (with_literal o ws h (decimal (48 ∷ [])) 1) (vs ++ zero_said) (size_read o vs ws p e h none (48 ∷ []) 0))
  begin vs (after_size o h) = ended_here o vs (costless_open o vs h)
  begin vs (after_at o ws p e h) = ended (with_literal o ws h h.size (decimal (48 ∷ []))) vs zero_said (cost_read o vs ws p e h (48 ∷ []) 0)

-- The states go along rules

abbrev pub after : {st : State} {w : Word} → Move st w → State
after (names_rule s) = Named
after begins_first = Items
after (uses s r) = Items
after (spells s r) = AfterLiteral
after (begins_next r) = Items
after (ends_rule r) = Outside
after marks_size = AfterColon
after (marks_cost r) = AfterAt
after (says_size s) = AfterSize
after (says_cost s) = Items

-- from one state along the tokens to another
abbrev pub Goes : State → List Token → State → Type 0
Goes st [] end = st ≡ end
Goes st (t ∷ ts) end = (v : Move st t.word) × Goes (after v) ts end

pub goes_on : (st : State) (ts us : List Token) (mid end : State) → Goes st ts mid → Goes mid us end → Goes st (ts ++ us) end
goes_on st [] us mid end e h = subst (λ (s : State). Goes s us end) (sym e) h
goes_on st (t ∷ ts) us mid end g h = (g.0, goes_on (after g.0) ts us mid end g.1 h)

-- the first part of a way
pub goes_part : (st : State) (ts us : List Token) (end : State) → Goes st (ts ++ us) end → (mid : State) × Goes st ts mid × Goes mid us end
goes_part st [] us end h = (st, refl, h)
goes_part st (t ∷ ts) us end h = let g = goes_part (after h.0) ts us end h.1 in (g.0, (h.0, g.1), g.2)

-- a word leads from a state to one state only
same_after : {st : State} {w : Word} (u v : Move st w) → after u ≡ after v
same_after (names_rule s) (names_rule t) = refl
same_after (names_rule s) (uses t q) = elim q [ ]
same_after begins_first begins_first = refl
same_after (uses s r) (names_rule t) = elim r [ ]
same_after (uses s r) (uses t q) = refl
same_after (spells s r) (spells t q) = refl
same_after (begins_next r) (begins_next q) = refl
same_after (ends_rule r) (ends_rule q) = refl
same_after marks_size marks_size = refl
same_after (marks_cost r) (marks_cost q) = refl
same_after (says_size s) (says_size t) = refl
same_after (says_cost s) (says_cost t) = refl

pub same_end : (st : State) (ts : List Token) (a b : State) → Goes st ts a → Goes st ts b → a ≡ b
same_end st [] a b e g = sym e ∙ g
same_end st (t ∷ ts) a b g h = same_end (after g.0) ts a b g.1 (subst (λ (s : State). Goes s ts b) (same_after h.0 g.0) h.1)

-- a word that does not fit has no move

pub unfit_moves : {st : State} {w : Word} → Move st w → action st w ≡ unfit → ⊥
unfit_moves (names_rule s) e = cc
unfit_moves begins_first e = cc
unfit_moves (uses s r) e = let h = sym (use_adds s r) ∙ e in cc
unfit_moves (spells s r) e = let h = sym (literal_adds s r) ∙ e in cc
unfit_moves (begins_next r) e = let h = sym (bar_nexts r) ∙ e in cc
unfit_moves (ends_rule r) e = let h = sym (semicolon_ends r) ∙ e in cc
unfit_moves marks_size e = cc
unfit_moves (marks_cost r) e = let h = sym (at_expects r) ∙ e in cc
unfit_moves (says_size s) e = cc
unfit_moves (says_cost s) e = cc

-- the states go along the tokens of rules

-- from a state in which an item may come to another such state
abbrev Along : State → List Token → Type 0
Along st ts = (end : State) × Ready end × Goes st ts end

along_item : (st : State) → Ready st → (i : SourceItem) (ts : List Token) → ItemTokens i ts → Along st ts
along_item st r (a_name s p) ts e = (Items, in_items, subst (λ (l : List Token). Goes st l Items) (sym e) (uses s r, refl))
along_item st r (a_literal s p n c) ts h =
    let end = priced (after_size h.0 h.3) h.1 h.4 in
    (end.0, end.1, subst (λ (l : List Token). Goes st l end.0) (sym h.2) (spells s r, goes_on AfterLiteral h.0 h.1 (after_size h.0 h.3).0 end.0 (after_size h.0 h.3).2 end.2))
  where
    after_size : (us : List Token) → Optional colon us n → (mid : State) × Unpriced mid × Goes AfterLiteral us mid
    after_size us (absent e one) = (AfterLiteral, bare, subst (λ (l : List Token). Goes AfterLiteral l AfterLiteral) (sym e) refl)
    after_size us (given d a b e said-so) = (AfterSize, sized, subst (λ (l : List Token). Goes AfterLiteral l AfterSize) (sym e) (marks_size, (says_size d, refl)))

    open_state : (mid : State) → Unpriced mid → Ready mid
    open_state mid bare = behind_literal
    open_state mid sized = behind_size

    priced : (t : (mid : State) × Unpriced mid × Goes AfterLiteral h.0 mid) (vs : List Token) → Optional at vs c → (end : State) × Ready end × Goes t.0 vs end
    priced t vs (absent e one) = (t.0, open_state t.0 t.1, subst (λ (l : List Token). Goes t.0 l t.0) (sym e) refl)
    priced t vs (given d a b e said-so) = (Items, in_items, subst (λ (l : List Token). Goes t.0 l Items) (sym e) (marks_cost t.1, (says_cost d, refl)))

along_items : (st : State) → Ready st → (is : List SourceItem) (ts : List Token) → AlternativeTokens is ts → Along st ts
along_items st r [] ts e = (st, r, subst (λ (l : List Token). Goes st l st) (sym e) refl)
along_items st r (i ∷ is) ts h =
    let a = along_item st r i h.0 h.3 in
    let b = along_items a.0 a.1 is h.1 h.4 in
    (b.0, b.1, subst (λ (l : List Token). Goes st l b.0) (sym h.2) (goes_on st h.0 h.1 a.0 b.0 a.2 b.2))

along_barred : (alts : List (List SourceItem)) (ts : List Token) → InTurn BarredTokens alts ts → Goes Items ts Items
along_barred [] ts e = subst (λ (l : List Token). Goes Items l Items) (sym e) refl
along_barred (is ∷ alts) ts h =
    let a = along_items Items in_items is h.3.0 h.3.3 in
    let b : Goes Items h.0 Items = subst (λ (l : List Token). Goes Items l Items) (sym h.3.2) (goes_on Items h.3.0 (token bar h.3.1 ∷ []) a.0 Items a.2 (begins_next a.1, refl)) in
    subst (λ (l : List Token). Goes Items l Items) (sym h.2) (goes_on Items h.0 h.1 Items Items b (along_barred alts h.1 h.4))

pub along_open : (o : OpenRule) (ts : List Token) → OpenTokens o ts → Along Outside ts
along_open o ts h =
    let a = along_items Items in_items o.last h.back h.ending in
    (a.0, a.1, subst (λ (l : List Token). Goes Outside l a.0) (sym h.tokens) (names_rule o.name, (begins_first, goes_on Items h.front h.back Items a.0 (along_barred o.before h.front h.barred) a.2)))

pub along_rules : (rs : List SourceRule) (ts : List Token) → RulesTokens rs ts → Goes Outside ts Outside
along_rules [] ts e = subst (λ (l : List Token). Goes Outside l Outside) (sym e) refl
along_rules (r ∷ rs) ts h =
    let a = along_open h.3.0 h.3.1 h.3.5 in
    let b : Goes Outside h.0 Outside = subst (λ (l : List Token). Goes Outside l Outside) (sym h.3.4) (goes_on Outside h.3.1 (token semicolon h.3.2 ∷ []) a.0 Outside a.2 (ends_rule a.1, refl)) in
    subst (λ (l : List Token). Goes Outside l Outside) (sym h.2) (goes_on Outside h.0 h.1 Outside Outside b (along_rules rs h.1 h.4))

-- no rules begin with tokens and then a word that does not fit
pub nothing_begins : (ts : List Token) (t : Token) (st : State) → Goes Outside ts st → action st t.word ≡ unfit → BeginRules (ts ++ (t ∷ [])) → ⊥
nothing_begins ts t st way e h =
    let all = along_rules h.1 ((ts ++ (t ∷ [])) ++ h.0) h.2 in
    let parts = goes_part Outside ts ((t ∷ []) ++ h.0) Outside (subst (λ (l : List Token). Goes Outside l Outside) (append_assoc ts (t ∷ []) h.0) all) in
    let here : parts.0 ≡ st = same_end Outside ts parts.0 st parts.1 way in
    unfit_moves (subst (λ (s : State). Move s t.word) here parts.2.0) e

-- A step that is granted goes along its word

data Reached (st : State) : Answer Reading → Type 0 where
  by : (s : Reading) → s.state ≡ st → Reached st (granted s)
  not_at_all : (k i j : ℕ) → Reached st (refused k i j)

tested : (st : State) (b : Bool) (s : Reading) (k i j : ℕ) → s.state ≡ st → Reached st (cond b (granted s) (refused k i j))
tested st true s k i j e = by s e
tested st false s k i j e = not_at_all k i j

untested : (st : State) (b : Bool) (k i j : ℕ) (a : Answer Reading) → Reached st a → Reached st (cond b (refused k i j) a)
untested st true k i j a h = not_at_all k i j
untested st false k i j a h = h

reached : {st : State} {w : Word} (r : Reading) (v : Move st w) (q m : ℕ) → Reached (after v) (acted (action st w) (said w) r q m)
reached r (names_rule s) q m = untested Named (ltb (rule_index r.lists.rules s) (length r.lists.rules)) 7 q m _
    (tested Named (ltb (length r.lists.rules) 32) (record { state = Named; name = label_of s q; first = length r.lists.alternatives; current = r.current; lists = r.lists }) 8 q m refl)
reached r begins_first q m = tested Items _ _ 8 q m refl
reached r (uses s y) q m = subst (λ (a : Action). Reached Items (acted a s r q m)) (sym (use_adds s y)) (tested Items _ _ 8 q m refl)
reached r (spells s y) q m = subst (λ (a : Action). Reached AfterLiteral (acted a s r q m)) (sym (literal_adds s y)) (tested AfterLiteral _ _ 8 q m refl)
reached r (begins_next y) q m = subst (λ (a : Action). Reached Items (acted a [] r q m)) (sym (bar_nexts y)) (tested Items _ _ 8 q m refl)
reached r (ends_rule y) q m = subst (λ (a : Action). Reached Outside (acted a [] r q m)) (sym (semicolon_ends y)) (by _ refl)
reached r marks_size q m = by _ refl
reached r (marks_cost y) q m = subst (λ (a : Action). Reached AfterAt (acted a [] r q m)) (sym (at_expects y)) (by _ refl)
reached r (says_size s) q m = by _ refl
reached r (says_cost s) q m = by _ refl

state_reached : (st : State) (s : Reading) → Reached st (granted s) → s.state ≡ st
state_reached st s (by t e) = e

never : {k i j : ℕ} {s : Reading} → refused k i j ≡ granted s → ⊥
never h = cc

-- the way with one token more
pub way_on : (r s : Reading) (ts : List Token) (w : Word) (q m : ℕ) → Goes Outside ts r.state → stepped r w q m ≡ granted s → Goes Outside (ts ++ (token w q ∷ [])) s.state
way_on r s ts w q m way e = ⊎_elim
    (λ (v : Move r.state w). goes_on Outside ts (token w q ∷ []) r.state s.state way (v, sym (state_reached (after v) s (subst (Reached (after v)) e (reached r v q m)))))
    (λ (u : action r.state w ≡ unfit). absurd (never (ap (λ a. acted a (said w) r q m) (sym u) ∙ e)))
    (view r.state w)
