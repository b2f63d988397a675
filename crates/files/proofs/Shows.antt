-- What the rule reader holds shows the rules that were read: whole ones, and a part of one more. Assumes nothing.
use Rattle.std.proofs.Common.{◌≡◌, ℕ, ◌<◌, ◌≤◌, List, [], ◌∷◌, ◌++◌, length, sym, refl, ap, ◌∙◌, subst, inl, inr, ⊎_elim, arith}
use Rattle.std.proofs.lemmas.List.{append_assoc, append-nil, length_push}
use Rattle.theory.specs.Lists.{Among}
use Rattle.theory.proofs.Lists.{among_left, among_cases, distinct_++}
use Rattle.files.specs.Scans.{name, literal, digits, equals, bar, colon, at}
use Rattle.files.specs.Items.{label_of, decimal}
use Rattle.files.specs.Grammars.{Lists}
use Rattle.files.specs.Steps.{Reading, fresh}
use Rattle.files.specs.Tokens.{Token, token}
use Rattle.files.specs.Sources.{SourceItem, a_literal, SourceRule, names_of, flat, alternatives_of, InTurn, Optional, absent, given, ItemTokens, BarredTokens, OpenRule, OpenTokens, RulesTokens, Kept, alternative_from, drafted, read_item}
use Rattle.files.specs.Meanings.{Part, nothing, its_name, opened, awaiting, names_begun, alternatives_begun}
use Rattle.files.specs.declared.item.Label.{Label}
use Rattle.files.specs.declared.item.Alternative.{Alternative}
use Rattle.files.specs.declared.state.State.{State}
use Rattle.files.specs.declared.state.State.TheVariants.{Outside, Named, Items, AfterLiteral, AfterColon, AfterSize, AfterAt}
use Rattle.files.proofs.Growth.{flat_push}
use Rattle.files.proofs.Grown.{with_last, with_next, number, open_lists, reading_in}

-- Tokens, one after another

pub in_turn_push : {X : Type 0} (R : X → List Token → Type 0) (xs : List X) (ts : List Token) (x : X) (us : List Token) → InTurn R xs ts → R x us → InTurn R (xs ++ (x ∷ [])) (ts ++ us)
in_turn_push R [] ts x us h r = (us, [], ap (λ l. l ++ us) h ∙ sym (append-nil us), r, refl)
in_turn_push R (y ∷ xs) ts x us h r = (h.0, h.1 ++ us, ap (λ l. l ++ us) h.2 ∙ append_assoc h.0 h.1 us, h.3, in_turn_push R xs h.1 x us h.4 r)

-- one item more
pub open_item : (o : OpenRule) (ts us : List Token) (i : SourceItem) → OpenTokens o ts → ItemTokens i us → OpenTokens (with_last o (o.last ++ (i ∷ []))) (ts ++ us)
open_item o ts us i h r = record {
  equals_at = h.equals_at;
  front = h.front;
  back = h.back ++ us;
  tokens = ap (λ l. l ++ us) h.tokens ∙ ap (λ l. token (name o.name) o.place ∷ token equals h.equals_at ∷ l) (append_assoc h.front h.back us);
  barred = h.barred;
  ending = in_turn_push ItemTokens o.last h.back i us h.ending r;
}

-- one alternative more
pub open_next : (o : OpenRule) (ts : List Token) (q : ℕ) → OpenTokens o ts → OpenTokens (with_next o) (ts ++ (token bar q ∷ []))
open_next o ts q h =
    let all = h.front ++ (h.back ++ (token bar q ∷ [])) in
    record {
      equals_at = h.equals_at;
      front = all;
      back = [];
      tokens =
          ap (λ l. l ++ (token bar q ∷ [])) h.tokens
          ∙ ap (λ l. token (name o.name) o.place ∷ token equals h.equals_at ∷ l) (append_assoc h.front h.back (token bar q ∷ []) ∙ sym (append-nil all));
      barred = in_turn_push BarredTokens o.before h.front o.last (h.back ++ (token bar q ∷ [])) h.barred (h.back, q, refl, h.ending);
      ending = refl;
    }

-- a rule whose last token belongs to a literal without a cost
pub record Costless (o : OpenRule) (ts : List Token) : Type 0 where
  pub items : List SourceItem
  pub text : List ℕ
  pub place : ℕ
  pub size : ℕ
  pub last : o.last ≡ items ++ (a_literal text place size 1 ∷ [])
  pub shorter : List Token
  pub sizing : List Token
  pub tokens : ts ≡ shorter ++ (token (literal text) place ∷ sizing)
  pub opening : OpenTokens (with_last o items) shorter
  pub sized : Optional colon sizing size

-- the rule with another size and cost for that literal
abbrev pub with_literal : (o : OpenRule) (ts : List Token) → Costless o ts → ℕ → ℕ → OpenRule
with_literal o ts h n c = with_last o (h.items ++ (a_literal h.text h.place n c ∷ []))

-- its cost given or not
pub costed : (o : OpenRule) (ts vs : List Token) (c : ℕ) (h : Costless o ts) → Optional at vs c → OpenTokens (with_literal o ts h h.size c) (ts ++ vs)
costed o ts vs c h r =
    let lit = token (literal h.text) h.place in
    subst (OpenTokens _) (sym (ap (λ l. l ++ vs) h.tokens ∙ append_assoc h.shorter (lit ∷ h.sizing) vs))
    (open_item (with_last o h.items) h.shorter (lit ∷ (h.sizing ++ vs)) (a_literal h.text h.place h.size c) h.opening (h.sizing, vs, refl, h.sized, r))

pub costless_open : (o : OpenRule) (ts : List Token) → Costless o ts → OpenTokens o ts
costless_open o ts h =
    subst (λ (is : List SourceItem). OpenTokens (with_last o is) ts) (sym h.last)
    (subst (OpenTokens _) (append-nil ts) (costed o ts [] 1 h (absent refl refl)))

-- its size read
pub size_read : (o : OpenRule) (vs ws : List Token) (p : ℕ) → vs ≡ ws ++ (token colon p ∷ []) → (h : Costless o ws) → h.sizing ≡ [] → (s : List ℕ) (q : ℕ) → Costless (with_literal o ws h (decimal s) 1) (vs ++ (token (digits s) q ∷ []))
size_read o vs ws p e h none s q =
    let lit = token (literal h.text) h.place in
    record {
      items = h.items;
      text = h.text;
      place = h.place;
      size = decimal s;
      last = refl;
      shorter = h.shorter;
      sizing = token colon p ∷ token (digits s) q ∷ [];
      tokens =
          ap (λ l. l ++ (token (digits s) q ∷ [])) (e ∙ ap (λ l. l ++ (token colon p ∷ [])) (h.tokens ∙ ap (λ l. h.shorter ++ (lit ∷ l)) none))
          ∙ append_assoc (h.shorter ++ (lit ∷ [])) (token colon p ∷ []) (token (digits s) q ∷ [])
          ∙ append_assoc h.shorter (lit ∷ []) (token colon p ∷ token (digits s) q ∷ []);
      opening = h.opening;
      sized = given s p q refl refl;
    }

-- its cost read
pub cost_read : (o : OpenRule) (vs ws : List Token) (p : ℕ) → vs ≡ ws ++ (token at p ∷ []) → (h : Costless o ws) (s : List ℕ) (q : ℕ) → OpenTokens (with_literal o ws h h.size (decimal s)) (vs ++ (token (digits s) q ∷ []))
cost_read o vs ws p e h s q =
    subst (OpenTokens (with_literal o ws h h.size (decimal s))) (sym (append_assoc ws (token at p ∷ []) (token (digits s) q ∷ [])) ∙ ap (λ l. l ++ (token (digits s) q ∷ [])) (sym e))
    (costed o ws (token at p ∷ token (digits s) q ∷ []) (decimal s) h (given s p q refl refl))

-- Where the reader stands

pub data Stands (ts : List Token) : State → Part → Type 0 where
  outside : ts ≡ [] → Stands ts Outside nothing
  named : (s : List ℕ) (p : ℕ) → ts ≡ token (name s) p ∷ [] → Stands ts Named (its_name s p)
  among_items : (o : OpenRule) → OpenTokens o ts → Stands ts Items (opened o)
  after_literal : (o : OpenRule) (h : Costless o ts) → h.sizing ≡ [] → Stands ts AfterLiteral (opened o)
  after_colon : (o : OpenRule) (us : List Token) (p : ℕ) → ts ≡ us ++ (token colon p ∷ []) → (h : Costless o us) → h.sizing ≡ [] → Stands ts AfterColon (awaiting o)
  after_size : (o : OpenRule) → Costless o ts → Stands ts AfterSize (opened o)
  after_at : (o : OpenRule) (us : List Token) (p : ℕ) → ts ≡ us ++ (token at p ∷ []) → Costless o us → Stands ts AfterAt (awaiting o)

-- What the reader holds

pub record HeldOpen (n : Label) (k : ℕ) (x : Alternative) (l : Lists) (rs : List SourceRule) (o : OpenRule) : Type 0 where
  pub name : n ≡ label_of o.name o.place
  pub first : k ≡ length (alternatives_of rs)
  pub current : x ≡ alternative_from read_item (number rs o) o.last
  pub lists : l ≡ open_lists rs o

-- what a reading holds that the rules show
pub held_by : (st : State) (n : Label) (k : ℕ) (x : Alternative) (l : Lists) (rs : List SourceRule) (o : OpenRule) → (let r : Reading = record { state = st; name = n; first = k; current = x; lists = l } in r ≡ reading_in st rs o) → HeldOpen n k x l rs o
held_by st n k x l rs o e = record { name = ap (λ r. r.name) e; first = ap (λ r. r.first) e; current = ap (λ r. r.current) e; lists = ap (λ r. r.lists) e }

abbrev pub Held : Label → ℕ → Alternative → Lists → List SourceRule → Part → Type 0
Held n k x l rs nothing = l ≡ drafted read_item rs
Held n k x l rs (its_name s p) = (l ≡ drafted read_item rs) × (n ≡ label_of s p) × (k ≡ length (alternatives_of rs))
Held n k x l rs (opened o) = HeldOpen n k x l rs o
Held n k x l rs (awaiting o) = HeldOpen n k x l rs o

pub record Shown (r : Reading) (ts : List Token) : Type 0 where
  pub rules : List SourceRule
  pub part : Part
  pub whole : List Token
  pub partial : List Token
  pub tokens : ts ≡ whole ++ partial
  pub are_rules : RulesTokens rules whole
  pub kept : Kept (names_of rules ++ names_begun part) (alternatives_of rules ++ alternatives_begun part)
  pub held : Held r.name r.first r.current r.lists rules part
  pub stands : Stands partial r.state part

pub shown_fresh : Shown fresh []
shown_fresh = record {
  rules = [];
  part = nothing;
  whole = [];
  partial = [];
  tokens = refl;
  are_rules = refl;
  kept = record { new = tt; few_names = omega arith; few_alternatives = omega arith; few_items = omega arith; six = λ is h. absurd h };
  held = refl;
  stands = outside refl;
}

-- Names and limits

-- the last alternative changed
pub kept_last : (ns : List (List ℕ)) (alts : List (List SourceItem)) (is js : List SourceItem) → Kept ns (alts ++ (is ∷ [])) → length js ≤ 6 → length (flat alts ++ js) ≤ 128 → Kept ns (alts ++ (js ∷ []))
kept_last ns alts is js k a b = record {
  new = k.new;
  few_names = k.few_names;
  few_alternatives = omega (arith, k.few_alternatives, length_push alts is, length_push alts js);
  few_items = subst (λ (l : List SourceItem). length l ≤ 128) (sym (flat_push alts js)) b;
  six = λ x h. ⊎_elim
      (λ (g : Among x alts). k.six x (among_left x alts (is ∷ []) g))
      (λ (g : Among x (js ∷ [])). only x g)
      (among_cases x alts (js ∷ []) h);
}
  where
    only : (x : List SourceItem) → Among x (js ∷ []) → length x ≤ 6
    only x (inl e) = subst (λ (l : List SourceItem). length l ≤ 6) (sym e) a
    only x (inr h) = absurd h

-- one alternative more, without items
pub kept_next : (ns : List (List ℕ)) (alts : List (List SourceItem)) → Kept ns alts → length alts < 64 → Kept ns (alts ++ ([] ∷ []))
kept_next ns alts k h = record {
  new = k.new;
  few_names = k.few_names;
  few_alternatives = omega (arith, length_push alts []);
  few_items = subst (λ (l : List SourceItem). length l ≤ 128) (sym (flat_push alts [] ∙ append-nil (flat alts))) k.few_items;
  six = λ x g. ⊎_elim (λ (m : Among x alts). k.six x m) (λ (m : Among x ([] ∷ [])). only x m) (among_cases x alts ([] ∷ []) g);
}
  where
    only : (x : List SourceItem) → Among x ([] ∷ []) → length x ≤ 6
    only x (inl e) = subst (λ (l : List SourceItem). length l ≤ 6) (sym e) (omega arith)
    only x (inr h) = absurd h

-- one name more
pub kept_name : (ns : List (List ℕ)) (alts : List (List SourceItem)) (s : List ℕ) → Kept ns alts → (Among s ns → ⊥) → length ns < 32 → Kept (ns ++ (s ∷ [])) alts
kept_name ns alts s k new h = record {
  new = distinct_++ ns (s ∷ []) k.new ((λ g. g), tt) apart;
  few_names = omega (arith, length_push ns s);
  few_alternatives = k.few_alternatives;
  few_items = k.few_items;
  six = k.six;
}
  where
    apart : (x : List ℕ) → Among x ns → Among x (s ∷ []) → ⊥
    apart x g (inl e) = new (subst (λ (z : List ℕ). Among z ns) e g)
    apart x g (inr m) = m
