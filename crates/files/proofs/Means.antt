-- What reading answers is what the file means. Assumes nothing.
use Rattle.std.proofs.Common.{◌≡◌, ◌≢◌, ℕ, ◌+◌, ◌<◌, ◌≤◌, Bool, true, false, ltb, leb, ◌⊎◌, List, [], ◌∷◌, ◌++◌, length, drop, MatchBool, sym, refl, ap, ◌∙◌, subst, inl, inr, ⊎_elim, not-suc-le-zero}
use Rattle.std.proofs.lemmas.Bool.{cond_both, ltb-true, ltb-false, leb-true, leb-false}
use Rattle.std.proofs.lemmas.List.{append-nil}
use Rattle.files.specs.Faults.{Answer, refused}
use Rattle.files.specs.Bytes.{blank}
use Rattle.files.specs.Scans.{Word, colon, at}
use Rattle.files.specs.Grammars.{Lists}
use Rattle.files.specs.Steps.{Reading, fresh}
use Rattle.files.specs.Files.{resolved, closed, Reads, ends, goes, stops, fails, ReadsFile}
use Rattle.files.specs.Tokens.{Every, Token, token, width, written, NextToken, Tokens}
use Rattle.files.specs.Sources.{SourceRule, names_of, alternatives_of, RulesTokens, Kept, rules_from, drafted, read_item}
use Rattle.files.specs.Meanings.{RuleFile, Part, nothing, PartTokens, names_begun, alternatives_begun, BeginRules, Start, ReadTo, FirstUndefined, Refused, too_long, no_token, not_allowed, within_rule, name_taken, no_place, no_rule, undefined_name, Means}
use Rattle.files.specs.declared.state.State.{State}
use Rattle.files.specs.declared.state.State.TheVariants.{Outside}
use Rattle.files.proofs.Spelling.{found_means, end_means, wrong_means}
use Rattle.files.proofs.Numbering.{resolves, refuses, uses_decided, rules_count}
use Rattle.files.proofs.Shows.{costless_open, Stands, outside, named, among_items, after_literal, after_colon, after_size, after_at, Held, Shown, shown_fresh}
use Rattle.files.proofs.Stepping.{Stopped, unfit_word, taken, full, Outcome, step}
use Rattle.files.proofs.Paths.{begin, Goes, nothing_begins, way_on}

-- How far a file has come

pub part_read : {st : State} {part : Part} (vs : List Token) → Stands vs st part → PartTokens part vs
part_read vs (outside e) = e
part_read vs (named s p e) = e
part_read vs (among_items o h) = h
part_read vs (after_literal o h e) = costless_open o vs h
part_read vs (after_colon o us p e h none) = (us, colon, p, e, costless_open o us h, inl refl)
part_read vs (after_size o h) = costless_open o vs h
part_read vs (after_at o us p e h) = (us, at, p, e, costless_open o us h, inr refl)

abbrev start_of : (r : Reading) (ts : List Token) → Shown r ts → Start ts
start_of r ts h = record {
  rules = h.rules;
  part = h.part;
  whole = h.whole;
  partial = h.partial;
  tokens = h.tokens;
  are_rules = h.are_rules;
  is_part = part_read h.partial h.stands;
  allowed = subst BeginRules (sym h.tokens) (begin h.rules h.whole h.are_rules h.partial h.stands);
  kept = h.kept;
}

pub tokens_push : (f : List ℕ) (p q : ℕ) (ts : List Token) (t : Token) → Tokens f p ts q → NextToken f q t → Tokens f p (ts ++ (t ∷ [])) (t.place + width t)
tokens_push f p q [] t e h = (subst (λ (n : ℕ). NextToken f n t) (sym e) h, refl)
tokens_push f p q (u ∷ ts) t h n = (h.0, tokens_push f (u.place + width u) q ts t h.1 n)

module _ (f : List ℕ) (short : length f ≤ 16384) where
  abbrev read_to : (p : ℕ) (ts : List Token) → Tokens f 0 ts p → (r : Reading) → Shown r ts → ReadTo f p
  read_to p ts row r h = record { short = short; tokens = ts; in_a_row = row; start = start_of r ts h }

  -- a token that is refused
  stopped_means : (p : ℕ) (ts : List Token) (row : Tokens f 0 ts p) (r : Reading) (h : Shown r ts) → Goes Outside ts r.state → (w : Word) (q m : ℕ) → NextToken f p (token w q) → m ≡ length (written w) →
      (k i j : ℕ) → Stopped r.state h.rules h.part w q m k i j → Refused f k i j
  stopped_means p ts row r h way w q m t e _ _ _ (unfit_word u) = subst (Refused f 6 q) (sym e) (not_allowed (read_to p ts row r h) (token w q) t (nothing_begins ts (token w q) r.state way u))
  stopped_means p ts row r h way w q m t e _ _ _ (taken s none is among) =
      subst (Refused f 7 q) (sym (e ∙ ap (λ v. length (written v)) is)) (name_taken (read_to p ts row r h) s q (subst (λ (v : Word). NextToken f p (token v q)) is t) none among)
  stopped_means p ts row r h way w q m t e _ _ _ (full n) = subst (Refused f 8 q) (sym e) (no_place (read_to p ts row r h) (token w q) t n)

  -- the end of the file
  no_rules : (p : ℕ) (ts : List Token) → Tokens f 0 ts p → Every blank (drop p f) → (rs : List SourceRule) (us vs : List Token) → ts ≡ us ++ vs → RulesTokens rs us → vs ≡ [] → length rs ≤ 0 → Refused f 9 (length f) 0
  no_rules p ts row blanks [] us vs e are none low =
      let nothing_read : ts ≡ [] = e ∙ ap (λ l. l ++ vs) are ∙ none in
      let begun : 0 ≡ p = subst (λ (l : List Token). Tokens f 0 l p) nothing_read row in
      no_rule short (subst (λ (n : ℕ). Every blank (drop n f)) (sym begun) blanks)
  no_rules p ts row blanks (r ∷ rs) us vs e are none low = absurd (not-suc-le-zero low)

  rules_end : (p : ℕ) (ts : List Token) → Tokens f 0 ts p → Every blank (drop p f) → (rs : List SourceRule) (us vs : List Token) → ts ≡ us ++ vs → RulesTokens rs us → vs ≡ [] → Kept (names_of rs ++ []) (alternatives_of rs ++ []) → Means f (closed Outside (drafted read_item rs) (length f))
  rules_end p ts row blanks rs us vs e are none kept = cond_both (ltb 0 (length (rules_from 0 rs))) (resolved (drafted read_item rs)) (refused 9 (length f) 0) (Means f)
      (λ some. ⊎_elim
      (λ uses. subst (Means f) (sym (resolves rs uses)) (record { rules = rs; file = whole some; defined = uses; draft = refl }))
      (λ (t : (s : List ℕ) × (q : ℕ) × FirstUndefined rs s q). subst (Means f) (sym (refuses rs t.0 t.1 t.2)) (undefined_name rs (whole some) t.2))
      (uses_decided rs))
      (λ few. no_rules p ts row blanks rs us vs e are none (subst (λ (n : ℕ). n ≤ 0) (rules_count 0 rs) (ltb-false 0 (length (rules_from 0 rs)) few)))
    where
      whole : ltb 0 (length (rules_from 0 rs)) ≡ true → RuleFile f rs
      whole some = record {
        short = short;
        tokens = ts;
        end = p;
        in_a_row = row;
        blank_end = blanks;
        are_rules = subst (RulesTokens rs) (sym (e ∙ ap (λ l. us ++ l) none ∙ append-nil us)) are;
        some = subst (λ (n : ℕ). 0 < n) (rules_count 0 rs) (ltb-true 0 (length (rules_from 0 rs)) some);
        kept = subst (λ (ns : List (List ℕ)). Kept ns (alternatives_of rs)) (append-nil (names_of rs)) (subst (Kept (names_of rs ++ [])) (append-nil (alternatives_of rs)) kept);
      }

  -- the reader stands between rules, or a rule is begun and the end does not fit
  whole_or_part : {st : State} {part : Part} (vs : List Token) → Stands vs st part →
      ((st ≡ Outside) × (part ≡ nothing) × (vs ≡ [])) ⊎ (((l : Lists) (n : ℕ) → closed st l n ≡ refused 6 n 0) × (part ≢ nothing))
  whole_or_part vs (outside e) = inl (refl, refl, e)
  whole_or_part vs (named s p e) = inr ((λ l n. refl), λ e. cc)
  whole_or_part vs (among_items o h) = inr ((λ l n. refl), λ e. cc)
  whole_or_part vs (after_literal o h e) = inr ((λ l n. refl), λ e. cc)
  whole_or_part vs (after_colon o us p e h none) = inr ((λ l n. refl), λ e. cc)
  whole_or_part vs (after_size o h) = inr ((λ l n. refl), λ e. cc)
  whole_or_part vs (after_at o us p e h) = inr ((λ l n. refl), λ e. cc)

  end_of_file : (p : ℕ) (ts : List Token) → Tokens f 0 ts p → (r : Reading) → Shown r ts → Every blank (drop p f) → Means f (closed r.state r.lists (length f))
  end_of_file p ts row r h blanks = ⊎_elim
      (λ (t : (r.state ≡ Outside) × (h.part ≡ nothing) × (h.partial ≡ [])).
      let lists : r.lists ≡ drafted read_item h.rules = subst (Held r.name r.first r.current r.lists h.rules) t.1 h.held in
      subst (λ (st : State). Means f (closed st r.lists (length f))) (sym t.0)
      (subst (λ (l : Lists). Means f (closed Outside l (length f))) (sym lists)
      (rules_end p ts row blanks h.rules h.whole h.partial h.tokens h.are_rules t.2
      (subst (λ (part : Part). Kept (names_of h.rules ++ names_begun part) (alternatives_of h.rules ++ alternatives_begun part)) t.1 h.kept))))
      (λ (t : ((l : Lists) (n : ℕ) → closed r.state l n ≡ refused 6 n 0) × (h.part ≢ nothing)).
      subst (Means f) (sym (t.0 r.lists (length f))) (within_rule (read_to p ts row r h) blanks t.1))
      (whole_or_part h.partial h.stands)

  reads_mean : {p : ℕ} {r : Reading} {a : Answer Lists} → Reads f p r a → (ts : List Token) → Tokens f 0 ts p → Shown r ts → Goes Outside ts r.state → Means f a
  reads_mean (ends {p} {r} {a} e c) ts row h way = subst (Means f) c (end_of_file p ts row r h (end_means f p e))
  reads_mean (fails {p} {k} {i} {j} {r} e) ts row h way = no_token (read_to p ts row r h) (wrong_means f p k i j e)
  reads_mean (stops {p} {k} {i} {j} {r} w q m e c) ts row h way =
      let t = found_means f p q m w e in
      stopped_means p ts row r h way w q m t.0 t.1 k i j (subst (Outcome r.state h.rules h.part ts w q m) c (step r ts h w q m))
  reads_mean (goes {p} {r} {s} {a} w q m e b i c rest) ts row h way =
      let t = found_means f p q m w e in
      reads_mean rest (ts ++ (token w q ∷ [])) (subst (λ (n : ℕ). Tokens f 0 (ts ++ (token w q ∷ [])) (q + n)) (sym t.1) (tokens_push f 0 p ts (token w q) row t.0))
      (subst (Outcome r.state h.rules h.part ts w q m) c (step r ts h w q m)) (way_on r s ts w q m way c)

pub file_means : (f : List ℕ) (a : Answer Lists) → ReadsFile f a → Means f a
file_means f a h = go (leb (length f) 16384) refl h
  where
    go : (b : Bool) → leb (length f) 16384 ≡ b → MatchBool b (Reads f 0 fresh a) (a ≡ refused 1 0 0) → Means f a
    go true e k = reads_mean f (leb-true (length f) 16384 e) k [] refl shown_fresh refl
    go false e k = subst (Means f) (sym k) (too_long (leb-false (length f) 16384 e))
