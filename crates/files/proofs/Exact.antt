-- A file has one meaning only: the answer that reading gives. Assumes nothing.
use Rattle.std.proofs.Common.{◌≡◌, ℕ, ◌+◌, ◌<◌, ◌≤◌, true, cond, ◌&&◌, ltb, ◌⊎◌, List, [], ◌∷◌, ◌++◌, map, length, MatchBool, sym, refl, ap, ◌∙◌, subst, inl, inr, ⊎_elim, arith}
use Rattle.std.proofs.lemmas.Bool.{cond-true, cond-false, and_left, and_right, lt-ltb, le-ltb, le-leb, lt-leb}
use Rattle.std.proofs.lemmas.List.{append_assoc, append-nil, length-append, length-map, length_push, map-append}
use Rattle.theory.specs.Lists.{Among}
use Rattle.files.specs.Faults.{Answer, granted, refused}
use Rattle.files.specs.Scans.{Word, name, literal, equals, bar, semicolon, colon, at}
use Rattle.files.specs.Grammars.{Lists, rule_index}
use Rattle.files.specs.Steps.{Reading, fresh, acted, stepped}
use Rattle.files.specs.Files.{closed, Reads, ends, goes, stops, fails, ReadsFile}
use Rattle.files.specs.Tokens.{Token, token, width, Tokens}
use Rattle.files.specs.Sources.{a_name, a_literal, SourceRule, names_of, flat, alternatives_of, absent, OpenRule, all_alternatives, closed_rule, RulesTokens, Kept, rules_from, drafted, read_item}
use Rattle.files.specs.Meanings.{RuleFile, Part, nothing, its_name, opened, awaiting, PartTokens, names_begun, alternatives_begun, BeginRules, Start, ReadTo, NoPlace, for_name, for_first, for_next, for_use, for_literal, Refused, too_long, no_token, not_allowed, within_rule, name_taken, no_place, no_rule, undefined_name, Means}
use Rattle.files.specs.declared.item.Label.{Label}
use Rattle.files.specs.declared.item.Alternative.{Alternative}
use Rattle.files.specs.declared.state.State.{State}
use Rattle.files.specs.declared.state.State.TheVariants.{Outside, AfterColon, AfterAt}
use Rattle.files.proofs.Spelling.{means_found, means_end, means_wrong, token_inside}
use Rattle.files.proofs.Numbering.{resolves, refuses, name_found, number_among, number_new, rules_count}
use Rattle.files.proofs.Growth.{flat_append, length-alternatives_from}
use Rattle.files.proofs.Grown.{open_lists, reading_in, reading_named, begun_rule, done, all_items, labels_count, alternatives-count, end_grown}
use Rattle.files.proofs.Moves.{Ready, in_items, behind_literal, behind_size, Move, marks_size, marks_cost, use_adds, literal_adds, bar_nexts, semicolon_ends, at_expects}
use Rattle.files.proofs.Shows.{open_item, open_next, named, among_items, Shown, shown_fresh}
use Rattle.files.proofs.Stepping.{Stopped, unfit_word, taken, full, Outcome, step}
use Rattle.files.proofs.Paths.{begin, Goes, goes_part, same_end, along_rules, way_on}
use Rattle.files.proofs.Computed.{file_read}
use Rattle.files.proofs.Means.{part_read}
use Rattle.files.proofs.Following.{Leads, leads_on, kept_front, last_new, between, name_step, follow_open}

-- Whole rules

follow_rules : (rs qs : List SourceRule) (ts : List Token) (n : Label) (f : ℕ) (x : Alternative) → RulesTokens qs ts → Kept (names_of (rs ++ qs)) (alternatives_of (rs ++ qs)) →
    (m : Label) × (g : ℕ) × (y : Alternative) × Leads (between rs n f x) ts (between (rs ++ qs) m g y)
follow_rules rs [] ts n f x e k = (n, f, x, subst (λ (l : List Token). Leads (between rs n f x) l (between (rs ++ []) n f x)) (sym e) (ap (λ l. between l n f x) (sym (append-nil rs))))
follow_rules rs (r ∷ qs) ts n f x h k =
    let o = h.3.0 in
    let us = h.3.1 in
    let p = h.3.2 in
    let is : r ≡ closed_rule o = h.3.3 in
    let names : names_of (rs ++ (r ∷ qs)) ≡ (names_of rs ++ (o.name ∷ [])) ++ names_of qs =
    map-append (λ (z : SourceRule). z.name) rs (r ∷ qs) ∙ ap (λ (z : SourceRule). names_of rs ++ (z.name ∷ names_of qs)) is ∙ sym (append_assoc (names_of rs) (o.name ∷ []) (names_of qs)) in
    let alternatives : alternatives_of (rs ++ (r ∷ qs)) ≡ (alternatives_of rs ++ all_alternatives o) ++ alternatives_of qs =
    ap flat (map-append (λ (z : SourceRule). z.alternatives) rs (r ∷ qs)) ∙ flat_append (map (λ (z : SourceRule). z.alternatives) rs) (map (λ (z : SourceRule). z.alternatives) (r ∷ qs))
    ∙ ap (λ (z : SourceRule). alternatives_of rs ++ (z.alternatives ++ alternatives_of qs)) is ∙ sym (append_assoc (alternatives_of rs) (all_alternatives o) (alternatives_of qs)) in
    let front : Kept (names_of rs ++ (o.name ∷ [])) (alternatives_of rs ++ all_alternatives o) =
    kept_front (names_of rs ++ (o.name ∷ [])) (names_of qs) (alternatives_of rs ++ all_alternatives o) (alternatives_of qs) (subst (λ (z : List (List ℕ)). Kept z ((alternatives_of rs ++ all_alternatives o) ++ alternatives_of qs)) names (subst (Kept (names_of (rs ++ (r ∷ qs)))) alternatives k)) in
    let a = follow_open rs n f x o us h.3.5 front in
    let last = reading_in a.0 rs o in
    let ended : Leads last (token semicolon p ∷ []) (between (rs ++ (r ∷ [])) last.name last.first last.current) = (
      between (rs ++ (r ∷ [])) last.name last.first last.current,
      ap (λ z. acted z [] last p 1) (semicolon_ends a.1) ∙ (λ i. granted (record { state = Outside; name = last.name; first = last.first; current = last.current; lists = end_grown rs o i })) ∙ ap (λ z. granted (between (rs ++ (z ∷ [])) last.name last.first last.current)) (sym is),
      refl,
    ) in
    let e : (rs ++ (r ∷ [])) ++ qs ≡ rs ++ (r ∷ qs) = append_assoc rs (r ∷ []) qs in
    let b = follow_rules (rs ++ (r ∷ [])) qs h.1 last.name last.first last.current h.4 (subst (λ (z : List SourceRule). Kept (names_of z) (alternatives_of z)) (sym e) k) in (
      b.0,
      b.1,
      b.2,
      subst (λ (l : List Token). Leads (between rs n f x) l (between (rs ++ (r ∷ qs)) b.0 b.1 b.2)) (sym h.2)
          (leads_on _ h.0 h.1 (between (rs ++ (r ∷ [])) last.name last.first last.current) _
          (subst (λ (l : List Token). Leads (between rs n f x) l (between (rs ++ (r ∷ [])) last.name last.first last.current)) (sym h.3.4) (leads_on _ us (token semicolon p ∷ []) last _ a.2 ended))
          (subst (λ (z : List SourceRule). Leads (between (rs ++ (r ∷ [])) last.name last.first last.current) h.1 (between z b.0 b.1 b.2)) e b.3)),
    )

-- A part of a rule

-- the reader holds whole rules and a part of one more
abbrev Met : List SourceRule → Part → Reading → Type 0
Met rs nothing r = (n : Label) × (f : ℕ) × (x : Alternative) × (r ≡ between rs n f x)
Met rs (its_name s p) r = (x : Alternative) × (r ≡ reading_named x rs s p)
Met rs (opened o) r = (st : State) × Ready st × (r ≡ reading_in st rs o)
Met rs (awaiting o) r = (st : State) × ((st ≡ AfterColon) ⊎ (st ≡ AfterAt)) × (r ≡ reading_in st rs o)

-- the states go along what leads the reader on
leads_way : (r s : Reading) (us ts : List Token) → Goes Outside us r.state → Leads r ts s → Goes Outside (us ++ ts) s.state
leads_way r s us [] way e = subst (λ (l : List Token). Goes Outside l s.state) (sym (append-nil us)) (subst (λ (z : Reading). Goes Outside us z.state) e way)
leads_way r s us (t ∷ ts) way h = subst (λ (l : List Token). Goes Outside l s.state) (append_assoc us (t ∷ []) ts) (leads_way h.0 s (us ++ (t ∷ [])) ts (way_on r h.0 us t.word t.place (width t) way h.1) h.2)

colon_step : {st : State} (rs : List SourceRule) (o : OpenRule) (p : ℕ) → Move st colon → stepped (reading_in st rs o) colon p 1 ≡ granted (reading_in AfterColon rs o)
colon_step rs o p marks_size = refl

at_step : {st : State} (rs : List SourceRule) (o : OpenRule) (p : ℕ) → Move st at → stepped (reading_in st rs o) at p 1 ≡ granted (reading_in AfterAt rs o)
at_step {st} rs o p (marks_cost u) = ap (λ z. acted z [] (reading_in st rs o) p 1) (at_expects u)

module _ (rs : List SourceRule) (n : Label) (f : ℕ) (x : Alternative) (us : List Token) (way : Goes Outside us Outside) where
  -- the move of a mark that rules may go on with
  mark_moves : (o : OpenRule) (vs : List Token) (st : State) (m : Word) (p : ℕ) → Leads (between rs n f x) vs (reading_in st rs o) → BeginRules (us ++ (vs ++ (token m p ∷ []))) → Move st m
  mark_moves o vs st m p h begun =
      let tail = (token m p ∷ []) ++ begun.0 in
      let e : (us ++ (vs ++ (token m p ∷ []))) ++ begun.0 ≡ (us ++ vs) ++ tail = ap (λ l. l ++ begun.0) (sym (append_assoc us vs (token m p ∷ []))) ∙ append_assoc (us ++ vs) (token m p ∷ []) begun.0 in
      let parts = goes_part Outside (us ++ vs) tail Outside (subst (λ (l : List Token). Goes Outside l Outside) e (along_rules begun.1 _ begun.2)) in
      let here : parts.0 ≡ st = same_end Outside (us ++ vs) parts.0 st parts.1 (leads_way (between rs n f x) (reading_in st rs o) us vs way h) in
      subst (λ (z : State). Move z m) here parts.2.0

  marked : (o : OpenRule) (vs : List Token) (st : State) (m : Word) (p : ℕ) → Leads (between rs n f x) vs (reading_in st rs o) → Move st m → (m ≡ colon) ⊎ (m ≡ at) → (r : Reading) × Met rs (awaiting o) r × Leads (between rs n f x) (vs ++ (token m p ∷ [])) r
  marked o vs st m p h v (inl e) = (
    reading_in AfterColon rs o,
    (AfterColon, inl refl, refl),
    leads_on _ vs (token m p ∷ []) (reading_in st rs o) _ h
        (subst (λ (w : Word). Leads (reading_in st rs o) (token w p ∷ []) (reading_in AfterColon rs o)) (sym e) (reading_in AfterColon rs o, colon_step rs o p (subst (Move st) e v), refl)),
  )
  marked o vs st m p h v (inr e) = (
    reading_in AfterAt rs o,
    (AfterAt, inr refl, refl),
    leads_on _ vs (token m p ∷ []) (reading_in st rs o) _ h
        (subst (λ (w : Word). Leads (reading_in st rs o) (token w p ∷ []) (reading_in AfterAt rs o)) (sym e) (reading_in AfterAt rs o, at_step rs o p (subst (Move st) e v), refl)),
  )

  follow_part : (part : Part) (vs : List Token) → PartTokens part vs → Kept (names_of rs ++ names_begun part) (alternatives_of rs ++ alternatives_begun part) → BeginRules (us ++ vs) → (r : Reading) × Met rs part r × Leads (between rs n f x) vs r
  follow_part nothing vs e k begun = (between rs n f x, (n, f, x, refl), subst (λ (l : List Token). Leads (between rs n f x) l (between rs n f x)) (sym e) refl)
  follow_part (its_name s p) vs e k begun =
      let few : length rs < 32 = omega (arith, k.few_names, length_push (names_of rs) s, length-map rs (λ (r : SourceRule). r.name)) in
      (reading_named x rs s p, (x, refl), subst (λ (l : List Token). Leads (between rs n f x) l (reading_named x rs s p)) (sym e) (reading_named x rs s p, name_step rs n f x s p (length s) (last_new (names_of rs) s k.new) few, refl))
  follow_part (opened o) vs h k begun = let a = follow_open rs n f x o vs h k in (reading_in a.0 rs o, (a.0, a.1, refl), a.2)
  follow_part (awaiting o) vs h k begun =
      let a = follow_open rs n f x o h.0 h.4 k in
      let v = mark_moves o h.0 a.0 h.1 h.2 a.2 (subst (λ (l : List Token). BeginRules (us ++ l)) h.3 begun) in
      let r = marked o h.0 a.0 h.1 h.2 a.2 v h.5 in
      (r.0, r.1, subst (λ (l : List Token). Leads (between rs n f x) l r.0) (sym h.3) r.2)

met : (ts : List Token) (h : Start ts) → (r : Reading) × Met h.rules h.part r × Leads fresh ts r
met ts h =
    let k = kept_front (names_of h.rules) (names_begun h.part) (alternatives_of h.rules) (alternatives_begun h.part) h.kept in
    let a = follow_rules [] h.rules h.whole fresh.name 0 fresh.current h.are_rules k in
    let b = follow_part h.rules a.0 a.1 a.2 h.whole (along_rules h.rules h.whole h.are_rules) h.part h.partial h.is_part h.kept (subst BeginRules h.tokens h.allowed) in
    (b.0, b.1, subst (λ (l : List Token). Leads fresh l b.0) (sym h.tokens) (leads_on fresh h.whole h.partial (between h.rules a.0 a.1 a.2) b.0 a.3 b.2))

-- A step that is refused

-- rules may go on with a word for which there is only no place, or a name that is taken
blocked : (rs : List SourceRule) (us vs : List Token) → RulesTokens rs us → (part : Part) (w : Word) (q : ℕ) → PartTokens part vs → NoPlace rs part w → BeginRules ((us ++ vs) ++ (token w q ∷ []))
blocked rs us vs are _ _ q h n = subst BeginRules (sym (append_assoc us vs (token _ q ∷ []))) (go n h)
  where
    go : {part : Part} {w : Word} → NoPlace rs part w → PartTokens part vs → BeginRules (us ++ (vs ++ (token w q ∷ [])))
    go (for_name s new full-up) e = begin rs us are _ (named s q (ap (λ l. l ++ (token (name s) q ∷ [])) e))
    go (for_first s p full-up) e = begin rs us are _ (among_items (begun_rule s p) (record { equals_at = q; front = []; back = []; tokens = ap (λ l. l ++ (token equals q ∷ [])) e; barred = refl; ending = refl }))
    go (for_next o full-up) k = begin rs us are _ (among_items _ (open_next o vs q k))
    go (for_use o s full-up) k = begin rs us are _ (among_items _ (open_item o vs (token (name s) q ∷ []) (a_name s q) k refl))
    go (for_literal o s full-up) k = begin rs us are _ (among_items _ (open_item o vs (token (literal s) q ∷ []) (a_literal s q 1 1) k ([], [], refl, absent refl refl, absent refl refl)))

-- the rules shown, along what leads the reader on
leads_shown : (r s : Reading) (us ts : List Token) → Shown r us → Leads r ts s → Shown s (us ++ ts)
leads_shown r s us [] h e = subst (λ (l : List Token). Shown s l) (sym (append-nil us)) (subst (λ (z : Reading). Shown z us) e h)
leads_shown r s us (t ∷ ts) h g = subst (λ (l : List Token). Shown s l) (append_assoc us (t ∷ []) ts)
    (leads_shown g.0 s (us ++ (t ∷ [])) ts (subst (Outcome r.state h.rules h.part us t.word t.place (width t)) g.1 (step r us h t.word t.place (width t))) g.2)

-- a word with which no rules begin is refused by 6
refused_word : (r : Reading) (ts : List Token) (h : Shown r ts) (w : Word) (q m : ℕ) → (BeginRules (ts ++ (token w q ∷ [])) → ⊥) → stepped r w q m ≡ refused 6 q m
refused_word r ts h w q m none = go (stepped r w q m) (step r ts h w q m)
  where
    stopped : (k i j : ℕ) → Stopped r.state h.rules h.part w q m k i j → ◌≡◌ {A = Answer Reading} (refused k i j) (refused 6 q m)
    stopped _ _ _ (unfit_word e) = refl
    stopped _ _ _ (taken s e is among) = absurd (none (subst (λ (l : List Token). BeginRules (l ++ (token w q ∷ []))) (sym h.tokens)
        (subst BeginRules (sym (append_assoc h.whole h.partial (token w q ∷ []))) (begin h.rules h.whole h.are_rules _ (named s q (ap (λ l. l ++ (token w q ∷ [])) (subst (λ (z : Part). PartTokens z h.partial) e (part_read h.partial h.stands)) ∙ ap (λ v. token v q ∷ []) is))))))
    stopped _ _ _ (full n) = absurd (none (subst (λ (l : List Token). BeginRules (l ++ (token w q ∷ []))) (sym h.tokens) (blocked h.rules h.whole h.partial h.are_rules h.part w q (part_read h.partial h.stands) n)))

    go : (a : Answer Reading) → Outcome r.state h.rules h.part ts w q m a → a ≡ refused 6 q m
    go (granted s) shown = absurd (none (subst BeginRules (sym shown.tokens) (begin shown.rules shown.whole shown.are_rules shown.partial shown.stands)))
    go (refused k i j) out = stopped k i j out

-- a name that is taken is refused by 7
refused_name : (rs : List SourceRule) (n : Label) (f : ℕ) (x : Alternative) (s : List ℕ) (q m : ℕ) → Among s (names_of rs) → stepped (between rs n f x) (name s) q m ≡ refused 7 q m
refused_name rs n f x s q m h = cond-true _ _ _ (lt-ltb (rule_index (rules_from 0 rs) s) (length (rules_from 0 rs)) (omega (arith, name_found rs 0 s, number_among (names_of rs) s h, rules_count 0 rs, length-map rs (λ (r : SourceRule). r.name))))

-- an alternative that is full, or a file that is
no_item : (a : Answer Reading) (q m : ℕ) (rs : List SourceRule) (o : OpenRule) → (length o.last ≡ 6) ⊎ (length (flat (alternatives_of rs ++ all_alternatives o)) ≡ 128) → cond (ltb (length o.last) 6 && ltb (length (open_lists rs o).labels) 128) a (refused 8 q m) ≡ refused 8 q m
no_item a q m rs o (inl e) = cond-false _ _ _ (and_left (ltb (length o.last) 6) (ltb (length (open_lists rs o).labels) 128) (le-ltb (length o.last) 6 (omega arith)))
no_item a q m rs o (inr e) = cond-false _ _ _ (and_right (ltb (length o.last) 6) (ltb (length (open_lists rs o).labels) 128) (le-ltb (length (open_lists rs o).labels) 128 (omega (arith, labels_count rs o, ap length (all_items rs o o.last), length-append (flat (done rs o)) o.last))))

-- what there is no place for is refused by 8
refused_place : {part : Part} {w : Word} (rs : List SourceRule) (r : Reading) (q m : ℕ) → Met rs part r → NoPlace rs part w → stepped r w q m ≡ refused 8 q m
refused_place rs r q m h (for_name s new full-up) = ap (λ z. stepped z (name s) q m) h.3
    ∙ cond-false _ _ _ (le-ltb (rule_index (rules_from 0 rs) s) (length (rules_from 0 rs)) (omega (arith, name_found rs 0 s, number_new (names_of rs) s new, rules_count 0 rs, length-map rs (λ (z : SourceRule). z.name))))
    ∙ cond-false _ _ _ (le-ltb (length (rules_from 0 rs)) 32 (omega (arith, rules_count 0 rs)))
refused_place rs r q m h (for_first s p full-up) = ap (λ z. stepped z equals q m) h.1 ∙ cond-false _ _ _ (le-ltb (length (drafted read_item rs).alternatives) 64 (omega (arith, length-alternatives_from read_item 0 (alternatives_of rs))))
refused_place rs r q m h (for_next o full-up) = ap (λ z. stepped z bar q m) h.2 ∙ ap (λ z. acted z [] (reading_in h.0 rs o) q m) (bar_nexts h.1) ∙ cond-false _ _ _ (le-ltb (length (open_lists rs o).alternatives) 63 (omega (arith, alternatives-count rs o)))
refused_place rs r q m h (for_use o s full-up) = ap (λ z. stepped z (name s) q m) h.2 ∙ ap (λ z. acted z s (reading_in h.0 rs o) q m) (use_adds s h.1) ∙ no_item _ q m rs o full-up
refused_place rs r q m h (for_literal o s full-up) = ap (λ z. stepped z (literal s) q m) h.2 ∙ ap (λ z. acted z s (reading_in h.0 rs o) q m) (literal_adds s h.1) ∙ no_item _ q m rs o full-up

-- the end does not fit behind a part of a rule
refused_end : (part : Part) (rs : List SourceRule) (r : Reading) (n : ℕ) → Met rs part r → (part ≡ nothing → ⊥) → closed r.state r.lists n ≡ refused 6 n 0
refused_end nothing rs r n h some = absurd (some refl)
refused_end (its_name s p) rs r n h some = ap (λ z. closed z.state z.lists n) h.1
refused_end (opened o) rs r n h some = ap (λ z. closed z.state z.lists n) h.2 ∙ open_end h.0 h.1
  where
    open_end : (st : State) → Ready st → closed st (open_lists rs o) n ≡ refused 6 n 0
    open_end st in_items = refl
    open_end st behind_literal = refl
    open_end st behind_size = refl
refused_end (awaiting o) rs r n h some = ap (λ z. closed z.state z.lists n) h.2 ∙ ⊎_elim (λ (e : h.0 ≡ AfterColon). ap (λ st. closed st (open_lists rs o) n) e) (λ (e : h.0 ≡ AfterAt). ap (λ st. closed st (open_lists rs o) n) e) h.1

-- Files

reads_along : (f : List ℕ) (a : Answer Lists) (p q : ℕ) (ts : List Token) (r s : Reading) → p ≤ length f → Tokens f p ts q → Leads r ts s → Reads f q s a → Reads f p r a
reads_along f a p q [] r s low e g h = subst (λ (z : Reading). Reads f p z a) (sym g) (subst (λ (k : ℕ). Reads f k s a) (sym e) h)
reads_along f a p q (t ∷ ts) r s low row g h =
    let i = token_inside f p t low row.0 in
    goes t.word t.place (width t) (means_found f p t row.0) i.0 i.1 g.1 (reads_along f a (t.place + width t) q ts g.0 s i.1 row.1 g.2 h)

module _ (f : List ℕ) where
  -- the file is read up to the place q, and then on
  from : (q : ℕ) (c : ReadTo f q) (a : Answer Lists) → ((r : Reading) → Met c.start.rules c.start.part r → Shown r c.tokens → Reads f q r a) → Reads f 0 fresh a
  from q c a rest =
      let m = met c.tokens c.start in
      reads_along f a 0 q c.tokens fresh m.0 (omega arith) c.in_a_row m.2 (rest m.0 m.1 (leads_shown fresh m.0 [] c.tokens shown_fresh m.2))

  -- whole rules are read
  whole : (rs : List SourceRule) (c : RuleFile f rs) (a : Answer Lists) → closed Outside (drafted read_item rs) (length f) ≡ a → Reads f 0 fresh a
  whole rs c a e =
      let m = follow_rules [] rs c.tokens fresh.name 0 fresh.current c.are_rules c.kept in
      reads_along f a 0 c.end c.tokens fresh (between rs m.0 m.1 m.2) (omega arith) c.in_a_row m.3 (ends (means_end f c.end c.blank_end) e)

  some_rule : (rs : List SourceRule) (c : RuleFile f rs) → ltb 0 (length (rules_from 0 rs)) ≡ true
  some_rule rs c = lt-ltb 0 (length (rules_from 0 rs)) (omega (arith, rules_count 0 rs, c.some))

  short_file : (a : Answer Lists) → length f ≤ 16384 → Reads f 0 fresh a → ReadsFile f a
  short_file a h r = subst (λ b. MatchBool b (Reads f 0 fresh a) (a ≡ refused 1 0 0)) (sym (le-leb (length f) 16384 h)) r

  refused_read : {k p n : ℕ} → Refused f k p n → ReadsFile f (refused k p n)
  refused_read (too_long h) = subst (λ b. MatchBool b (Reads f 0 fresh (refused 1 0 0)) (◌≡◌ {A = Answer Lists} (refused 1 0 0) (refused 1 0 0))) (sym (lt-leb (length f) 16384 h)) refl
  refused_read (no_token {q} {k} {p} {n} c h) = short_file _ c.short (from q c _ (λ r m shown. fails (means_wrong f q k p n h)))
  refused_read (not_allowed {q} c t h none) = short_file _ c.short (from q c _ (λ r m shown. stops t.word t.place (width t) (means_found f q t h) (refused_word r c.tokens shown t.word t.place (width t) none)))
  refused_read (within_rule {q} c blanks some) = short_file _ c.short (from q c _ (λ r m shown. ends (means_end f q blanks) (refused_end c.start.part c.start.rules r (length f) m some)))
  refused_read (name_taken {q} c s p h none among) = short_file _ c.short (from q c _ (λ r m shown.
      let b : Met c.start.rules nothing r = subst (λ (z : Part). Met c.start.rules z r) none m in
      stops (name s) p (length s) (means_found f q (token (name s) p) h) (ap (λ z. stepped z (name s) p (length s)) b.3 ∙ refused_name c.start.rules b.0 b.1 b.2 s p (length s) among)))
  refused_read (no_place {q} c t h full-up) = short_file _ c.short (from q c _ (λ r m shown. stops t.word t.place (width t) (means_found f q t h) (refused_place c.start.rules r t.place (width t) m full-up)))
  refused_read (no_rule short blanks) = short_file _ short (ends (means_end f 0 blanks) refl)
  refused_read (undefined_name {s} {p} rs c u) = short_file _ c.short (whole rs c _ (cond-true _ _ _ (some_rule rs c) ∙ refuses rs s p u))

  pub means_read : (a : Answer Lists) → Means f a → ReadsFile f a
  means_read (granted l) h = short_file _ h.file.short (whole h.rules h.file _ (cond-true _ _ _ (some_rule h.rules h.file) ∙ resolves h.rules h.defined ∙ ap granted (sym h.draft)))
  means_read (refused k p n) h = refused_read h

-- the answer to reading a file is the only one that fits its meaning
pub only_meaning : (f : List ℕ) (a b : Answer Lists) → ReadsFile f a → Means f b → b ≡ a
only_meaning f a b r h = file_read f b (means_read f b h) ∙ sym (file_read f a r)
