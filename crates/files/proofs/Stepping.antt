-- One step of the rule reader: the rules shown have grown by the token, or the step says why not. Assumes nothing.
use Rattle.std.proofs.Common.{◌≡◌, ℕ, ◌+◌, ◌≤◌, false, ◌&&◌, ltb, ◌⊎◌, List, [], ◌∷◌, ◌++◌, length, sym, refl, ap, ◌∙◌, subst, inl, inr, ⊎_elim, arith}
use Rattle.std.proofs.lemmas.Bool.{cond_both, and_parts, and_cases, ltb-true, ltb-false}
use Rattle.std.proofs.lemmas.List.{append_assoc, append-nil, length-append, length-map, length_push}
use Rattle.theory.specs.Lists.{Among}
use Rattle.theory.proofs.Lists.{among_right}
use Rattle.files.specs.Faults.{Answer, granted, refused}
use Rattle.files.specs.Scans.{Word, name, literal, digits, equals, bar, semicolon, colon, at}
use Rattle.files.specs.Items.{label_of, no_items, with_item, decimal}
use Rattle.files.specs.Grammars.{Lists, rule_index}
use Rattle.files.specs.Steps.{Reading, Action, unfit, action, said, acted, stepped, onward, item_added, with_alternative, with_label, next_alternative, end_rule, add_name, add_literal, set_size, set_cost, expect_size, expect_cost}
use Rattle.files.specs.Tokens.{Token, token}
use Rattle.files.specs.Sources.{SourceItem, a_name, a_literal, SourceRule, names_of, flat, alternatives_of, absent, OpenRule, all_alternatives, OpenTokens, closed_rule, RuleTokens, RulesTokens, Kept, item_label, alternative_from, rules_from, drafted, read_item}
use Rattle.files.specs.Meanings.{Part, nothing, its_name, opened, awaiting, names_begun, alternatives_begun, NoPlace, for_name, for_first, for_next, for_use, for_literal}
use Rattle.files.specs.declared.item.Label.{Label}
use Rattle.files.specs.declared.item.Alternative.{Alternative}
use Rattle.files.specs.declared.state.State.{State}
use Rattle.files.specs.declared.state.State.TheVariants.{Outside, Named, Items, AfterLiteral, AfterColon, AfterSize, AfterAt}
use Rattle.files.proofs.Growth.{alternatives_push, names_push, length-alternatives_from}
use Rattle.files.proofs.Grown.{with_last, with_next, begun_rule, number, open_lists, reading_in, reading_named, first_grown, done, regroup, all_items, labels_count, alternatives-count, item_grown, next_grown, end_grown, size_grown, cost_grown}
use Rattle.files.proofs.Moves.{Ready, in_items, behind_literal, behind_size, Unpriced, bare, sized as size-said, Move, names_rule, begins_first, uses, spells, begins_next, ends_rule, marks_size, marks_cost, says_size, says_cost, view, use_adds, literal_adds, bar_nexts, semicolon_ends, at_expects}
use Rattle.files.proofs.Numbering.{name_found, number_among, among_number, rules_count}
use Rattle.files.proofs.Shows.{in_turn_push, open_item, open_next, Costless, with_literal, size_read, cost_read, costless_open, Stands, outside, named, among_items, after_literal, after_colon, after_size, after_at, HeldOpen, held_by, Held, Shown, kept_last, kept_next, kept_name}

-- why a step is refused: the refusal's number, place and length
pub data Stopped (st : State) (rs : List SourceRule) (part : Part) (w : Word) (q m : ℕ) : ℕ → ℕ → ℕ → Type 0 where
  unfit_word : action st w ≡ unfit → Stopped st rs part w q m 6 q m
  taken : (s : List ℕ) → part ≡ nothing → w ≡ name s → Among s (names_of rs) → Stopped st rs part w q m 7 q m
  full : NoPlace rs part w → Stopped st rs part w q m 8 q m

abbrev pub Outcome : State → List SourceRule → Part → List Token → Word → ℕ → ℕ → Answer Reading → Type 0
Outcome st rs part ts w q m (granted s) = Shown s (ts ++ (token w q ∷ []))
Outcome st rs part ts w q m (refused k i j) = Stopped st rs part w q m k i j

-- Between rules

module _ (n : Label) (f : ℕ) (x : Alternative) (rs : List SourceRule) (us : List Token) (are : RulesTokens rs us) (kept : Kept (names_of rs ++ []) (alternatives_of rs ++ [])) (s : List ℕ) (q m : ℕ) where
  step_rule : Outcome Outside rs nothing us (name s) q m (stepped (record { state = Outside; name = n; first = f; current = x; lists = drafted read_item rs }) (name s) q m)
  step_rule = cond_both _ _ _ (Outcome Outside rs nothing us (name s) q m)
      (λ e. taken s refl refl (among_number (names_of rs) s (omega (arith, ltb-true (rule_index (rules_from 0 rs) s) (length (rules_from 0 rs)) e, name_found rs 0 s, rules_count 0 rs, counted))))
      (λ e.
      let new : Among s (names_of rs) → ⊥ = λ h. let low = number_among (names_of rs) s h in absurd (omega (arith, ltb-false (rule_index (rules_from 0 rs) s) (length (rules_from 0 rs)) e, name_found rs 0 s, rules_count 0 rs, counted)) in
      cond_both _ _ _ (Outcome Outside rs nothing us (name s) q m)
      (λ g. record {
        rules = rs;
        part = its_name s q;
        whole = us;
        partial = token (name s) q ∷ [];
        tokens = refl;
        are_rules = are;
        kept = subst (λ (ns : List (List ℕ)). Kept (ns ++ (s ∷ [])) (alternatives_of rs ++ [])) (append-nil (names_of rs))
            (kept_name (names_of rs ++ []) (alternatives_of rs ++ []) s kept (λ h. new (subst (Among s) (append-nil (names_of rs)) h)) (omega (arith, ltb-true (length (rules_from 0 rs)) 32 g, rules_count 0 rs, counted, ap length (append-nil (names_of rs)))));
        held = (refl, refl, length-alternatives_from read_item 0 (alternatives_of rs));
        stands = named s q refl;
      })
      (λ g. full (for_name s new (omega (arith, ltb-false (length (rules_from 0 rs)) 32 g, rules_count 0 rs, counted, ap length (append-nil (names_of rs)), kept.few_names)))))
    where
      counted : length (names_of rs) ≡ length rs
      counted = length-map rs (λ (r : SourceRule). r.name)

-- Behind a rule's name

module _ (x : Alternative) (rs : List SourceRule) (us : List Token) (are : RulesTokens rs us) (s : List ℕ) (p : ℕ) (kept : Kept (names_of rs ++ (s ∷ [])) (alternatives_of rs ++ [])) (q m : ℕ) where
  none : alternatives_of rs ++ [] ≡ alternatives_of rs
  none = append-nil (alternatives_of rs)

  many : length (drafted read_item rs).alternatives ≡ length (alternatives_of rs)
  many = length-alternatives_from read_item 0 (alternatives_of rs)

  step_first : Outcome Named rs (its_name s p) (us ++ (token (name s) p ∷ [])) equals q m (stepped (reading_named x rs s p) equals q m)
  step_first = cond_both (ltb (length (drafted read_item rs).alternatives) 64) (onward (reading_named x rs s p) Items (no_items (length (drafted read_item rs).labels)) (drafted read_item rs)) (refused 8 q m) (Outcome Named rs (its_name s p) (us ++ (token (name s) p ∷ [])) equals q m)
      (λ e. record {
        rules = rs;
        part = opened (begun_rule s p);
        whole = us;
        partial = token (name s) p ∷ token equals q ∷ [];
        tokens = append_assoc us (token (name s) p ∷ []) (token equals q ∷ []);
        are_rules = are;
        kept = subst (λ (alts : List (List SourceItem)). Kept (names_of rs ++ (s ∷ [])) (alts ++ ([] ∷ []))) none
            (kept_next (names_of rs ++ (s ∷ [])) (alternatives_of rs ++ []) kept (omega (arith, ltb-true (length (drafted read_item rs).alternatives) 64 e, many, ap length none)));
        held = held_by Items _ _ _ _ rs (begun_rule s p) (first_grown rs s p);
        stands = among_items (begun_rule s p) (record { equals_at = q; front = []; back = []; tokens = refl; barred = refl; ending = refl });
      })
      (λ e. full (for_first s p (omega (arith, ltb-false (length (drafted read_item rs).alternatives) 64 e, many, ap length none, kept.few_alternatives))))

-- Inside a rule

module _ (rs : List SourceRule) (us vs : List Token) (are : RulesTokens rs us) (o : OpenRule) (kept : Kept (names_of rs ++ (o.name ∷ [])) (alternatives_of rs ++ all_alternatives o)) (q m : ℕ) where
  abbrev ns : List (List ℕ)
  ns = names_of rs ++ (o.name ∷ [])

  kept_done : Kept ns (done rs o ++ (o.last ∷ []))
  kept_done = subst (Kept ns) (sym (regroup rs o o.last)) kept

  last_few : length o.last ≤ 6
  last_few = kept_done.six o.last (among_right o.last (done rs o) (o.last ∷ []) (inl refl))

  items_few : length (flat (done rs o)) + length o.last ≤ 128
  items_few = omega (arith, kept.few_items, ap length (all_items rs o o.last), length-append (flat (done rs o)) o.last)

  -- the last alternative changed
  kept_with : (is : List SourceItem) → length is ≤ 6 → length (flat (done rs o)) + length is ≤ 128 → Kept ns (alternatives_of rs ++ (o.before ++ (is ∷ [])))
  kept_with is a b = subst (Kept ns) (regroup rs o is) (kept_last ns (done rs o) o.last is kept_done a (omega (arith, length-append (flat (done rs o)) is)))

  abbrev more : Word → List Token
  more w = vs ++ (token w q ∷ [])

  -- the same rule goes on, with another last alternative
  goes_on : (next : State) (w : Word) (is : List SourceItem) (part : Part) (r : Reading) → r ≡ reading_in next rs (with_last o is) → length is ≤ 6 → length (flat (done rs o)) + length is ≤ 128 → (part ≡ opened (with_last o is)) ⊎ (part ≡ awaiting (with_last o is)) →
      Stands (more w) next part → Shown r ((us ++ vs) ++ (token w q ∷ []))
  goes_on next w is part r e a b which stands = subst (λ (s : Reading). Shown s ((us ++ vs) ++ (token w q ∷ []))) (sym e) (record {
    rules = rs;
    part = part;
    whole = us;
    partial = more w;
    tokens = append_assoc us vs (token w q ∷ []);
    are_rules = are;
    kept = either (λ z. Kept (names_of rs ++ names_begun z) (alternatives_of rs ++ alternatives_begun z)) (kept_with is a b) (kept_with is a b);
    held = either (λ z. Held (label_of o.name o.place) (length (alternatives_of rs)) (alternative_from read_item (number rs o) is) (open_lists rs (with_last o is)) rs z) exact exact;
    stands = stands;
  })
    where
      exact : HeldOpen (label_of o.name o.place) (length (alternatives_of rs)) (alternative_from read_item (number rs o) is) (open_lists rs (with_last o is)) rs (with_last o is)
      exact = record { name = refl; first = refl; current = refl; lists = refl }

      either : (P : Part → Type 0) → P (opened (with_last o is)) → P (awaiting (with_last o is)) → P part
      either P x y = ⊎_elim (λ (g : part ≡ opened (with_last o is)). subst P (sym g) x) (λ (g : part ≡ awaiting (with_last o is)). subst P (sym g) y) which

  -- an item more
  step_item : (st next : State) (w : Word) (i : SourceItem) → ((length o.last ≡ 6) ⊎ (length (flat (alternatives_of rs ++ all_alternatives o)) ≡ 128) → NoPlace rs (opened o) w) →
      Stands (more w) next (opened (with_last o (o.last ++ (i ∷ [])))) →
      Outcome st rs (opened o) (us ++ vs) w q m (item_added (reading_in st rs o) next (item_label i) (read_item (length (open_lists rs o).labels) i) q m)
  step_item st next w i none stands = cond_both (ltb (length o.last) 6 && ltb (length (open_lists rs o).labels) 128) (onward (reading_in st rs o) next (with_item (reading_in st rs o).current (read_item (length (open_lists rs o).labels) i)) (with_label (open_lists rs o) (item_label i))) (refused 8 q m) (Outcome st rs (opened o) (us ++ vs) w q m)
      (λ e.
      let t = and_parts (ltb (length o.last) 6) (ltb (length (open_lists rs o).labels) 128) e in
      let six = ltb-true (length o.last) 6 t.0 in
      let low = ltb-true (length (open_lists rs o).labels) 128 t.1 in
      let long = length_push o.last i in
      goes_on next w (o.last ++ (i ∷ [])) _ _ (item_grown rs o next i six) (omega arith) (omega (arith, labels_count rs o)) (inl refl) stands)
      (λ e. full (none (⊎_elim
      (λ (g : ltb (length o.last) 6 ≡ false). let z = ltb-false (length o.last) 6 g in inl (omega (arith, last_few)))
      (λ (g : ltb (length (open_lists rs o).labels) 128 ≡ false).
      let z = ltb-false (length (open_lists rs o).labels) 128 g in
      inr (omega (arith, labels_count rs o, items_few, ap length (all_items rs o o.last), length-append (flat (done rs o)) o.last)))
      (and_cases (ltb (length o.last) 6) (ltb (length (open_lists rs o).labels) 128) e))))

  -- an alternative more
  step_next : (st : State) → OpenTokens o vs → Outcome st rs (opened o) (us ++ vs) bar q m (acted next_alternative [] (reading_in st rs o) q m)
  step_next st h = cond_both (ltb (length (open_lists rs o).alternatives) 63) (onward (reading_in st rs o) Items (no_items (length (open_lists rs o).labels)) (with_alternative (open_lists rs o) (reading_in st rs o).current)) (refused 8 q m) (Outcome st rs (opened o) (us ++ vs) bar q m)
      (λ e. record {
        rules = rs;
        part = opened (with_next o);
        whole = us;
        partial = more bar;
        tokens = append_assoc us vs (token bar q ∷ []);
        are_rules = are;
        kept = subst (Kept ns) (append_assoc (alternatives_of rs) (all_alternatives o) ([] ∷ []))
            (kept_next ns (alternatives_of rs ++ all_alternatives o) kept (omega (arith, ltb-true (length (open_lists rs o).alternatives) 63 e, alternatives-count rs o)));
        held = held_by Items _ _ _ _ rs (with_next o) (next_grown rs o);
        stands = among_items (with_next o) (open_next o vs q h);
      })
      (λ e. full (for_next o (omega (arith, ltb-false (length (open_lists rs o).alternatives) 63 e, alternatives-count rs o, kept.few_alternatives))))

  -- the rule's end
  step_end : (st : State) → OpenTokens o vs → Outcome st rs (opened o) (us ++ vs) semicolon q m (acted end_rule [] (reading_in st rs o) q m)
  step_end st h = record {
    rules = rs ++ (closed_rule o ∷ []);
    part = nothing;
    whole = us ++ more semicolon;
    partial = [];
    tokens = append_assoc us vs (token semicolon q ∷ []) ∙ sym (append-nil (us ++ more semicolon));
    are_rules = in_turn_push RuleTokens rs us (closed_rule o) (more semicolon) are (o, vs, q, refl, refl, h);
    kept =
        subst (λ (ms : List (List ℕ)). Kept ms (alternatives_of (rs ++ (closed_rule o ∷ [])) ++ [])) (sym (names_push rs (closed_rule o)) ∙ sym (append-nil (names_of (rs ++ (closed_rule o ∷ [])))))
        (subst (Kept ns) (sym (alternatives_push rs (closed_rule o)) ∙ sym (append-nil (alternatives_of (rs ++ (closed_rule o ∷ []))))) kept);
    held = end_grown rs o;
    stands = outside refl;
  }

  -- a mark behind a literal
  step_mark : (next : State) (w : Word) → Stands (more w) next (awaiting o) → Shown (reading_in next rs o) ((us ++ vs) ++ (token w q ∷ []))
  step_mark next w stands = goes_on next w o.last (awaiting o) (reading_in next rs o) refl last_few items_few (inr refl) stands

  -- the literal's size, or its cost
  module _ (ws : List Token) (h : Costless o ws) where
    long : (n c : ℕ) → length (with_literal o ws h n c).last ≡ length o.last
    long n c = length_push h.items (a_literal h.text h.place n c) ∙ sym (length_push h.items (a_literal h.text h.place h.size 1)) ∙ sym (ap length h.last)

    step_size : (s : List ℕ) (p : ℕ) → vs ≡ ws ++ (token colon p ∷ []) → h.sizing ≡ [] → Outcome AfterColon rs (awaiting o) (us ++ vs) (digits s) q m (acted set_size s (reading_in AfterColon rs o) q m)
    step_size s p e none = goes_on AfterSize (digits s) (with_literal o ws h (decimal s) 1).last _ _
        (size_grown rs o h.items h.text h.place h.size 1 h.last last_few AfterSize (decimal s))
        (omega (arith, long (decimal s) 1, last_few)) (omega (arith, long (decimal s) 1, items_few)) (inl refl)
        (after_size (with_literal o ws h (decimal s) 1) (size_read o vs ws p e h none s q))

    step_cost : (s : List ℕ) (p : ℕ) → vs ≡ ws ++ (token at p ∷ []) → Outcome AfterAt rs (awaiting o) (us ++ vs) (digits s) q m (acted set_cost s (reading_in AfterAt rs o) q m)
    step_cost s p e = goes_on Items (digits s) (with_literal o ws h h.size (decimal s)).last _ _
        (cost_grown rs o h.items h.text h.place h.size 1 h.last last_few Items (decimal s))
        (omega (arith, long h.size (decimal s), last_few)) (omega (arith, long h.size (decimal s), items_few)) (inl refl)
        (among_items (with_literal o ws h h.size (decimal s)) (cost_read o vs ws p e h s q))

-- Any step

module _ (n : Label) (f : ℕ) (x : Alternative) (l : Lists) (rs : List SourceRule) (us vs : List Token) (are : RulesTokens rs us) (q m : ℕ) where
  abbrev at_state : State → Reading
  at_state st = record { state = st; name = n; first = f; current = x; lists = l }

  abbrev Goal : State → Word → Part → Type 0
  Goal st w part = Kept (names_of rs ++ names_begun part) (alternatives_of rs ++ alternatives_begun part) → Held n f x l rs part → Outcome st rs part (us ++ vs) w q m (stepped (at_state st) w q m)

  -- what is held is what the rules show
  held_as : (st : State) (o : OpenRule) → HeldOpen n f x l rs o → reading_in st rs o ≡ at_state st
  held_as st o h = λ k. record { state = st; name = sym h.name k; first = sym h.first k; current = sym h.current k; lists = sym h.lists k }

  -- an action inside a rule
  acts : (st : State) (w : Word) (part : Part) (o : OpenRule) (a : Action) → action st w ≡ a → HeldOpen n f x l rs o → Outcome st rs part (us ++ vs) w q m (acted a (said w) (reading_in st rs o) q m) → Outcome st rs part (us ++ vs) w q m (stepped (at_state st) w q m)
  acts st w part o a e h out =
      subst (λ b. Outcome st rs part (us ++ vs) w q m (acted b (said w) (at_state st) q m)) (sym e)
      (subst (λ r. Outcome st rs part (us ++ vs) w q m (acted a (said w) r q m)) (held_as st o h) out)

  ready : {st : State} {part : Part} (P : Part → Type 0) → Ready st → Stands vs st part → ((o : OpenRule) → OpenTokens o vs → P (opened o)) → P part
  ready P in_items (among_items o h) k = k o h
  ready P behind_literal (after_literal o h e) k = k o (costless_open o vs h)
  ready P behind_size (after_size o h) k = k o (costless_open o vs h)

  unpriced : {st : State} {part : Part} (P : Part → Type 0) → Unpriced st → Stands vs st part → ((o : OpenRule) → Costless o vs → P (opened o)) → P part
  unpriced P bare (after_literal o h e) k = k o h
  unpriced P size-said (after_size o h) k = k o h

  rule : {part : Part} (s : List ℕ) → Stands vs Outside part → Goal Outside (name s) part
  rule s (outside e) kept held =
      subst (λ (ws : List Token). Outcome Outside rs nothing (us ++ ws) (name s) q m (stepped (at_state Outside) (name s) q m)) (sym e)
      (subst (λ (ts : List Token). Outcome Outside rs nothing ts (name s) q m (stepped (at_state Outside) (name s) q m)) (sym (append-nil us))
      (subst (λ (k : Lists). Outcome Outside rs nothing us (name s) q m (stepped (record { state = Outside; name = n; first = f; current = x; lists = k }) (name s) q m)) (sym held)
      (step_rule n f x rs us are kept s q m)))

  first : {part : Part} → Stands vs Named part → Goal Named equals part
  first (named s p e) kept held =
      subst (λ (ws : List Token). Outcome Named rs (its_name s p) (us ++ ws) equals q m (stepped (at_state Named) equals q m)) (sym e)
      (subst (λ (r : Reading). Outcome Named rs (its_name s p) (us ++ (token (name s) p ∷ [])) equals q m (stepped r equals q m)) (λ k. record { state = Named; name = sym held.1 k; first = sym held.2 k; current = x; lists = sym held.0 k })
      (step_first x rs us are s p kept q m))

  literal_read : (st : State) (s : List ℕ) (o : OpenRule) → OpenTokens o vs → Kept (names_of rs ++ (o.name ∷ [])) (alternatives_of rs ++ all_alternatives o) → Outcome st rs (opened o) (us ++ vs) (literal s) q m (acted add_literal s (reading_in st rs o) q m)
  literal_read st s o h kept = step_item rs us vs are o kept q m st AfterLiteral (literal s) (a_literal s q 1 1) (for_literal o s)
      (after_literal _ (record { items = o.last; text = s; place = q; size = 1; last = refl; shorter = vs; sizing = []; tokens = refl; opening = h; sized = absent refl refl }) refl)

  size_mark : {part : Part} → Stands vs AfterLiteral part → Goal AfterLiteral colon part
  size_mark (after_literal o h e) kept held = acts AfterLiteral colon (opened o) o expect_size refl held (step_mark rs us vs are o kept q m AfterColon colon (after_colon o vs q refl h e))

  size : {part : Part} (s : List ℕ) → Stands vs AfterColon part → Goal AfterColon (digits s) part
  size s (after_colon o ws p e h none) kept held = acts AfterColon (digits s) (awaiting o) o set_size refl held (step_size rs us vs are o kept q m ws h s p e none)

  cost : {part : Part} (s : List ℕ) → Stands vs AfterAt part → Goal AfterAt (digits s) part
  cost s (after_at o ws p e h) kept held = acts AfterAt (digits s) (awaiting o) o set_cost refl held (step_cost rs us vs are o kept q m ws h s p e)

  moved : {st : State} {w : Word} {part : Part} → Move st w → Stands vs st part → Goal st w part
  moved (names_rule s) h = rule s h
  moved begins_first h = first h
  moved {st} (uses s r) h = ready (Goal st (name s)) r h (λ o open-now kept held.
      acts st (name s) (opened o) o add_name (use_adds s r) held
      (step_item rs us vs are o kept q m st Items (name s) (a_name s q) (for_use o s) (among_items _ (open_item o vs (token (name s) q ∷ []) (a_name s q) open-now refl))))
  moved {st} (spells s r) h = ready (Goal st (literal s)) r h (λ o open-now kept held. acts st (literal s) (opened o) o add_literal (literal_adds s r) held (literal_read st s o open-now kept))
  moved {st} (begins_next r) h = ready (Goal st bar) r h (λ o open-now kept held. acts st bar (opened o) o next_alternative (bar_nexts r) held (step_next rs us vs are o kept q m st open-now))
  moved {st} (ends_rule r) h = ready (Goal st semicolon) r h (λ o open-now kept held. acts st semicolon (opened o) o end_rule (semicolon_ends r) held (step_end rs us vs are o kept q m st open-now))
  moved marks_size h = size_mark h
  moved {st} (marks_cost r) h = unpriced (Goal st at) r h (λ o costless kept held. acts st at (opened o) o expect_cost (at_expects r) held (step_mark rs us vs are o kept q m AfterAt at (after_at o vs q refl costless)))
  moved (says_size s) h = size s h
  moved (says_cost s) h = cost s h

pub step : (r : Reading) (ts : List Token) (h : Shown r ts) (w : Word) (q m : ℕ) → Outcome r.state h.rules h.part ts w q m (stepped r w q m)
step r ts h w q m = ⊎_elim
    (λ (v : Move r.state w).
    subst (λ (us : List Token). Outcome r.state h.rules h.part us w q m (stepped r w q m)) (sym h.tokens)
    (moved r.name r.first r.current r.lists h.rules h.whole h.partial h.are_rules q m v h.stands h.kept h.held))
    (λ (e : action r.state w ≡ unfit). subst (λ (a : Action). Outcome r.state h.rules h.part ts w q m (acted a (said w) r q m)) (sym e) (unfit_word e))
    (view r.state w)
