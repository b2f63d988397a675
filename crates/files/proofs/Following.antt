-- Reading the tokens of rules holds these rules. Assumes nothing.
use Rattle.std.proofs.Common.{◌≡◌, ℕ, ◌+◌, ◌<◌, ◌≤◌, ltb, List, [], ◌∷◌, ◌++◌, length, sym, refl, ap, ◌∙◌, subst, inl, inr, arith}
use Rattle.std.proofs.lemmas.Bool.{cond-true, cond-false, and_from, lt-ltb, le-ltb}
use Rattle.std.proofs.lemmas.List.{append_assoc, append-nil, length-append, length-map, length_push}
use Rattle.theory.specs.Lists.{Among, Distinct}
use Rattle.theory.proofs.Lists.{among_left, among_right}
use Rattle.files.specs.Faults.{granted}
use Rattle.files.specs.Scans.{name, literal, bar, colon, at}
use Rattle.files.specs.Items.{label_of, decimal}
use Rattle.files.specs.Grammars.{rule_index}
use Rattle.files.specs.Steps.{Reading, acted, stepped, item_added}
use Rattle.files.specs.Tokens.{Token, token, width}
use Rattle.files.specs.Sources.{SourceItem, a_name, a_literal, SourceRule, names_of, flat, alternatives_of, InTurn, Optional, absent, given, ItemTokens, AlternativeTokens, BarredTokens, OpenRule, all_alternatives, OpenTokens, Kept, item_label, rules_from, drafted, read_item}
use Rattle.files.specs.declared.item.Label.{Label}
use Rattle.files.specs.declared.item.Alternative.{Alternative}
use Rattle.files.specs.declared.state.State.{State}
use Rattle.files.specs.declared.state.State.TheVariants.{Outside, Named, Items, AfterLiteral, AfterColon, AfterSize, AfterAt}
use Rattle.files.proofs.Growth.{flat_append, length-alternatives_from}
use Rattle.files.proofs.Grown.{with_last, begun_rule, open_lists, reading_in, reading_named, first_grown, done, all_items, labels_count, alternatives-count, item_grown, next_grown, size_grown, cost_grown}
use Rattle.files.proofs.Moves.{Ready, in_items, behind_literal, behind_size, Unpriced, bare, sized, use_adds, literal_adds, bar_nexts, at_expects}
use Rattle.files.proofs.Numbering.{name_found, number_new, rules_count}

-- the tokens lead the reader from r to s
abbrev pub Leads : Reading → List Token → Reading → Type 0
Leads r [] s = r ≡ s
Leads r (t ∷ ts) s = (x : Reading) × (stepped r t.word t.place (width t) ≡ granted x) × Leads x ts s

pub leads_on : (r : Reading) (ts us : List Token) (s u : Reading) → Leads r ts s → Leads s us u → Leads r (ts ++ us) u
leads_on r [] us s u e h = subst (λ (x : Reading). Leads x us u) (sym e) h
leads_on r (t ∷ ts) us s u g h = (g.0, g.1, leads_on g.0 ts us s u g.2 h)

-- Names and limits of a beginning

pub kept_front : (ns ms : List (List ℕ)) (as' bs : List (List SourceItem)) → Kept (ns ++ ms) (as' ++ bs) → Kept ns as'
kept_front ns ms as' bs k = record {
  new = distinct ns k.new;
  few_names = omega (arith, k.few_names, length-append ns ms);
  few_alternatives = omega (arith, k.few_alternatives, length-append as' bs);
  few_items = omega (arith, k.few_items, ap length (flat_append as' bs), length-append (flat as') (flat bs));
  six = λ is h. k.six is (among_left is as' bs h);
}
  where
    distinct : (xs : List (List ℕ)) → Distinct (xs ++ ms) → Distinct xs
    distinct [] d = tt
    distinct (x ∷ xs) d = (λ h. d.0 (among_left x xs ms h), distinct xs d.1)

-- the last of names that differ is new
pub last_new : (ns : List (List ℕ)) (s : List ℕ) → Distinct (ns ++ (s ∷ [])) → Among s ns → ⊥
last_new (x ∷ ns) s d (inl e) = d.0 (subst (λ (z : List ℕ). Among z (ns ++ (s ∷ []))) e (among_right s ns (s ∷ []) (inl refl)))
last_new (x ∷ ns) s d (inr h) = last_new ns s d.1 h
last_new [] s d h = h

-- Inside a rule

module _ (rs : List SourceRule) where
  item_step : (st next : State) (o : OpenRule) (i : SourceItem) (q m : ℕ) → length o.last < 6 → length (flat (done rs o)) + length o.last < 128 →
      item_added (reading_in st rs o) next (item_label i) (read_item (length (open_lists rs o).labels) i) q m ≡ granted (reading_in next rs (with_last o (o.last ++ (i ∷ []))))
  item_step st next o i q m a b =
      cond-true _ _ _ (and_from (ltb (length o.last) 6) (ltb (length (open_lists rs o).labels) 128) (lt-ltb (length o.last) 6 a) (lt-ltb (length (open_lists rs o).labels) 128 (omega (arith, labels_count rs o))))
      ∙ ap granted (item_grown rs o next i a)

  abbrev Followed : OpenRule → State → List Token → List SourceItem → Type 0
  Followed o st ts is = (end : State) × Ready end × Leads (reading_in st rs o) ts (reading_in end rs (with_last o is))

  module _ (o : OpenRule) (s : List ℕ) (p : ℕ) (six : length o.last < 6) (low : length (flat (done rs o)) + length o.last < 128) where
    abbrev lit : ℕ → ℕ → OpenRule
    lit n c = with_last o (o.last ++ (a_literal s p n c ∷ []))

    long : (n c : ℕ) → length (lit n c).last ≤ 6
    long n c = omega (arith, length_push o.last (a_literal s p n c))

    follow_size : (n : ℕ) (us : List Token) → Optional colon us n → (mid : State) × Unpriced mid × Leads (reading_in AfterLiteral rs (lit 1 1)) us (reading_in mid rs (lit n 1))
    follow_size n us (absent e one) = (AfterLiteral, bare, subst (λ (l : List Token). Leads (reading_in AfterLiteral rs (lit 1 1)) l (reading_in AfterLiteral rs (lit n 1))) (sym e) (ap (λ k. reading_in AfterLiteral rs (lit k 1)) (sym one)))
    follow_size n us (given d a b e is) = (
      AfterSize,
      sized,
      subst (λ (l : List Token). Leads (reading_in AfterLiteral rs (lit 1 1)) l (reading_in AfterSize rs (lit n 1))) (sym e)
          (reading_in AfterColon rs (lit 1 1), refl, (reading_in AfterSize rs (lit (decimal d) 1), ap granted (size_grown rs (lit 1 1) o.last s p 1 1 refl (long 1 1) AfterSize (decimal d)), ap (λ k. reading_in AfterSize rs (lit k 1)) (sym is))),
    )

    open_state : (mid : State) → Unpriced mid → Ready mid
    open_state mid bare = behind_literal
    open_state mid sized = behind_size

    follow_cost : (n c : ℕ) (mid : State) → Unpriced mid → (vs : List Token) → Optional at vs c → (end : State) × Ready end × Leads (reading_in mid rs (lit n 1)) vs (reading_in end rs (lit n c))
    follow_cost n c mid u vs (absent e one) = (mid, open_state mid u, subst (λ (l : List Token). Leads (reading_in mid rs (lit n 1)) l (reading_in mid rs (lit n c))) (sym e) (ap (λ k. reading_in mid rs (lit n k)) (sym one)))
    follow_cost n c mid u vs (given d a b e is) = (
      Items,
      in_items,
      subst (λ (l : List Token). Leads (reading_in mid rs (lit n 1)) l (reading_in Items rs (lit n c))) (sym e)
          (reading_in AfterAt rs (lit n 1), ap (λ z. acted z [] (reading_in mid rs (lit n 1)) a 1) (at_expects u), (reading_in Items rs (lit n (decimal d)), ap granted (cost_grown rs (lit n 1) o.last s p n 1 refl (long n 1) Items (decimal d)), ap (λ k. reading_in Items rs (lit n k)) (sym is))),
    )

    follow_literal : (st : State) → Ready st → (n c : ℕ) (us vs : List Token) → Optional colon us n → Optional at vs c → Followed o st (token (literal s) p ∷ (us ++ vs)) (o.last ++ (a_literal s p n c ∷ []))
    follow_literal st r n c us vs a b =
        let x = follow_size n us a in
        let y = follow_cost n c x.0 x.1 vs b in
        (y.0, y.1, (reading_in AfterLiteral rs (lit 1 1), ap (λ z. acted z s (reading_in st rs o) p (width (token (literal s) p))) (literal_adds s r) ∙ item_step st AfterLiteral o (a_literal s p 1 1) p (width (token (literal s) p)) six low, leads_on _ us vs (reading_in x.0 rs (lit n 1)) _ x.2 y.2))

  follow_item : (o : OpenRule) (st : State) → Ready st → (i : SourceItem) (ts : List Token) → ItemTokens i ts → length o.last < 6 → length (flat (done rs o)) + length o.last < 128 → Followed o st ts (o.last ++ (i ∷ []))
  follow_item o st r (a_name s p) ts e a b = (
    Items,
    in_items,
    subst (λ (l : List Token). Leads (reading_in st rs o) l (reading_in Items rs (with_last o (o.last ++ (a_name s p ∷ []))))) (sym e)
        (reading_in Items rs (with_last o (o.last ++ (a_name s p ∷ []))), ap (λ z. acted z s (reading_in st rs o) p (length s)) (use_adds s r) ∙ item_step st Items o (a_name s p) p (length s) a b, refl),
  )
  follow_item o st r (a_literal s p n c) ts h a b = subst (λ (l : List Token). Followed o st l (o.last ++ (a_literal s p n c ∷ []))) (sym h.2) (follow_literal o s p a b st r n c h.0 h.1 h.3 h.4)

  follow_items : (is : List SourceItem) (o : OpenRule) (st : State) → Ready st → (ts : List Token) → AlternativeTokens is ts → length o.last + length is ≤ 6 → (length (flat (done rs o)) + length o.last) + length is ≤ 128 → Followed o st ts (o.last ++ is)
  follow_items [] o st r ts e a b = (st, r, subst (λ (l : List Token). Leads (reading_in st rs o) l (reading_in st rs (with_last o (o.last ++ [])))) (sym e) (ap (λ l. reading_in st rs (with_last o l)) (sym (append-nil o.last))))
  follow_items (i ∷ is) o st r ts h a b =
      let more = length_push o.last i in
      let x = follow_item o st r i h.0 h.3 (omega arith) (omega arith) in
      let y = follow_items is (with_last o (o.last ++ (i ∷ []))) x.0 x.1 h.1 h.4 (omega arith) (omega arith) in (
        y.0,
        y.1,
        subst (λ (l : List Token). Leads (reading_in st rs o) l (reading_in y.0 rs (with_last o (o.last ++ (i ∷ is))))) (sym h.2)
            (leads_on _ h.0 h.1 (reading_in x.0 rs (with_last o (o.last ++ (i ∷ [])))) _ x.2
            (subst (λ (l : List SourceItem). Leads (reading_in x.0 rs (with_last o (o.last ++ (i ∷ [])))) h.1 (reading_in y.0 rs (with_last o l))) (append_assoc o.last (i ∷ []) is) y.2)),
      )

  -- the alternatives that `|` ends
  module _ (s : List ℕ) (p : ℕ) (ns : List (List ℕ)) (last : List SourceItem) where
    abbrev behind : List (List SourceItem) → OpenRule
    behind b = record { name = s; place = p; before = b; last = [] }

    -- an alternative with others before and behind it
    fits : (b : List (List SourceItem)) (is : List SourceItem) (alts : List (List SourceItem)) → Kept ns (alternatives_of rs ++ ((b ++ (is ∷ alts)) ++ (last ∷ []))) →
        (length is ≤ 6) × (length (flat (alternatives_of rs ++ b)) + length is ≤ 128) × (length (alternatives_of rs ++ b) + 2 ≤ 64)
    fits b is alts k =
        let tail = alts ++ (last ∷ []) in
        let e : alternatives_of rs ++ ((b ++ (is ∷ alts)) ++ (last ∷ [])) ≡ (alternatives_of rs ++ b) ++ (is ∷ tail) = ap (λ l. alternatives_of rs ++ l) (append_assoc b (is ∷ alts) (last ∷ [])) ∙ sym (append_assoc (alternatives_of rs) b (is ∷ tail)) in
        let h : Kept ns ((alternatives_of rs ++ b) ++ (is ∷ tail)) = subst (Kept ns) e k in
        let lens = length-append (alternatives_of rs ++ b) (is ∷ tail) in
        let more = length_push alts last in (
          h.six is (among_right is (alternatives_of rs ++ b) (is ∷ tail) (inl refl)),
          omega (arith, h.few_items, ap length (flat_append (alternatives_of rs ++ b) (is ∷ tail)), length-append (flat (alternatives_of rs ++ b)) (is ++ flat tail), length-append is (flat tail)),
          omega (arith, h.few_alternatives),
        )

    follow_barred : (alts b : List (List SourceItem)) (ts : List Token) → InTurn BarredTokens alts ts → Kept ns (alternatives_of rs ++ ((b ++ alts) ++ (last ∷ []))) → Leads (reading_in Items rs (behind b)) ts (reading_in Items rs (behind (b ++ alts)))
    follow_barred [] b ts e k = subst (λ (l : List Token). Leads (reading_in Items rs (behind b)) l (reading_in Items rs (behind (b ++ [])))) (sym e) (ap (λ l. reading_in Items rs (behind l)) (sym (append-nil b)))
    follow_barred (is ∷ alts) b ts h k =
        let f = fits b is alts k in
        let items = h.3.0 in
        let x = follow_items is (behind b) Items in_items items h.3.3 (omega (arith, f.0)) (omega (arith, f.1)) in
        let full-rule : OpenRule = record { name = s; place = p; before = b; last = is } in
        let one : Leads (reading_in x.0 rs full-rule) (token bar h.3.1 ∷ []) (reading_in Items rs (behind (b ++ (is ∷ [])))) =
        (reading_in Items rs (behind (b ++ (is ∷ []))), ap (λ z. acted z [] (reading_in x.0 rs full-rule) h.3.1 1) (bar_nexts x.1) ∙ cond-true _ _ _ (lt-ltb (length (open_lists rs full-rule).alternatives) 63 (omega (arith, f.2, length-alternatives_from read_item 0 (alternatives_of rs ++ b)))) ∙ ap granted (next_grown rs full-rule), refl) in
        let first : Leads (reading_in Items rs (behind b)) h.0 (reading_in Items rs (behind (b ++ (is ∷ [])))) =
        subst (λ (l : List Token). Leads (reading_in Items rs (behind b)) l (reading_in Items rs (behind (b ++ (is ∷ []))))) (sym h.3.2) (leads_on _ items (token bar h.3.1 ∷ []) (reading_in x.0 rs full-rule) _ x.2 one) in
        let e : (b ++ (is ∷ [])) ++ alts ≡ b ++ (is ∷ alts) = append_assoc b (is ∷ []) alts in
        let rest : Leads (reading_in Items rs (behind (b ++ (is ∷ [])))) h.1 (reading_in Items rs (behind (b ++ (is ∷ alts)))) =
        subst (λ (l : List (List SourceItem)). Leads (reading_in Items rs (behind (b ++ (is ∷ [])))) h.1 (reading_in Items rs (behind l))) e
        (follow_barred alts (b ++ (is ∷ [])) h.1 h.4 (subst (λ (l : List (List SourceItem)). Kept ns (alternatives_of rs ++ (l ++ (last ∷ [])))) (sym e) k)) in
        subst (λ (l : List Token). Leads (reading_in Items rs (behind b)) l (reading_in Items rs (behind (b ++ (is ∷ alts))))) (sym h.2) (leads_on _ h.0 h.1 (reading_in Items rs (behind (b ++ (is ∷ [])))) _ first rest)

  -- a rule's name
  abbrev pub between : Label → ℕ → Alternative → Reading
  between n f x = record { state = Outside; name = n; first = f; current = x; lists = drafted read_item rs }

  pub name_step : (n : Label) (f : ℕ) (x : Alternative) (s : List ℕ) (q m : ℕ) → (Among s (names_of rs) → ⊥) → length rs < 32 → stepped (between n f x) (name s) q m ≡ granted (reading_named x rs s q)
  name_step n f x s q m new few =
      cond-false _ _ _ (le-ltb (rule_index (rules_from 0 rs) s) (length (rules_from 0 rs)) (omega (arith, name_found rs 0 s, number_new (names_of rs) s new, rules_count 0 rs, length-map rs (λ (r : SourceRule). r.name))))
      ∙ cond-true _ _ _ (lt-ltb (length (rules_from 0 rs)) 32 (omega (arith, rules_count 0 rs)))
      ∙ (λ k. granted (record { state = Named; name = label_of s q; first = length-alternatives_from read_item 0 (alternatives_of rs) k; current = x; lists = drafted read_item rs }))

  pub follow_open : (n : Label) (f : ℕ) (x : Alternative) (o : OpenRule) (ts : List Token) → OpenTokens o ts → Kept (names_of rs ++ (o.name ∷ [])) (alternatives_of rs ++ all_alternatives o) → (end : State) × Ready end × Leads (between n f x) ts (reading_in end rs o)
  follow_open n f x o ts h k =
      let few : length rs < 32 = omega (arith, k.few_names, length_push (names_of rs) o.name, length-map rs (λ (r : SourceRule). r.name)) in
      let front = follow_barred o.name o.place (names_of rs ++ (o.name ∷ [])) o.last o.before [] h.front h.barred k in
      let six : length o.last ≤ 6 = k.six o.last (among_right o.last (alternatives_of rs) (all_alternatives o) (among_right o.last o.before (o.last ∷ []) (inl refl))) in
      let open-first : OpenRule = record { name = o.name; place = o.place; before = o.before; last = [] } in
      let back = follow_items o.last open-first Items in_items h.back h.ending (omega arith) (omega (arith, k.few_items, ap length (all_items rs o o.last), length-append (flat (done rs o)) o.last)) in
      let one = cond-true _ _ _ (lt-ltb (length (drafted read_item rs).alternatives) 64 (omega (arith, k.few_alternatives, alternatives-count rs o, length-append (alternatives_of rs) (all_alternatives o), length_push o.before o.last, length-alternatives_from read_item 0 (alternatives_of rs)))) ∙ ap granted (first_grown rs o.name o.place) in (
        back.0,
        back.1,
        subst (λ (l : List Token). Leads (between n f x) l (reading_in back.0 rs o)) (sym h.tokens) (
          reading_named x rs o.name o.place,
          name_step n f x o.name o.place (length o.name) (last_new (names_of rs) o.name k.new) few,
          (reading_in Items rs (begun_rule o.name o.place), one, leads_on _ h.front h.back (reading_in Items rs open-first) _ front back.2),
        ),
      )
