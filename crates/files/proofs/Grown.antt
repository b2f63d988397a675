-- What the rule reader holds while a rule is read, and how each step changes it. Assumes nothing.
use Rattle.std.proofs.Common.{◌≡◌, ℕ, ◌+◌, ◌-◌, ◌<◌, ◌≤◌, List, [], ◌∷◌, ◌++◌, map, length, sym, refl, ap, ◌∙◌, zero-add, arith}
use Rattle.std.proofs.lemmas.List.{append_assoc, append-nil, length-append, length-map, length_push, map-append}
use Rattle.files.specs.Items.{label_of, no_items, with_item, with_size, with_cost}
use Rattle.files.specs.Grammars.{Lists}
use Rattle.files.specs.Steps.{Reading, with_alternative, with_label, with_rule}
use Rattle.files.specs.Sources.{SourceItem, a_literal, SourceRule, flat, alternatives_of, OpenRule, all_alternatives, closed_rule, item_label, alternative_from, alternatives_from, rules_from, drafted, read_item}
use Rattle.files.specs.declared.item.Label.{Label}
use Rattle.files.specs.declared.item.Alternative.{Alternative}
use Rattle.files.specs.declared.state.State.{State}
use Rattle.files.specs.declared.state.State.TheVariants.{Named, Items}
use Rattle.files.proofs.Growth.{flat_push, alternatives_push, item_pushed, sized, priced, alternatives_from_push, length-alternatives_from, rules_push}

-- an open rule with another last alternative
abbrev pub with_last : OpenRule → List SourceItem → OpenRule
with_last o is = record { name = o.name; place = o.place; before = o.before; last = is }

-- an open rule with one alternative more
abbrev pub with_next : OpenRule → OpenRule
with_next o = record { name = o.name; place = o.place; before = o.before ++ (o.last ∷ []); last = [] }

-- an open rule without alternatives yet but the first
abbrev pub begun_rule : List ℕ → ℕ → OpenRule
begun_rule s p = record { name = s; place = p; before = []; last = [] }

-- the number of the next alternative's first item
abbrev pub number : List SourceRule → OpenRule → ℕ
number rs o = length (flat (alternatives_of rs ++ o.before))

abbrev pub open_lists : List SourceRule → OpenRule → Lists
open_lists rs o = record { rules = rules_from 0 rs; alternatives = alternatives_from read_item 0 (alternatives_of rs ++ o.before); labels = map item_label (flat (alternatives_of rs ++ o.before) ++ o.last) }

-- what is held while the rule o is read
abbrev pub reading_in : State → List SourceRule → OpenRule → Reading
reading_in st rs o = record { state = st; name = label_of o.name o.place; first = length (alternatives_of rs); current = alternative_from read_item (number rs o) o.last; lists = open_lists rs o }

-- what is held behind a rule's name
abbrev pub reading_named : Alternative → List SourceRule → List ℕ → ℕ → Reading
reading_named x rs s p = record { state = Named; name = label_of s p; first = length (alternatives_of rs); current = x; lists = drafted read_item rs }

same_lists : (l : Lists) (a b : List Alternative) (c d : List Label) → a ≡ b → c ≡ d → (let u : Lists = record { rules = l.rules; alternatives = a; labels = c } in let v : Lists = record { rules = l.rules; alternatives = b; labels = d } in u ≡ v)
same_lists l a b c d e g = λ k. record { rules = l.rules; alternatives = e k; labels = g k }

same_reading : (st : State) (n : Label) (f : ℕ) (x y : Alternative) (l m : Lists) → x ≡ y → l ≡ m → (let u : Reading = record { state = st; name = n; first = f; current = x; lists = l } in let v : Reading = record { state = st; name = n; first = f; current = y; lists = m } in u ≡ v)
same_reading st n f x y l m e g = λ k. record { state = st; name = n; first = f; current = e k; lists = g k }

-- the first alternative begins
pub first_grown : (rs : List SourceRule) (s : List ℕ) (p : ℕ) → (let r : Reading = record { state = Items; name = label_of s p; first = length (alternatives_of rs); current = no_items (length (drafted read_item rs).labels); lists = drafted read_item rs } in r ≡ reading_in Items rs (begun_rule s p))
first_grown rs s p =
    let none = append-nil (alternatives_of rs) in
    same_reading Items (label_of s p) (length (alternatives_of rs)) _ _ _ _
    (ap no_items (length-map (flat (alternatives_of rs)) item_label ∙ ap (λ alts. length (flat alts)) (sym none)))
    (same_lists (drafted read_item rs) _ _ _ _ (ap (alternatives_from read_item 0) (sym none)) (ap (map item_label) (ap flat (sym none) ∙ sym (append-nil (flat (alternatives_of rs ++ []))))))

module _ (rs : List SourceRule) (o : OpenRule) where
  -- the alternatives that are done
  abbrev pub done : List (List SourceItem)
  done = alternatives_of rs ++ o.before

  pub regroup : (is : List SourceItem) → done ++ (is ∷ []) ≡ alternatives_of rs ++ (o.before ++ (is ∷ []))
  regroup is = append_assoc (alternatives_of rs) o.before (is ∷ [])

  pub all_items : (is : List SourceItem) → flat (alternatives_of rs ++ (o.before ++ (is ∷ []))) ≡ flat done ++ is
  all_items is = ap flat (sym (regroup is)) ∙ flat_push done is

  pub labels_count : length (open_lists rs o).labels ≡ length (flat done) + length o.last
  labels_count = length-map (flat done ++ o.last) item_label ∙ length-append (flat done) o.last

  pub alternatives-count : length (alternatives_of rs ++ all_alternatives o) ≡ length (open_lists rs o).alternatives + 1
  alternatives-count = omega (arith, ap length (regroup o.last), length_push done o.last, length-alternatives_from read_item 0 done)

  -- an item more
  pub item_grown : (next : State) (i : SourceItem) → length o.last < 6 →
      (let r : Reading = record { state = next; name = label_of o.name o.place; first = length (alternatives_of rs); current = with_item (alternative_from read_item (number rs o) o.last) (read_item (length (open_lists rs o).labels) i); lists = with_label (open_lists rs o) (item_label i) } in
      r ≡ reading_in next rs (with_last o (o.last ++ (i ∷ []))))
  item_grown next i six = same_reading next (label_of o.name o.place) (length (alternatives_of rs)) _ _ _ _
      (ap (λ j. with_item (alternative_from read_item (number rs o) o.last) (read_item j i)) labels_count ∙ item_pushed read_item (number rs o) o.last six i)
      (same_lists (open_lists rs o) _ _ _ _ refl (sym (map-append item_label (flat done ++ o.last) (i ∷ [])) ∙ ap (map item_label) (append_assoc (flat done) o.last (i ∷ []))))

  -- the stored alternatives with the last one behind them
  stored : alternatives_from read_item 0 done ++ (alternative_from read_item (number rs o) o.last ∷ []) ≡ alternatives_from read_item 0 (alternatives_of rs ++ all_alternatives o)
  stored =
      ap (λ j. alternatives_from read_item 0 done ++ (alternative_from read_item j o.last ∷ [])) (sym (zero-add (number rs o)))
      ∙ sym (alternatives_from_push read_item 0 done o.last)
      ∙ ap (alternatives_from read_item 0) (regroup o.last)

  labelled : map item_label (flat done ++ o.last) ≡ map item_label (flat (alternatives_of rs ++ all_alternatives o))
  labelled = ap (map item_label) (sym (all_items o.last))

  -- an alternative more
  pub next_grown :
      (let r : Reading = record { state = Items; name = label_of o.name o.place; first = length (alternatives_of rs); current = no_items (length (open_lists rs o).labels); lists = with_alternative (open_lists rs o) (alternative_from read_item (number rs o) o.last) } in
      r ≡ reading_in Items rs (with_next o))
  next_grown = same_reading Items (label_of o.name o.place) (length (alternatives_of rs)) _ _ _ _
      (ap no_items (ap length labelled ∙ length-map (flat (alternatives_of rs ++ all_alternatives o)) item_label))
      (same_lists (open_lists rs o) _ _ _ _ stored (labelled ∙ ap (map item_label) (sym (append-nil (flat (alternatives_of rs ++ all_alternatives o))))))

  counted : length (alternatives_from read_item 0 done ++ (alternative_from read_item (number rs o) o.last ∷ [])) - length (alternatives_of rs) ≡ length (all_alternatives o)
  counted = omega (arith, length_push (alternatives_from read_item 0 done) (alternative_from read_item (number rs o) o.last), length-alternatives_from read_item 0 done, length-append (alternatives_of rs) o.before, length_push o.before o.last)

  all_rules : rules_from 0 rs ++ (record { label = label_of o.name o.place; first = length (alternatives_of rs); count = length (alternatives_from read_item 0 done ++ (alternative_from read_item (number rs o) o.last ∷ [])) - length (alternatives_of rs) } ∷ []) ≡ rules_from 0 (rs ++ (closed_rule o ∷ []))
  all_rules =
      (λ k. rules_from 0 rs ++ (record { label = label_of o.name o.place; first = sym (zero-add (length (alternatives_of rs))) k; count = counted k } ∷ []))
      ∙ sym (rules_push 0 rs (closed_rule o))

  -- the rule's end
  pub end_grown : with_rule (with_alternative (open_lists rs o) (alternative_from read_item (number rs o) o.last)) (label_of o.name o.place) (length (alternatives_of rs)) ≡ drafted read_item (rs ++ (closed_rule o ∷ []))
  end_grown = λ k. record { rules = all_rules k; alternatives = (stored ∙ ap (alternatives_from read_item 0) (sym (alternatives_push rs (closed_rule o)))) k; labels = (labelled ∙ ap (λ l. map item_label (flat l)) (sym (alternatives_push rs (closed_rule o)))) k }

  -- another size or cost for the literal that is the last item
  module _ (is : List SourceItem) (s : List ℕ) (p n c : ℕ) (last : o.last ≡ is ++ (a_literal s p n c ∷ [])) (six : length o.last ≤ 6) where
    relabelled : (a b : ℕ) → map item_label (flat done ++ (is ++ (a_literal s p a b ∷ []))) ≡ map item_label (flat done ++ is) ++ (label_of s p ∷ [])
    relabelled a b = ap (map item_label) (sym (append_assoc (flat done) is (a_literal s p a b ∷ []))) ∙ map-append item_label (flat done ++ is) (a_literal s p a b ∷ [])

    few : length is < 6
    few = omega (arith, ap length last, length_push is (a_literal s p n c))

    changed : (next : State) (a b : ℕ) (x : Alternative) → x ≡ alternative_from read_item (number rs o) (is ++ (a_literal s p a b ∷ [])) →
        (let r : Reading = record { state = next; name = label_of o.name o.place; first = length (alternatives_of rs); current = x; lists = open_lists rs o } in r ≡ reading_in next rs (with_last o (is ++ (a_literal s p a b ∷ []))))
    changed next a b x e = same_reading next (label_of o.name o.place) (length (alternatives_of rs)) _ _ _ _ e
        (same_lists (open_lists rs o) _ _ _ _ refl (ap (λ l. map item_label (flat done ++ l)) last ∙ relabelled n c ∙ sym (relabelled a b)))

    pub size_grown : (next : State) (m : ℕ) →
        (let r : Reading = record { state = next; name = label_of o.name o.place; first = length (alternatives_of rs); current = with_size (alternative_from read_item (number rs o) o.last) m; lists = open_lists rs o } in
        r ≡ reading_in next rs (with_last o (is ++ (a_literal s p m c ∷ []))))
    size_grown next m = changed next m c _ (ap (λ l. with_size (alternative_from read_item (number rs o) l) m) last ∙ sized (number rs o) is few s p n c m)

    pub cost_grown : (next : State) (m : ℕ) →
        (let r : Reading = record { state = next; name = label_of o.name o.place; first = length (alternatives_of rs); current = with_cost (alternative_from read_item (number rs o) o.last) m; lists = open_lists rs o } in
        r ≡ reading_in next rs (with_last o (is ++ (a_literal s p n m ∷ []))))
    cost_grown next m = changed next n m _ (ap (λ l. with_cost (alternative_from read_item (number rs o) l) m) last ∙ priced (number rs o) is few s p n c m)
