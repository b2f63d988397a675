-- Drafts with one item, one alternative or one rule more. Assumes nothing.
use Rattle.std.proofs.Common.{◌≡◌, ℕ, suc, ◌+◌, ◌-◌, ◌<◌, List, [], ◌∷◌, ◌++◌, map, length, get_or, drop, set, replicate, sym, refl, ap, ◌∙◌, ap₂, add-zero, arith}
use Rattle.std.proofs.lemmas.List.{append_assoc, append-nil, length-append, length_push, map-append, set_at, get_or_at, drop_more}
use Rattle.files.specs.Items.{with_item, with_put, with_size, with_cost, resized, recosted, item_at, label_of}
use Rattle.files.specs.Sources.{SourceItem, a_literal, SourceRule, flat, alternatives_of, names_of, items_from, alternative_from, alternatives_from, rules_from, read_item}
use Rattle.files.specs.declared.item.Item.{Item}
use Rattle.files.specs.declared.item.Item.TheVariants.{Vacant}

-- Lists of lists

pub flat_append : {X : Type 0} (xss yss : List (List X)) → flat (xss ++ yss) ≡ flat xss ++ flat yss
flat_append [] yss = refl
flat_append (xs ∷ xss) yss = ap (λ l. xs ++ l) (flat_append xss yss) ∙ sym (append_assoc xs (flat xss) (flat yss))

pub flat_push : {X : Type 0} (xss : List (List X)) (xs : List X) → flat (xss ++ (xs ∷ [])) ≡ flat xss ++ xs
flat_push xss xs = flat_append xss (xs ∷ []) ∙ ap (λ l. flat xss ++ l) (append-nil xs)

pub alternatives_push : (rs : List SourceRule) (r : SourceRule) → alternatives_of (rs ++ (r ∷ [])) ≡ alternatives_of rs ++ r.alternatives
alternatives_push rs r = ap flat (map-append (λ (x : SourceRule). x.alternatives) rs (r ∷ [])) ∙ flat_push (map (λ (x : SourceRule). x.alternatives) rs) r.alternatives

pub names_push : (rs : List SourceRule) (r : SourceRule) → names_of (rs ++ (r ∷ [])) ≡ names_of rs ++ (r.name ∷ [])
names_push rs r = map-append (λ (x : SourceRule). x.name) rs (r ∷ [])

-- Items in their places

pub items_push : (put : ℕ → SourceItem → Item) (j : ℕ) (is : List SourceItem) (i : SourceItem) → items_from put j (is ++ (i ∷ [])) ≡ items_from put j is ++ (put (j + length is) i ∷ [])
items_push put j [] i = ap (λ n. put n i ∷ []) (sym (add-zero j))
items_push put j (k ∷ is) i =
    let e : (j + 1) + length is ≡ j + suc (length is) = omega arith in
    ap (λ l. put j k ∷ l) (items_push put (j + 1) is i ∙ ap (λ n. items_from put (j + 1) is ++ (put n i ∷ [])) e)

pub length-items_from : (put : ℕ → SourceItem → Item) (j : ℕ) (is : List SourceItem) → length (items_from put j is) ≡ length is
length-items_from put j [] = refl
length-items_from put j (i ∷ is) = ap suc (length-items_from put (j + 1) is)

module _ (put : ℕ → SourceItem → Item) (j : ℕ) (is : List SourceItem) (few : length is < 6) where
  abbrev front : List Item
  front = items_from put j is

  abbrev rest : List Item
  rest = drop (length is + 1) (replicate 6 Vacant)

  places : (i : SourceItem) → (alternative_from put j (is ++ (i ∷ []))).items ≡ front ++ (put (j + length is) i ∷ rest)
  places i =
      ap₂ ◌++◌ (items_push put j is i) (ap (λ n. drop n (replicate 6 Vacant)) (length_push is i))
      ∙ append_assoc front (put (j + length is) i ∷ []) rest

  pub item_pushed : (i : SourceItem) → with_item (alternative_from put j is) (put (j + length is) i) ≡ alternative_from put j (is ++ (i ∷ []))
  item_pushed i =
      let vacant : front ++ drop (length is) (replicate 6 Vacant) ≡ front ++ (get_or (replicate 6 Vacant) (length is) Vacant ∷ rest) = ap (λ l. front ++ l) (drop_more (replicate 6 Vacant) (length is) Vacant (omega arith)) in
      let items : set (front ++ drop (length is) (replicate 6 Vacant)) (length is) (put (j + length is) i) ≡ (alternative_from put j (is ++ (i ∷ []))).items =
      ap (λ l. set l (length is) (put (j + length is) i)) vacant ∙ set_at front _ rest _ (length is) (length-items_from put j is) ∙ sym (places i) in
      let count : length is + 1 ≡ length (is ++ (i ∷ [])) = sym (length_push is i) in
      λ k. record { items = items k; count = count k; first = j }

  -- another item in the place of the last
  pub item_replaced : (i k : SourceItem) (x : Item) → x ≡ put (j + length is) k → with_put (alternative_from put j (is ++ (i ∷ []))) (length (is ++ (i ∷ [])) - 1) x ≡ alternative_from put j (is ++ (k ∷ []))
  item_replaced i k x e =
      let last : length (is ++ (i ∷ [])) - 1 ≡ length is = omega (arith, length_push is i) in
      let items : set (alternative_from put j (is ++ (i ∷ []))).items (length (is ++ (i ∷ [])) - 1) x ≡ (alternative_from put j (is ++ (k ∷ []))).items =
      ap₂ (λ l n. set l n x) (places i) last ∙ set_at front _ rest x (length is) (length-items_from put j is) ∙ ap (λ y. front ++ (y ∷ rest)) e ∙ sym (places k) in
      let count : length (is ++ (i ∷ [])) ≡ length (is ++ (k ∷ [])) = length_push is i ∙ sym (length_push is k) in
      λ n. record { items = items n; count = count n; first = j }

  pub item_last : (i : SourceItem) → item_at (alternative_from put j (is ++ (i ∷ []))) (length (is ++ (i ∷ [])) - 1) ≡ put (j + length is) i
  item_last i =
      let last : length (is ++ (i ∷ [])) - 1 ≡ length is = omega (arith, length_push is i) in
      ap₂ (λ l n. get_or l n Vacant) (places i) last ∙ get_or_at front (put (j + length is) i) rest Vacant (length is) (length-items_from put j is)

module _ (j : ℕ) (is : List SourceItem) (few : length is < 6) (s : List ℕ) (p : ℕ) where
  pub sized : (n c m : ℕ) → with_size (alternative_from read_item j (is ++ (a_literal s p n c ∷ []))) m ≡ alternative_from read_item j (is ++ (a_literal s p m c ∷ []))
  sized n c m = item_replaced read_item j is few (a_literal s p n c) (a_literal s p m c) _ (ap (λ x. resized x m) (item_last read_item j is few (a_literal s p n c)))

  pub priced : (n c m : ℕ) → with_cost (alternative_from read_item j (is ++ (a_literal s p n c ∷ []))) m ≡ alternative_from read_item j (is ++ (a_literal s p n m ∷ []))
  priced n c m = item_replaced read_item j is few (a_literal s p n c) (a_literal s p n m) _ (ap (λ x. recosted x m) (item_last read_item j is few (a_literal s p n c)))

-- Alternatives and rules in a row

pub alternatives_from_push : (put : ℕ → SourceItem → Item) (j : ℕ) (alts : List (List SourceItem)) (is : List SourceItem) → alternatives_from put j (alts ++ (is ∷ [])) ≡ alternatives_from put j alts ++ (alternative_from put (j + length (flat alts)) is ∷ [])
alternatives_from_push put j [] is = ap (λ n. alternative_from put n is ∷ []) (sym (add-zero j))
alternatives_from_push put j (a ∷ alts) is =
    let e : (j + length a) + length (flat alts) ≡ j + length (a ++ flat alts) = omega (arith, length-append a (flat alts)) in
    ap (λ l. alternative_from put j a ∷ l) (alternatives_from_push put (j + length a) alts is ∙ ap (λ n. alternatives_from put (j + length a) alts ++ (alternative_from put n is ∷ [])) e)

pub length-alternatives_from : (put : ℕ → SourceItem → Item) (j : ℕ) (alts : List (List SourceItem)) → length (alternatives_from put j alts) ≡ length alts
length-alternatives_from put j [] = refl
length-alternatives_from put j (a ∷ alts) = ap suc (length-alternatives_from put (j + length a) alts)

pub rules_push : (a : ℕ) (rs : List SourceRule) (r : SourceRule) → rules_from a (rs ++ (r ∷ [])) ≡ rules_from a rs ++ (record { label = label_of r.name r.place; first = a + length (alternatives_of rs); count = length r.alternatives } ∷ [])
rules_push a [] r = let e = sym (add-zero a) in λ k. record { label = label_of r.name r.place; first = e k; count = length r.alternatives } ∷ []
rules_push a (q ∷ rs) r =
    let e : (a + length q.alternatives) + length (alternatives_of rs) ≡ a + length (q.alternatives ++ alternatives_of rs) = omega (arith, length-append q.alternatives (alternatives_of rs)) in
    ap (λ l. record { label = label_of q.name q.place; first = a; count = length q.alternatives } ∷ l)
    (rules_push (a + length q.alternatives) rs r ∙ (λ k. rules_from (a + length q.alternatives) rs ++ (record { label = label_of r.name r.place; first = e k; count = length r.alternatives } ∷ [])))
