-- The stored rules, alternative by alternative, as the family that they mean. Assumes nothing.
use Rattle.std.proofs.Common.{◌≡◌, ℕ, ◌+◌, ◌-◌, ◌<◌, ◌≤◌, min, List, [], length, get_or, drop, sym, ap, ◌∙◌, subst, ⊎_elim, arith}
use Rattle.std.proofs.lemmas.Bool.{cases_lt}
use Rattle.std.proofs.lemmas.List.{get_or-map, get_or_past, get_or_default, get_or-take, get_or-drop, length-map, length-take, length-drop}
use Rattle.theory.specs.Families.{Item as Symbol, alternatives, alternative}
use Rattle.files.specs.Items.{no_items}
use Rattle.files.specs.Grammars.{Lists, rule_at, alternative_at, rule_alternatives, no_rule}
use Rattle.files.specs.Models.{alternative_model, rule_model, model, Formed}
use Rattle.files.specs.declared.item.Alternative.{Alternative}
use Rattle.files.specs.declared.item.Rule.{Rule}

-- an alternative has at most six items
abbrev pub FitsSix : Alternative → Type 0
FitsSix a = (a.count ≤ 6) × (length a.items ≡ 6)

-- an alternative among those of its rule
pub listed_at : (xs : List Alternative) (r : Rule) (a : ℕ) (e : Alternative) → a < length (rule_alternatives xs r) → (a < r.count) × (get_or (rule_alternatives xs r) a e ≡ alternative_at xs (r.first + a))
listed_at xs r a e h =
    let below : a < r.count = omega (arith, length-take r.count (drop r.first xs)) in
    (below, get_or_default (rule_alternatives xs r) a e (no_items 0) h ∙ get_or-take r.count (drop r.first xs) a (no_items 0) below ∙ get_or-drop r.first xs a (no_items 0))

module _ (l : Lists) where
  pub rule_is : (y : ℕ) → alternatives (model l) y ≡ rule_model l (rule_at l.rules y)
  rule_is y = ⊎_elim
      (λ (h : y < length l.rules). get_or-map (rule_model l) l.rules y no_rule [] h)
      (λ (h : length l.rules ≤ y). get_or_past (model l) y [] (omega (arith, length-map l.rules (rule_model l))) ∙ ap (rule_model l) (sym (get_or_past l.rules y no_rule h)))
      (cases_lt y (length l.rules))

  pub names_are : length (model l) ≡ length l.rules
  names_are = length-map l.rules (rule_model l)

  module _ (inside : (y : ℕ) → y < length l.rules → (rule_at l.rules y).first + (rule_at l.rules y).count ≤ length l.alternatives) where
    pub within : (y a : ℕ) → a < (rule_at l.rules y).count → (rule_at l.rules y).first + a < length l.alternatives
    within y a h = ⊎_elim
        (λ (k : y < length l.rules). omega (arith, inside y k))
        (λ (k : length l.rules ≤ y). let e = ap (λ r. r.count) (get_or_past l.rules y no_rule k) in absurd (omega arith))
        (cases_lt y (length l.rules))

    pub count_is : (y : ℕ) → length (alternatives (model l) y) ≡ (rule_at l.rules y).count
    count_is y =
        ap length (rule_is y)
        ∙ length-map _ (alternative_model l.labels)
        ∙ length-take (rule_at l.rules y).count (drop (rule_at l.rules y).first l.alternatives)
        ∙ fewer
      where
        enough : (rule_at l.rules y).count ≤ length l.alternatives - (rule_at l.rules y).first
        enough = ⊎_elim
            (λ (k : y < length l.rules). omega (arith, inside y k))
            (λ (k : length l.rules ≤ y). let e = ap (λ r. r.count) (get_or_past l.rules y no_rule k) in omega arith)
            (cases_lt y (length l.rules))

        fewer : min (rule_at l.rules y).count (length (drop (rule_at l.rules y).first l.alternatives)) ≡ (rule_at l.rules y).count
        fewer = omega (arith, enough, length-drop (rule_at l.rules y).first l.alternatives)

    pub alternative_is : (y a : ℕ) → a < (rule_at l.rules y).count → alternative (model l) y a ≡ alternative_model l.labels (alternative_at l.alternatives ((rule_at l.rules y).first + a))
    alternative_is y a h =
        ap (λ (xs : List (List Symbol)). get_or xs a []) (rule_is y)
        ∙ get_or-map (alternative_model l.labels) (rule_alternatives l.alternatives (rule_at l.rules y)) a (no_items 0) [] there
        ∙ ap (alternative_model l.labels) (listed_at l.alternatives (rule_at l.rules y) a (no_items 0) there).1
      where
        there : a < length (rule_alternatives l.alternatives (rule_at l.rules y))
        there = omega (arith, ap length (rule_is y), length-map (rule_alternatives l.alternatives (rule_at l.rules y)) (alternative_model l.labels), count_is y)

  module _ (formed : Formed l) where
    pub six_at : (y a : ℕ) → a < (rule_at l.rules y).count → FitsSix (alternative_at l.alternatives ((rule_at l.rules y).first + a))
    six_at y a h = formed.six _ (within formed.inside y a h)

    -- the alternative that was looked up
    pub stored : (y a s : ℕ) (r : Rule) (x : Alternative) → r ≡ rule_at l.rules y → a < r.count → s ≡ r.first + a → x ≡ alternative_at l.alternatives s →
        FitsSix x × (a < length (alternatives (model l) y)) × (alternative (model l) y a ≡ alternative_model l.labels x)
    stored y a s r x e h p q =
        let k : a < (rule_at l.rules y).count = subst (λ (v : Rule). a < v.count) e h in
        let w : x ≡ alternative_at l.alternatives ((rule_at l.rules y).first + a) = q ∙ ap (alternative_at l.alternatives) (p ∙ ap (λ v. v.first + a) e) in
        (subst FitsSix (sym w) (six_at y a k), omega (arith, count_is formed.inside y), alternative_is formed.inside y a k ∙ ap (alternative_model l.labels) (sym w))

    pub low : (y a : ℕ) (r : Rule) → r ≡ rule_at l.rules y → a < r.count → r.first + a < 64
    low y a r e h = subst (λ (v : Rule). v.first + a < 64) (sym e) (omega (arith, within formed.inside y a (subst (λ (v : Rule). a < v.count) e h), formed.few_alternatives))
