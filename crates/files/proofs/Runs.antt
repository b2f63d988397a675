-- Rules whose alternatives stand in a row, and the numbers of their items. Assumes nothing.
use Rattle.std.proofs.Common.{◌≡◌, ℕ, zero, suc, ◌+◌, ◌-◌, ◌<◌, ◌≤◌, ◌⊎◌, List, [], ◌∷◌, ◌++◌, map, length, get_or, take, drop, set, sym, refl, ap, ◌∙◌, subst, ap₂, inl, inr, ⊎_elim, le_of_suc-le-suc, not-suc-le-zero, add-zero, zero-add, arith}
use Rattle.std.proofs.lemmas.Bool.{cases_lt}
use Rattle.std.proofs.lemmas.List.{get_or_past, length-map, take-map, take-take, take_all}
use Rattle.theory.specs.Families.{Known, alternatives, alternative, items_in, items_under}
use Rattle.theory.proofs.Items.{item_count_is}
use Rattle.files.specs.Items.{items_of}
use Rattle.files.specs.Grammars.{Lists, no_lists, rule_at, alternative_at}
use Rattle.files.specs.Models.{item_model, alternative_model, rule_model, model, NamesDiffer, Formed}
use Rattle.files.specs.declared.item.Item.{Item}
use Rattle.files.specs.declared.item.Item.TheVariants.{Vacant, Use, Name, Literal}
use Rattle.files.specs.declared.item.Label.{Label}
use Rattle.files.specs.declared.item.Alternative.{Alternative}
use Rattle.files.specs.declared.item.Rule.{Rule}
use Rattle.files.proofs.Places.{names_are, within, count_is, alternative_is}

-- Items

-- a name is below m
abbrev pub Below : ℕ → Item → Type 0
Below m Vacant = Unit {0}
Below m (Use t) = Unit {0}
Below m (Name y) = y < m
Below m (Literal t s c) = Unit {0}

abbrev pub AllBelow : ℕ → List Item → Type 0
AllBelow m [] = Unit {0}
AllBelow m (i ∷ is) = Below m i × AllBelow m is

pub below_set : (m : ℕ) (is : List Item) (k : ℕ) (i : Item) → AllBelow m is → Below m i → AllBelow m (set is k i)
below_set m [] k i h b = h
below_set m (j ∷ is) zero i h b = (b, h.1)
below_set m (j ∷ is) (suc k) i h b = (h.0, below_set m is k i h.1 b)

pub below_at : (m : ℕ) (is : List Item) (k : ℕ) → AllBelow m is → Below m (get_or is k Vacant)
below_at m [] k h = tt
below_at m (i ∷ is) zero h = h.0
below_at m (i ∷ is) (suc k) h = below_at m is k h.1

known : (m n : ℕ) (ls : List Label) (is : List Item) → AllBelow m is → Known m (map (item_model ls) (take n is))
known m zero ls is h = tt
known m (suc n) ls [] h = tt
known m (suc n) ls (Vacant ∷ is) h = known m n ls is h.1
known m (suc n) ls (Use t ∷ is) h = known m n ls is h.1
known m (suc n) ls (Name y ∷ is) h = (h.0, known m n ls is h.1)
known m (suc n) ls (Literal t s c ∷ is) h = known m n ls is h.1

-- Alternatives

-- an alternative of at most six items, whose names are below m
pub record Plain (m : ℕ) (x : Alternative) : Type 0 where
  pub few : x.count ≤ 6
  pub six : length x.items ≡ 6
  pub names : AllBelow m x.items

-- how many items the alternatives have
abbrev pub held : List Alternative → ℕ
held [] = 0
held (x ∷ xs) = length (items_of x) + held xs

-- alternatives one after another, the first item of all having the number n
abbrev pub Row : ℕ → ℕ → List Alternative → Type 0
Row m n [] = Unit {0}
Row m n (x ∷ xs) = Plain m x × (x.first ≡ n) × Row m (n + length (items_of x)) xs

pub held_push : (xs : List Alternative) (x : Alternative) → held (xs ++ (x ∷ [])) ≡ held xs + length (items_of x)
held_push [] x = omega arith
held_push (z ∷ xs) x = omega (arith, held_push xs x)

pub row_push : (m n : ℕ) (xs : List Alternative) (x : Alternative) → Row m n xs → Plain m x → x.first ≡ n + held xs → Row m n (xs ++ (x ∷ []))
row_push m n [] x r p e = (p, e ∙ add-zero n, tt)
row_push m n (z ∷ xs) x r p e = (r.0, r.1, row_push m (n + length (items_of z)) xs x r.2 p (omega arith))

row_plain : (m n : ℕ) (xs : List Alternative) (i : ℕ) → Row m n xs → i < length xs → Plain m (alternative_at xs i)
row_plain m n [] i r h = absurd (not-suc-le-zero h)
row_plain m n (x ∷ xs) zero r h = r.0
row_plain m n (x ∷ xs) (suc i) r h = row_plain m (n + length (items_of x)) xs i r.2 (le_of_suc-le-suc h)

row_first : (m n : ℕ) (xs : List Alternative) (i : ℕ) → Row m n xs → i < length xs → (alternative_at xs i).first ≡ n + held (take i xs)
row_first m n [] i r h = absurd (not-suc-le-zero h)
row_first m n (x ∷ xs) zero r h = r.1 ∙ sym (add-zero n)
row_first m n (x ∷ xs) (suc i) r h = row_first m (n + length (items_of x)) xs i r.2 (le_of_suc-le-suc h) ∙ omega arith

held_more : (f a : ℕ) (xs : List Alternative) → held (take (f + a) xs) ≡ held (take f xs) + held (take a (drop f xs))
held_more zero a xs = ap (λ n. held (take n xs)) (zero-add a) ∙ sym (zero-add (held (take a xs)))
held_more (suc f) a [] = let e : suc f + a ≡ suc (f + a) = omega arith in ap (λ n. held (take n [])) e ∙ none a
  where
    none : (a : ℕ) → 0 ≡ 0 + held (take a [])
    none zero = refl
    none (suc a) = refl
held_more (suc f) a (x ∷ xs) =
    let e : suc f + a ≡ suc (f + a) = omega arith in
    ap (λ n. held (take n (x ∷ xs))) e ∙ (let r = held_more f a xs in let g : length (items_of x) + held (take (f + a) xs) ≡ (length (items_of x) + held (take f xs)) + held (take a (drop f xs)) = omega arith in g)

items_held : (ls : List Label) (xs : List Alternative) → items_in (map (alternative_model ls) xs) ≡ held xs
items_held ls [] = refl
items_held ls (x ∷ xs) = ap₂ ◌+◌ (length-map (items_of x) (item_model ls)) (items_held ls xs)

-- Rules

-- the rules have the alternatives from `from` to `to`, one rule after another
abbrev pub Runs : ℕ → List Rule → ℕ → Type 0
Runs from [] to = from ≡ to
Runs from (r ∷ rs) to = (r.first ≡ from) × Runs (from + r.count) rs to

pub runs_push : (from : ℕ) (rs : List Rule) (mid to : ℕ) (r : Rule) → Runs from rs mid → r.first ≡ mid → mid + r.count ≡ to → Runs from (rs ++ (r ∷ [])) to
runs_push from [] mid to r h e g = (e ∙ sym h, ap (λ n. n + r.count) h ∙ g)
runs_push from (q ∷ rs) mid to r h e g = (h.0, runs_push (from + q.count) rs mid to r h.1 e g)

runs_inside : (from : ℕ) (rs : List Rule) (to y : ℕ) → Runs from rs to → y < length rs → (rule_at rs y).first + (rule_at rs y).count ≤ to
runs_inside from [] to y h l = absurd (not-suc-le-zero l)
runs_inside from (r ∷ rs) to zero h l = omega (arith, h.0, rises (from + r.count) rs to h.1)
  where
    rises : (from : ℕ) (rs : List Rule) (to : ℕ) → Runs from rs to → from ≤ to
    rises from [] to h = omega arith
    rises from (r ∷ rs) to h = omega (arith, rises (from + r.count) rs to h.1)
runs_inside from (r ∷ rs) to (suc y) h l = runs_inside (from + r.count) rs to y h.1 (le_of_suc-le-suc l)

-- each alternative is of a rule
Owner : List Rule → ℕ → Type 0
Owner rs i = (y : ℕ) × (a : ℕ) × (y < length rs) × (a < (rule_at rs y).count) × (i ≡ (rule_at rs y).first + a)

owner : (from : ℕ) (rs : List Rule) (to i : ℕ) → Runs from rs to → from ≤ i → i < to → Owner rs i
unfolding Owner
owner from [] to i h low high = absurd (omega arith)
owner from (r ∷ rs) to i h low high = ⊎_elim
    (λ (l : i < from + r.count). (0, i - from, omega arith, omega arith, omega (arith, h.0)))
    (λ (l : from + r.count ≤ i). let t = owner (from + r.count) rs to i h.1 l high in (suc t.0, t.1, omega (arith, t.2), t.3, t.4))
    (cases_lt i (from + r.count))

module _ (l : Lists) where
  rule_held : (a : ℕ) (r : Rule) → a ≤ r.count → items_in (take a (rule_model l r)) ≡ held (take a (drop r.first l.alternatives))
  rule_held a r h =
      ap items_in (take-map (alternative_model l.labels) a (take r.count (drop r.first l.alternatives)) ∙ ap (map (alternative_model l.labels)) (take-take a r.count (drop r.first l.alternatives) h))
      ∙ items_held l.labels (take a (drop r.first l.alternatives))

  rule_whole : (r : Rule) → items_in (rule_model l r) ≡ held (take r.count (drop r.first l.alternatives))
  rule_whole r = items_held l.labels (take r.count (drop r.first l.alternatives))

  -- the items before alternative a of rule y
  numbers : (from : ℕ) (rs : List Rule) (to y a : ℕ) → Runs from rs to → y < length rs → a ≤ (rule_at rs y).count →
      (items_under (take y (map (rule_model l) rs)) + items_in (take a (get_or (map (rule_model l) rs) y []))) + held (take from l.alternatives) ≡ held (take ((rule_at rs y).first + a) l.alternatives)
  numbers from [] to y a h b c = absurd (not-suc-le-zero b)
  numbers from (r ∷ rs) to zero a h b c =
      let e : held (take from l.alternatives) ≡ held (take r.first l.alternatives) = ap (λ n. held (take n l.alternatives)) (sym h.0) in
      omega (arith, rule_held a r c, held_more r.first a l.alternatives)
  numbers from (r ∷ rs) to (suc y) a h b c =
      let e : held (take (from + r.count) l.alternatives) ≡ held (take (r.first + r.count) l.alternatives) = ap (λ n. held (take (n + r.count) l.alternatives)) (sym h.0) in
      let f : held (take from l.alternatives) ≡ held (take r.first l.alternatives) = ap (λ n. held (take n l.alternatives)) (sym h.0) in
      omega (arith, numbers (from + r.count) rs to y a h.1 (le_of_suc-le-suc b) c, rule_whole r, held_more r.first r.count l.alternatives)

  -- all items
  total : (from : ℕ) (rs : List Rule) (to : ℕ) → Runs from rs to → items_under (map (rule_model l) rs) + held (take from l.alternatives) ≡ held (take to l.alternatives)
  total from [] to h = zero-add (held (take from l.alternatives)) ∙ ap (λ n. held (take n l.alternatives)) h
  total from (r ∷ rs) to h =
      let e : held (take (from + r.count) l.alternatives) ≡ held (take (r.first + r.count) l.alternatives) = ap (λ n. held (take (n + r.count) l.alternatives)) (sym h.0) in
      let f : held (take from l.alternatives) ≡ held (take r.first l.alternatives) = ap (λ n. held (take n l.alternatives)) (sym h.0) in
      omega (arith, total (from + r.count) rs to h.1, rule_whole r, held_more r.first r.count l.alternatives)

-- lists that were read to the end, with names below m
pub record Whole (m : ℕ) (l : Lists) : Type 0 where
  pub few_rules : length l.rules ≤ 32
  pub few_alternatives : length l.alternatives ≤ 64
  pub few_items : length l.labels ≤ 128
  pub runs : Runs 0 l.rules (length l.alternatives)
  pub row : Row m 0 l.alternatives
  pub labelled : length l.labels ≡ held l.alternatives

pub whole_formed : (l : Lists) → Whole (length l.rules) l → Formed l
unfolding Owner
whole_formed l w = record {
  few_rules = w.few_rules;
  few_alternatives = w.few_alternatives;
  few_items = w.few_items;
  inside = inside;
  owned = λ i h. owner 0 l.rules (length l.alternatives) i w.runs (omega arith) h;
  six = λ i h. let p = row_plain m 0 l.alternatives i w.row h in (p.few, p.six);
  numbered = λ y a h k.
      let at : (rule_at l.rules y).first + a < length l.alternatives = omega (arith, inside y h) in
      let b : a ≤ (rule_at l.rules y).count = omega arith in
      omega (arith, row_first m 0 l.alternatives ((rule_at l.rules y).first + a) w.row at, numbers l 0 l.rules (length l.alternatives) y a w.runs h b);
  counted =
      item_count_is (model l)
      ∙ (let t = total l 0 l.rules (length l.alternatives) w.runs in let u = ap held (take_all (length l.alternatives) l.alternatives (omega arith)) in omega (arith, w.labelled));
  defined = λ y a. defined y a (cases_lt a (rule_at l.rules y).count);
}
  where
    m : ℕ
    m = length l.rules

    inside : (y : ℕ) → y < length l.rules → (rule_at l.rules y).first + (rule_at l.rules y).count ≤ length l.alternatives
    inside y h = runs_inside 0 l.rules (length l.alternatives) y w.runs h

    defined : (y a : ℕ) → (a < (rule_at l.rules y).count) ⊎ ((rule_at l.rules y).count ≤ a) → Known (length (model l)) (alternative (model l) y a)
    defined y a (inl h) =
        subst (λ (n : ℕ). Known n (alternative (model l) y a)) (sym (names_are l))
        (subst (Known m) (sym (alternative_is l inside y a h))
        (known m _ l.labels _ (row_plain m 0 l.alternatives ((rule_at l.rules y).first + a) w.row (within l inside y a h)).names))
    defined y a (inr h) = subst (Known (length (model l))) (sym (get_or_past (alternatives (model l) y) a [] (omega (arith, count_is l inside y)))) tt

pub none_formed : Formed no_lists
none_formed = whole_formed no_lists (record { few_rules = omega arith; few_alternatives = omega arith; few_items = omega arith; runs = refl; row = tt; labelled = refl })

-- and no names, which differ
pub none_differ : NamesDiffer no_lists
none_differ = tt
