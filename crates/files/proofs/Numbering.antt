-- What resolving gives on a draft as it is read: numbers for names, or a refusal at the first name that no rule defines. Assumes nothing.
use Rattle.std.proofs.Common.{◌≡◌, ℕ, zero, suc, ◌+◌, ◌<◌, Bool, true, false, cond, not, ltb, ◌⊎◌, List, [], ◌∷◌, ◌++◌, map, length, drop, replicate, Decides, sym, refl, ap, ◌∙◌, inl, inr, ⊎_elim, add-zero, arith}
use lib.ListN.{length-map}
use lib.Seq.{take-append_seam, drop-append_seam}
use Rattle.std.specs.Str.{bytes_eq}
use Rattle.std.proofs.lemmas.Slice.Eq.{bytes_eq-Decides}
use Rattle.std.proofs.lemmas.List.{drop-drop, drop-map, get_or-drop}
use Rattle.std.proofs.lemmas.Bool.{lt-ltb, le-ltb}
use Rattle.std.proofs.lemmas.Bool.Decides.{not_from_Decides}
use Rattle.theory.specs.Lists.{Among}
use Rattle.files.specs.Faults.{Answer, granted, refused}
use Rattle.files.specs.Items.{label_of, text_of}
use Rattle.files.specs.Grammars.{rule_index, label_at, no_label}
use Rattle.files.specs.Sources.{SourceItem, a_name, a_literal, SourceRule, names_of, flat, alternatives_of, items_in_file, UsesAmong, name_number, numbered_item, read_item, item_label, items_from, alternative_from, alternatives_from, rules_from, drafted, draft_of}
use Rattle.files.specs.Meanings.{FirstUndefined}
use Rattle.files.specs.Files.{next, each, resolved_use, resolved_item, resolved_alternative, resolved}
use Rattle.files.specs.declared.item.Item.TheVariants.{Vacant, Use, Name}
use Rattle.files.specs.declared.item.Label.{Label}
use Rattle.files.specs.declared.item.Rule.{Rule}
use Rattle.files.proofs.Each.{next_again}

-- Names

-- a name has a number below how many there are, or it is none of them and has that number
abbrev Found : List (List ℕ) → List ℕ → ℕ → Type 0
Found names s n = (Among s names × (n < length names)) ⊎ ((Among s names → ⊥) × (n ≡ length names))

found : (names : List (List ℕ)) (s : List ℕ) → Found names s (name_number names s)
found [] s = inr (λ h. h, refl)
found (t ∷ ts) s = go (bytes_eq t s) (bytes_eq-Decides t s) (found ts s)
  where
    go : (b : Bool) → Decides b (t ≡ s) → Found ts s (name_number ts s) → Found (t ∷ ts) s (cond (not b) (1 + name_number ts s) 0)
    go true d h = inl (inl (sym (d.0 refl)), omega arith)
    go false d (inl h) = inl (inr h.0, omega (arith, h.1))
    go false d (inr h) = inr (⊎_elim (λ e. not_from_Decides false d refl (sym e)) h.0, omega (arith, h.1))

-- each half by itself
pub number_among : (names : List (List ℕ)) (s : List ℕ) → Among s names → name_number names s < length names
number_among names s h = ⊎_elim (λ q. q.1) (λ q. absurd (q.0 h)) (found names s)

pub number_new : (names : List (List ℕ)) (s : List ℕ) → (Among s names → ⊥) → name_number names s ≡ length names
number_new names s h = ⊎_elim (λ q. absurd (h q.0)) (λ q. q.1) (found names s)

pub among_number : (names : List (List ℕ)) (s : List ℕ) → name_number names s < length names → Among s names
among_number names s h = ⊎_elim (λ q. q.0) (λ q. absurd (omega (arith, q.1))) (found names s)

-- a label's text is its name
text_is : (s : List ℕ) (p : ℕ) → text_of (label_of s p) ≡ s
text_is s p = take-append_seam s _

-- the rules of a draft have the numbers of their names
pub name_found : (rs : List SourceRule) (a : ℕ) (s : List ℕ) → rule_index (rules_from a rs) s ≡ name_number (names_of rs) s
name_found [] a s = refl
name_found (r ∷ rs) a s =
    ap (λ t. cond (not (bytes_eq t s)) (1 + rule_index (rules_from (a + length r.alternatives) rs) s) 0) (text_is r.name r.place)
    ∙ ap (λ n. cond (not (bytes_eq r.name s)) (1 + n) 0) (name_found rs (a + length r.alternatives) s)

pub rules_count : (a : ℕ) (rs : List SourceRule) → length (rules_from a rs) ≡ length rs
rules_count a [] = refl
rules_count a (r ∷ rs) = ap suc (rules_count (a + length r.alternatives) rs)

-- Answers

-- y, unless a refuses
abbrev giving : {Y : Type 0} → Answer (Unit {0}) → Y → Answer Y
giving a y = next a (λ _. granted y)

-- one more in front of a list
one_more : {X Y : Type 0} (f : X → Answer Y) (x : X) (xs : List X) (y : Y) (ys : List Y) (a b : Answer (Unit {0})) → f x ≡ giving a y → each f xs ≡ giving b ys → each f (x ∷ xs) ≡ giving (next a (λ _. b)) (y ∷ ys)
one_more f x xs y ys a b e h = (λ i. next (e i) (λ z. next (h i) (λ zs. granted (z ∷ zs)))) ∙ both a b
  where
    both : (c d : Answer (Unit {0})) → next (giving c y) (λ z. next (giving d ys) (λ zs. granted (z ∷ zs))) ≡ giving (next c (λ _. d)) (y ∷ ys)
    both (granted u) (granted v) = refl
    both (granted u) (refused k p n) = refl
    both (refused k p n) d = refl

-- Uses

module _ (names : List (List ℕ)) where
  -- whether the name that an item uses is among the names
  abbrev known : SourceItem → Answer (Unit {0})
  known (a_name s p) = cond (ltb (name_number names s) (length names)) (granted tt) (refused 10 p (length s))
  known (a_literal s p n c) = granted tt

  -- whether all are, the first that is not deciding
  abbrev all_known : List SourceItem → Answer (Unit {0})
  all_known [] = granted tt
  all_known (i ∷ is) = next (known i) (λ _. all_known is)

  -- the items of two lists are asked in turn
  known-append : (is js : List SourceItem) → all_known (is ++ js) ≡ next (all_known is) (λ _. all_known js)
  known-append [] js = refl
  known-append (i ∷ is) js = ap (λ a. next (known i) (λ _. a)) (known-append is js) ∙ sym (next_again (known i) (λ _. all_known is) (λ _. all_known js))

  -- all are among the names, or one is not
  known_granted : (is : List SourceItem) → UsesAmong names is → all_known is ≡ granted tt
  known_granted [] h = refl
  known_granted (a_name s p ∷ is) h = ap (λ b. next (cond b (granted tt) (refused 10 p (length s))) (λ _. all_known is)) (lt-ltb _ _ (number_among names s h.0)) ∙ known_granted is h.1
  known_granted (a_literal s p n c ∷ is) h = known_granted is h

  unknown_refused : (s : List ℕ) (p : ℕ) (is : List SourceItem) → (Among s names → ⊥) → all_known (a_name s p ∷ is) ≡ refused 10 p (length s)
  unknown_refused s p is h = ap (λ b. next (cond b (granted tt) (refused 10 p (length s))) (λ _. all_known is)) (le-ltb _ _ (omega (arith, number_new names s h)))

  -- one or the other: the split at the first that is not
  decided : (is : List SourceItem) → UsesAmong names is ⊎ ((s : List ℕ) × (p : ℕ) × (front : List SourceItem) × (back : List SourceItem) × (is ≡ front ++ (a_name s p ∷ back)) × UsesAmong names front × (Among s names → ⊥))
  decided [] = inl tt
  decided (a_name s p ∷ is) = ⊎_elim
      (λ q. ⊎_elim
      (λ u. inl (q.0, u))
      (λ r. inr (r.0, r.1, a_name s p ∷ r.2, r.3, ap (λ l. a_name s p ∷ l) r.4, (q.0, r.5), r.6))
      (decided is))
      (λ q. inr (s, p, [], is, refl, tt, q.0))
      (found names s)
  decided (a_literal s p n c ∷ is) = ⊎_elim
      inl
      (λ r. inr (r.0, r.1, a_literal s p n c ∷ r.2, r.3, ap (λ l. a_literal s p n c ∷ l) r.4, r.5, r.6))
      (decided is)

-- Items and alternatives

-- rules that find the names by their numbers, and labels
module _ (names : List (List ℕ)) (rules : List Rule) (index : (s : List ℕ) → rule_index rules s ≡ name_number names s) (size : length rules ≡ length names) (labels : List Label) where
  -- an item as it is read resolves to the numbered one, if its name is known
  use_resolved : (s : List ℕ) (p j : ℕ) → label_at labels j ≡ label_of s p → resolved_item rules labels (Use j) ≡ giving (known names (a_name s p)) (Name (name_number names s))
  use_resolved s p j e =
      ap (resolved_use rules) e
      ∙ ap (λ t. cond (ltb (rule_index rules t) (length rules)) (granted (Name (rule_index rules t))) (refused 10 p (length s))) (text_is s p)
      ∙ (λ i. cond (ltb (index s i) (size i)) (granted (Name (index s i))) (refused 10 p (length s)))
      ∙ either (ltb (name_number names s) (length names))
    where
      either : (b : Bool) → cond b (granted (Name (name_number names s))) (refused 10 p (length s)) ≡ giving (cond b (granted tt) (refused 10 p (length s))) (Name (name_number names s))
      either true = refl
      either false = refl

  item_resolved : (i : SourceItem) (j : ℕ) → label_at labels j ≡ item_label i → resolved_item rules labels (read_item j i) ≡ giving (known names i) (numbered_item names j i)
  item_resolved (a_name s p) j e = use_resolved s p j e
  item_resolved (a_literal s p n c) j e = refl

  -- vacant places resolve to themselves
  vacant_resolved : (n m : ℕ) → each (resolved_item rules labels) (drop n (replicate m Vacant)) ≡ granted (drop n (replicate m Vacant))
  vacant_resolved zero zero = refl
  vacant_resolved zero (suc m) = ap (λ a. next a (λ is. granted (Vacant ∷ is))) (vacant_resolved zero m)
  vacant_resolved (suc n) zero = refl
  vacant_resolved (suc n) (suc m) = vacant_resolved n m

  -- from the number j on, the labels are those of items
  abbrev Labelled : ℕ → List SourceItem → Type 0
  Labelled j is = drop j labels ≡ map item_label is

  first_label : (j : ℕ) (i : SourceItem) (is : List SourceItem) → Labelled j (i ∷ is) → label_at labels j ≡ item_label i
  first_label j i is e = ap (λ n. label_at labels n) (sym (add-zero j)) ∙ sym (get_or-drop j labels 0 no_label) ∙ ap (λ l. label_at l 0) e

  behind : (j : ℕ) (is js : List SourceItem) → Labelled j (is ++ js) → Labelled (j + length is) js
  behind j is js e = sym (drop-drop (length is) j labels) ∙ ap (drop (length is)) e ∙ drop-map item_label (length is) (is ++ js) ∙ ap (map item_label) (drop-append_seam is js)

  -- items, an alternative and alternatives, if all names are known
  items_resolved : (is js : List SourceItem) (j n : ℕ) → Labelled j (is ++ js) →
      each (resolved_item rules labels) (items_from read_item j is ++ drop n (replicate 6 Vacant)) ≡ giving (all_known names is) (items_from (numbered_item names) j is ++ drop n (replicate 6 Vacant))
  items_resolved [] js j n e = vacant_resolved n 6
  items_resolved (i ∷ is) js j n e =
      one_more (resolved_item rules labels) _ (items_from read_item (j + 1) is ++ drop n (replicate 6 Vacant)) _ _ (known names i) (all_known names is) (item_resolved i j (first_label j i (is ++ js) e)) (items_resolved is js (j + 1) n (behind j (i ∷ []) (is ++ js) e))

  alternative-resolved : (is js : List SourceItem) (j : ℕ) → Labelled j (is ++ js) → resolved_alternative rules labels (alternative_from read_item j is) ≡ giving (all_known names is) (alternative_from (numbered_item names) j is)
  alternative-resolved is js j e =
      ap (λ a. next a (λ xs. granted (record { items = xs; count = length is; first = j }))) (items_resolved is js j (length is) e) ∙ next_again (all_known names is) _ _

  alternatives-resolved : (alts : List (List SourceItem)) (j : ℕ) → Labelled j (flat alts) →
      each (resolved_alternative rules labels) (alternatives_from read_item j alts) ≡ giving (all_known names (flat alts)) (alternatives_from (numbered_item names) j alts)
  alternatives-resolved [] j e = refl
  alternatives-resolved (is ∷ alts) j e =
      one_more (resolved_alternative rules labels) (alternative_from read_item j is) (alternatives_from read_item (j + length is) alts) _ _ (all_known names is) (all_known names (flat alts)) (alternative-resolved is (flat alts) j e) (alternatives-resolved alts (j + length is) (behind j is (flat alts) e))
      ∙ ap (λ a. giving a (alternatives_from (numbered_item names) j (is ∷ alts))) (sym (known-append names is (flat alts)))

-- Whole drafts

-- a draft as it is read resolves to the numbered one, if all names are known
resolved_draft : (rs : List SourceRule) → resolved (drafted read_item rs) ≡ giving (all_known (names_of rs) (items_in_file rs)) (draft_of rs)
resolved_draft rs =
    let labels = map item_label (items_in_file rs) in
    let count : length (rules_from 0 rs) ≡ length (names_of rs) = rules_count 0 rs ∙ sym (length-map rs (λ r. r.name)) in
    ap (λ a. next a (λ xs. granted (record { rules = rules_from 0 rs; alternatives = xs; labels = labels }))) (alternatives-resolved (names_of rs) (rules_from 0 rs) (name_found rs 0) count labels (alternatives_of rs) 0 refl)
    ∙ next_again (all_known (names_of rs) (items_in_file rs)) _ _

pub resolves : (rs : List SourceRule) → UsesAmong (names_of rs) (items_in_file rs) → resolved (drafted read_item rs) ≡ granted (draft_of rs)
resolves rs h = resolved_draft rs ∙ ap (λ a. giving a (draft_of rs)) (known_granted (names_of rs) (items_in_file rs) h)

pub refuses : (rs : List SourceRule) (s : List ℕ) (p : ℕ) → FirstUndefined rs s p → resolved (drafted read_item rs) ≡ refused 10 p (length s)
refuses rs s p u =
    let names = names_of rs in
    let stops : all_known names (items_in_file rs) ≡ refused 10 p (length s) =
    ap (all_known names) u.items
    ∙ known-append names u.front (a_name s p ∷ u.back)
    ∙ ap (λ a. next a (λ _. all_known names (a_name s p ∷ u.back))) (known_granted names u.front u.defined)
    ∙ unknown_refused names s p u.back u.undefined in
    resolved_draft rs ∙ ap (λ a. giving a (draft_of rs)) stops

pub uses_decided : (rs : List SourceRule) → UsesAmong (names_of rs) (items_in_file rs) ⊎ ((s : List ℕ) × (p : ℕ) × FirstUndefined rs s p)
uses_decided rs = ⊎_elim inl (λ r. inr (r.0, r.1, record { front = r.2; back = r.3; items = r.4; defined = r.5; undefined = r.6 })) (decided (names_of rs) (items_in_file rs))
