-- The draft of a family file fits together. Assumes nothing.
use Rattle.std.proofs.Common.{◌≡◌, ℕ, zero, suc, ◌+◌, ◌≤◌, List, [], ◌∷◌, ◌++◌, map, length, drop, replicate, sym, refl, ap, ◌∙◌, subst, ap₂, inl, inr, add-zero, zero-add, arith}
use Rattle.std.proofs.lemmas.List.{length-append, length-drop, length-map, take_at}
use Rattle.theory.specs.Lists.{Among, Distinct}
use Rattle.files.specs.Items.{text_of, items_of}
use Rattle.files.specs.Grammars.{Lists}
use Rattle.files.specs.Models.{NamesDiffer, Formed}
use Rattle.files.specs.Sources.{SourceItem, a_name, a_literal, SourceRule, names_of, flat, alternatives_of, items_in_file, UsesAmong, numbered_item, item_label, items_from, alternative_from, alternatives_from, rules_from, draft_of}
use Rattle.files.specs.Meanings.{FamilyFile}
use Rattle.files.specs.declared.item.Item.{Item}
use Rattle.files.specs.declared.item.Item.TheVariants.{Vacant}
use Rattle.files.specs.declared.item.Rule.{Rule}
use Rattle.files.proofs.Numbering.{number_among, rules_count}
use Rattle.files.proofs.Growth.{length-items_from, length-alternatives_from}
use Rattle.files.proofs.Runs.{AllBelow, Plain, held, Row, Runs, Whole, whole_formed}

-- Items and alternatives

below-append : (m : ℕ) (is js : List Item) → AllBelow m is → AllBelow m js → AllBelow m (is ++ js)
below-append m [] js h k = k
below-append m (i ∷ is) js h k = (h.0, below-append m is js h.1 k)

below-drop : (m n : ℕ) (is : List Item) → AllBelow m is → AllBelow m (drop n is)
below-drop m zero is h = h
below-drop m (suc n) [] h = h
below-drop m (suc n) (i ∷ is) h = below-drop m n is h.1

uses_parts : (names : List (List ℕ)) (is js : List SourceItem) → UsesAmong names (is ++ js) → UsesAmong names is × UsesAmong names js
uses_parts names [] js h = (tt, h)
uses_parts names (a_name s p ∷ is) js h = let t = uses_parts names is js h.1 in ((h.0, t.0), t.1)
uses_parts names (a_literal s p n c ∷ is) js h = uses_parts names is js h

module _ (names : List (List ℕ)) where
  below_items : (j : ℕ) (is : List SourceItem) → UsesAmong names is → AllBelow (length names) (items_from (numbered_item names) j is)
  below_items j [] h = tt
  below_items j (a_name s p ∷ is) h = (number_among names s h.0, below_items (j + 1) is h.1)
  below_items j (a_literal s p n c ∷ is) h = (tt, below_items (j + 1) is h)

  counted : (j : ℕ) (is : List SourceItem) → length (items_of (alternative_from (numbered_item names) j is)) ≡ length is
  counted j is = ap length (take_at (items_from (numbered_item names) j is) (drop (length is) (replicate 6 Vacant)) (length is) (length-items_from (numbered_item names) j is)) ∙ length-items_from (numbered_item names) j is

  plain : (j : ℕ) (is : List SourceItem) → length is ≤ 6 → UsesAmong names is → Plain (length names) (alternative_from (numbered_item names) j is)
  plain j is few uses = record {
    few = few;
    six = omega (arith, length-append (items_from (numbered_item names) j is) (drop (length is) (replicate 6 Vacant)), length-items_from (numbered_item names) j is, length-drop (length is) (replicate 6 Vacant));
    names = below-append (length names) (items_from (numbered_item names) j is) (drop (length is) (replicate 6 Vacant)) (below_items j is uses)
        (below-drop (length names) (length is) (replicate 6 Vacant) (tt, (tt, (tt, (tt, (tt, (tt, tt)))))));
  }

  row : (j : ℕ) (alts : List (List SourceItem)) → ((is : List SourceItem) → Among is alts → length is ≤ 6) → UsesAmong names (flat alts) → Row (length names) j (alternatives_from (numbered_item names) j alts)
  row j [] six uses = tt
  row j (is ∷ alts) six uses =
      let u = uses_parts names is (flat alts) uses in
      (plain j is (six is (inl refl)) u.0, refl, subst (λ (n : ℕ). Row (length names) n (alternatives_from (numbered_item names) (j + length is) alts)) (ap (λ n. j + n) (sym (counted j is))) (row (j + length is) alts (λ x h. six x (inr h)) u.1))

  all_held : (j : ℕ) (alts : List (List SourceItem)) → held (alternatives_from (numbered_item names) j alts) ≡ length (flat alts)
  all_held j [] = refl
  all_held j (is ∷ alts) = ap₂ ◌+◌ (counted j is) (all_held (j + length is) alts) ∙ sym (length-append is (flat alts))

-- Rules

runs : (a : ℕ) (rs : List SourceRule) → Runs a (rules_from a rs) (a + length (alternatives_of rs))
runs a [] = sym (add-zero a)
runs a (r ∷ rs) =
    let e : (a + length r.alternatives) + length (alternatives_of rs) ≡ a + length (alternatives_of (r ∷ rs)) = omega (arith, length-append r.alternatives (alternatives_of rs)) in
    (refl, subst (Runs (a + length r.alternatives) (rules_from (a + length r.alternatives) rs)) e (runs (a + length r.alternatives) rs))

texts : (a : ℕ) (rs : List SourceRule) → map (λ (r : Rule). text_of r.label) (rules_from a rs) ≡ names_of rs
texts a [] = refl
texts a (r ∷ rs) = ap₂ ◌∷◌ (take_at r.name (drop (length r.name) (replicate 24 0)) (length r.name) refl) (texts (a + length r.alternatives) rs)

pub draft_formed : (f : List ℕ) (l : Lists) → FamilyFile f l → Formed l
draft_formed f l h =
    let rs = h.rules in
    let k = h.file.kept in
    let many = rules_count 0 rs in
    let named = length-map rs (λ (r : SourceRule). r.name) in
    let whole : Whole (length (names_of rs)) (draft_of rs) = record {
      few_rules = omega (arith, k.few_names);
      few_alternatives = omega (arith, k.few_alternatives, length-alternatives_from (numbered_item (names_of rs)) 0 (alternatives_of rs));
      few_items = omega (arith, k.few_items, length-map (items_in_file rs) item_label);
      runs = subst (Runs 0 (rules_from 0 rs)) (zero-add (length (alternatives_of rs)) ∙ sym (length-alternatives_from (numbered_item (names_of rs)) 0 (alternatives_of rs))) (runs 0 rs);
      row = row (names_of rs) 0 (alternatives_of rs) k.six h.defined;
      labelled = length-map (items_in_file rs) item_label ∙ sym (all_held (names_of rs) 0 (alternatives_of rs));
    } in
    subst Formed (sym h.draft) (whole_formed (draft_of rs) (subst (λ (m : ℕ). Whole m (draft_of rs)) (named ∙ sym many) whole))

pub draft_differs : (f : List ℕ) (l : Lists) → FamilyFile f l → NamesDiffer l
draft_differs f l h = subst NamesDiffer (sym h.draft) (subst Distinct (sym (texts 0 h.rules)) h.file.kept.new)
