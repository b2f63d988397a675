-- The rule that has a name, where the names differ. Assumes nothing.
use Rattle.std.proofs.Common.{◌≡◌, ℕ, Bool, true, false, not, ltb, List, map, length, Some, None, Decides, sym, refl, ap, ◌∙◌, arith}
use lib.ListN.{length-map, get_or-map}
use Rattle.std.proofs.lemmas.List.Sums.{prefix_len_passes, prefix_len_stops}
use Rattle.std.proofs.lemmas.Slice.Eq.{bytes_eq-Decides}
use Rattle.std.proofs.lemmas.Bool.{both_ways, true≢false, cond_both, ltb-true, ltb-false}
use Rattle.theory.specs.Lists.{Distinct}
use Rattle.theory.proofs.Lists.{getD_once}
use Rattle.files.specs.Items.{text_of}
use Rattle.files.specs.Grammars.{no_rule, rule_at, differs, rule_index, found_name}
use Rattle.files.specs.declared.item.Rule.{Rule}
use Rattle.families.specs.Finds.{Has, Finds}

module _ (rs : List Rule) (s : List ℕ) where
  same_has : (b : Bool) (xs : List ℕ) → Decides b (xs ≡ s) → not b ≡ false → xs ≡ s
  same_has true xs d e = d.0 refl
  same_has false xs d e = absurd (true≢false e)

  pub finds : Distinct (map (λ (r : Rule). text_of r.label) rs) → Finds rs s (found_name rs s)
  finds different = cond_both (ltb (rule_index rs s) (length rs)) (Some (rule_index rs s)) None (Finds rs s)
      (λ e. let low = ltb-true (rule_index rs s) (length rs) e in let here : Has rs (rule_index rs s) s = (low, same_has _ _ (bytes_eq-Decides (text_of (rule_at rs (rule_index rs s)).label) s) (prefix_len_stops (differs s) rs no_rule low)) in (here, λ z h. one different z (rule_index rs s) h here))
      (λ e z h. both_ways (differs s (rule_at rs z)) (ap not ((bytes_eq-Decides (text_of (rule_at rs z).label) s).1 h.1)) (prefix_len_passes (differs s) rs z no_rule (omega (arith, h.0, ltb-false (rule_index rs s) (length rs) e))))
    where
      one : Distinct (map (λ (r : Rule). text_of r.label) rs) → (y z : ℕ) → Has rs y s → Has rs z s → y ≡ z
      one d y z g h =
          getD_once (text_of no_rule.label) (map (λ (r : Rule). text_of r.label) rs) y z d (omega (arith, g.0, length-map rs (λ (r : Rule). text_of r.label))) (omega (arith, h.0, length-map rs (λ (r : Rule). text_of r.label)))
          (get_or-map (λ (r : Rule). text_of r.label) rs y no_rule ∙ g.1 ∙ sym h.1 ∙ sym (get_or-map (λ (r : Rule). text_of r.label) rs z no_rule))
