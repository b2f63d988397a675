-- Sweeps that mark the names that can be empty. Assumes nothing.
use Rattle.std.proofs.Common.{◌≡◌, ℕ, zero, suc, ◌+◌, ◌<◌, ◌≤◌, Bool, false, List, [], length, replicate, sym, refl, ap, ◌∙◌, ⊎_elim, add-one, arith}
use Rattle.std.proofs.lemmas.Bool.{cases_lt}
use Rattle.std.proofs.lemmas.List.{get_or_past}
use Rattle.theory.specs.Lists.{any}
use Rattle.theory.specs.Nullable.{all_empty, sweep, swept}
use Rattle.files.specs.Grammars.{lists_of}
use Rattle.files.specs.declared.draft.Draft.{Draft}
use Rattle.files.proofs.Facts.{formed_out}
use Rattle.files.proofs.Places.{names_are}
use Rattle.families.specs.Sound.{marked}
use Rattle.families.specs.Reaches.{rules_of}

none : (n y : ℕ) → marked (replicate n false) y ≡ false
none zero y = refl
none (suc n) zero = refl
none (suc n) (suc y) = none n y

module _ (d : Draft) where
  -- before the first sweep
  pub unswept : marked (replicate 32 false) ≡ swept (rules_of d) 0
  unswept i y = none 32 y i

  -- after one sweep more
  pub swept_more : (bs cs : List Bool) (k : ℕ) → length cs ≡ 32 → marked bs ≡ swept (rules_of d) k → ((y : ℕ) → y < 32 → marked cs y ≡ sweep (rules_of d) (marked bs) y) → marked cs ≡ swept (rules_of d) (k + 1)
  swept_more bs cs k long so_far h = (λ i y. each y i) ∙ ap (swept (rules_of d)) (sym (add-one k))
    where
      few : length (rules_of d) ≤ 32
      few = omega (arith, names_are (lists_of d.grammar), (formed_out (lists_of d.grammar) d.formed).few_rules)

      each : (y : ℕ) → marked cs y ≡ swept (rules_of d) (suc k) y
      each y = ⊎_elim
          (λ (l : y < 32). h y l ∙ ap (λ P. sweep (rules_of d) P y) so_far)
          (λ (l : 32 ≤ y). get_or_past cs y false (omega arith) ∙ sym (ap (any (all_empty (swept (rules_of d) k))) (get_or_past (rules_of d) y [] (omega (arith, few)))))
          (cases_lt y 32)
