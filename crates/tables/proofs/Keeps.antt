-- What an adopted family keeps, as far as it is a proposition. Assumes nothing.
use Rattle.std.proofs.Common.{◌≡◌, ℕ, ◌+◌, ◌<◌, ◌≤◌, Bool, List, [], ◌∷◌, length, get_or, refl}
use mathlib.Core.Bool.{Bool-set}
use mathlib.Core.Logic.{∥∥₁_elim}
use native.Mathlib.Bridge.{le_prop}
use native.Mathlib.Nat.{ℕ_set}
use Rattle.theory.specs.Families.{Item as Symbol, name, literal, Family as Rules, alternative, Known, first_item, item_count}
use Rattle.theory.specs.Nullable.{Adopted}
use Rattle.files.specs.Grammars.{Lists, lists_of, rule_at, alternative_at}
use Rattle.files.specs.Models.{model}
use Rattle.families.specs.Sound.{marked, RankedBy, Sound}
use Rattle.families.specs.declared.family.Family.{Family}

-- the lists fit together
pub record Fitting (l : Lists) : Type 0 where
  pub few : length l.alternatives ≤ 64
  pub inside : (y : ℕ) → y < length l.rules → (rule_at l.rules y).first + (rule_at l.rules y).count ≤ length l.alternatives
  pub six : (i : ℕ) → i < length l.alternatives → ((alternative_at l.alternatives i).count ≤ 6) × (length (alternative_at l.alternatives i).items ≡ 6)
  pub numbered : (y a : ℕ) → y < length l.rules → a < (rule_at l.rules y).count → (alternative_at l.alternatives ((rule_at l.rules y).first + a)).first ≡ first_item (model l) y a
  pub counted : item_count (model l) ≡ length l.labels

fitting_prop : (l : Lists) → IsProp (Fitting l)
fitting_prop l p q = λ i. record {
  few = le_prop p.few q.few i;
  inside = λ y h. le_prop (p.inside y h) (q.inside y h) i;
  six = λ k h. (le_prop (p.six k h).0 (q.six k h).0 i, ℕ_set _ _ (p.six k h).1 (q.six k h).1 i);
  numbered = λ y a h w. ℕ_set _ _ (p.numbered y a h w) (q.numbered y a h w) i;
  counted = ℕ_set _ _ p.counted q.counted i;
}

known_prop : (m : ℕ) (is : List Symbol) → IsProp (Known m is)
known_prop m [] p q = refl
known_prop m (literal t s c ∷ is) p q = known_prop m is p q
known_prop m (name y ∷ is) p q = λ i. (le_prop p.0 q.0 i, known_prop m is p.1 q.1 i)

adopted_prop : (F : Rules) (nul : ℕ → Bool) → IsProp (Adopted F nul)
adopted_prop F nul p q = λ i. record {
  defined = λ y a. known_prop (length F) (alternative F y a) (p.defined y a) (q.defined y a) i;
  nullable = record {
    closed = λ y a h e. Bool-set _ _ (p.nullable.closed y a h e) (q.nullable.closed y a h e) i;
    least = λ P c y h e. Bool-set _ _ (p.nullable.least P c y h e) (q.nullable.least P c y h e) i;
  };
  acyclic = λ x c. none (p.acyclic x c) (q.acyclic x c) i;
}
  where
    none : (a b : ⊥) → a ≡ b
    none a b = absurd a

ranked_prop : (F : Rules) (nul : ℕ → Bool) (rank : ℕ → ℕ) → IsProp (RankedBy F nul rank)
ranked_prop F nul rank p q = λ i. record {
  low = λ y h. le_prop (p.low y h) (q.low y h) i;
  falls = λ x y e. le_prop (p.falls x y e) (q.falls x y e) i;
}

pub record Keeps (f : Family) : Type 0 where
  pub fitting : Fitting (lists_of f.grammar)
  pub adopted : Adopted (model (lists_of f.grammar)) (marked f.nullable)
  pub ranked : RankedBy (model (lists_of f.grammar)) (marked f.nullable) (λ y. get_or f.ranks y 0)

keeps_prop : (f : Family) → IsProp (Keeps f)
keeps_prop f p q = λ i. record {
  fitting = fitting_prop _ p.fitting q.fitting i;
  adopted = adopted_prop _ _ p.adopted q.adopted i;
  ranked = ranked_prop _ _ _ p.ranked q.ranked i;
}

pub keeps : (f : Family) → Keeps f
keeps f = ∥∥₁_elim f.sound (keeps_prop f) from
  where
    from : Sound (lists_of f.grammar) f.nullable f.ranks → Keeps f
    from s = record {
      fitting = record { few = s.formed.few_alternatives; inside = s.formed.inside; six = s.formed.six; numbered = s.formed.numbered; counted = s.formed.counted };
      adopted = s.adopted;
      ranked = s.ranked;
    }
