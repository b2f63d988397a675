-- The fact that a family keeps, taken out again. Assumes nothing.
use Rattle.std.proofs.Common.{ℕ, Bool, List}
use mathlib.Core.Bool.{Bool-set}
use mathlib.Core.HLevel.{⊥_prop}
use mathlib.Core.Logic.{∥∥₁_elim}
use native.Mathlib.Bridge.{le_prop}
use Rattle.files.specs.Grammars.{Lists}
use Rattle.files.proofs.Facts.{formed_out}
use Rattle.families.specs.Sound.{Sound}

pub sound_out : (l : Lists) (nullable : List Bool) (ranks : List ℕ) → ∥ Sound l nullable ranks ∥₁ → Sound l nullable ranks
sound_out l nullable ranks told =
    let formed = formed_out l (∥∥₁_elim told squash₁ (λ s. ∣ s.formed ∣₁)) in
    record {
      formed = formed;
      adopted = record {
        defined = formed.defined;
        nullable = record {
          closed = λ y a h e. ∥∥₁_elim told (Bool-set _ _) (λ s. s.adopted.nullable.closed y a h e);
          least = λ P h y k e. ∥∥₁_elim told (Bool-set _ _) (λ s. s.adopted.nullable.least P h y k e);
        };
        acyclic = λ x h. ∥∥₁_elim told ⊥_prop (λ s. s.adopted.acyclic x h);
      };
      ranked = record {
        low = λ y h. ∥∥₁_elim told le_prop (λ s. s.ranked.low y h);
        falls = λ x y h. ∥∥₁_elim told le_prop (λ s. s.ranked.falls x y h);
      };
    }
