-- What an adopted family keeps: the names that can be empty, and ranks. Assumes nothing.
use Rattle.std.specs.Prelude.{◌≡◌, ℕ, ◌<◌, Bool, true, false, List, length, slice_index, slice_index_or}
use Rattle.theory.specs.Families.{Family as Rules}
use Rattle.theory.specs.Nullable.{leads, Adopted}
use Rattle.files.specs.Grammars.{Lists}
use Rattle.files.specs.Models.{model, Formed}

-- the set of names that an array of flags marks
abbrev pub marked : List Bool → ℕ → Bool
marked bs y = slice_index_or bs y false

-- numbers that fall along every step
pub record RankedBy (F : Rules) (nul : ℕ → Bool) (rank : ℕ → ℕ) : Type 0 where
  pub low : (y : ℕ) → y < length F → rank y < length F
  pub falls : (x y : ℕ) → leads F nul x y ≡ true → rank y < rank x

-- what an adopted family keeps
pub record Sound (l : Lists) (nullable : List Bool) (ranks : List ℕ) : Type 0 where
  pub formed : Formed l
  pub adopted : Adopted (model l) (marked nullable)
  pub ranked : RankedBy (model l) (marked nullable) (λ y. slice_index ranks y)
