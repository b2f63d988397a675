-- Pages and their marks. Assumes nothing.
use Rattle.std.specs.Prelude.{◌≡◌, ℕ, ◌+◌, ◌<◌, ◌≤◌, List, ◌++◌, length, take, drop, Ok, Err, Result}
use Rattle.files.specs.declared.fault.Fault.{Fault}
use Rattle.files.specs.declared.fault.Fault.TheVariants.{UnknownName, StackTooShort, PageTooShort}

-- the page with the text at m
abbrev pub written : List ℕ → ℕ → List ℕ → List ℕ
written page m text = take m page ++ (text ++ drop (m + length text) page)

-- the text was put behind the mark m and the mark moved past it; or it does not fit, and nothing changed
abbrev pub Puts : Result (Unit {0}) Fault → List ℕ → List ℕ → ℕ → ℕ → List ℕ → Type 0
Puts (Ok x) p q m n text = (m + length text ≤ length p) × (q ≡ written p m text) × (n ≡ m + length text)
Puts (Err e) p q m n text = (e ≡ PageTooShort) × (length p < m + length text) × (q ≡ p) × (n ≡ m)

-- what stood before the mark stands there, and the mark did not go back or past the page's end
pub record Kept (p q : List ℕ) (m n : ℕ) : Type 0 where
  pub front : take m q ≡ take m p
  pub forward : m ≤ n
  pub within : n ≤ length p

-- printing a layout of the name y, of `names` that there are, with `places` on the stack
abbrev pub Prints : Result (Unit {0}) Fault → ℕ → ℕ → List ℕ → ℕ → List ℕ → List ℕ → ℕ → ℕ → Type 0
Prints (Ok x) names y list places p q m n = (y < names) × (length list ≤ places) × Kept p q m n
Prints (Err e) names y list places p q m n = (names ≤ y → e ≡ UnknownName) × (y < names → places < length list → e ≡ StackTooShort) × (take m q ≡ take m p) × (n ≡ m)
