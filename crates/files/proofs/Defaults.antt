-- What stands in the place of a label or a rule that is not there. Assumes nothing.
use Rattle.std.proofs.Common.{◌≡◌, ℕ, zero, suc, ◌<◌, List, [], ◌∷◌, length, get_or, replicate, refl, ap₂, arith}
use Rattle.std.specs.Array.{AllOfLen}
use Rattle.files.specs.Grammars.{no_label, no_rule}
use Rattle.files.specs.declared.item.Label.{Label}
use Rattle.files.specs.declared.item.Rule.{Rule}

zeros : (xs : List ℕ) (n : ℕ) → length xs ≡ n → ((i : ℕ) (d : ℕ) → i < n → get_or xs i d ≡ 0) → xs ≡ replicate n 0
zeros [] zero h z = refl
zeros [] (suc n) h z = absurd (omega arith)
zeros (x ∷ xs) zero h z = absurd (omega arith)
zeros (x ∷ xs) (suc n) h z = ap₂ ◌∷◌ (z 0 0 (omega arith)) (zeros xs n (omega arith) (λ i d l. z (suc i) d (omega arith)))

-- what a default label is
abbrev pub IsNoLabel : Label → Type 0
IsNoLabel l = AllOfLen (λ b. b ≡ 0) l.bytes 24 × ((l.length ≡ 0) × (l.place ≡ 0))

pub label_default : (l : Label) → IsNoLabel l → l ≡ no_label
label_default l h = let e = zeros l.bytes 24 h.0.long (λ i d k. h.0.at i d k) in λ j. record { bytes = e j; length = h.1.0 j; place = h.1.1 j }

pub rule_default : (r : Rule) → IsNoLabel r.label × ((r.first ≡ 0) × (r.count ≡ 0)) → r ≡ no_rule
rule_default r h = λ j. record { label = label_default r.label h.0 j; first = h.1.0 j; count = h.1.1 j }
