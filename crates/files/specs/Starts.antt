-- What begins at a place in a file. Assumes nothing.
use Rattle.std.specs.Prelude.{◌≡◌, ℕ, ◌+◌, ◌<◌, ◌≤◌, Bool, List, length, take, drop, Ok, Err, MatchResult, Result}
use Rattle.std.specs.List.{prefix_len}
use Rattle.files.specs.Scans.{word_of, Scan, found, scan_fault}
use Rattle.files.specs.Tokens.{written}
use Rattle.files.specs.declared.fault.Fault.{Fault}
use Rattle.files.specs.declared.fault.Span.{Span}
use Rattle.files.specs.declared.text.Text.{Text}
use Rattle.files.specs.declared.token.Token.{Token}

-- the calls of a closure answer what p says of the byte
abbrev pub Computes : (ℕ → Bool → Type 0) → (ℕ → Bool) → Type 0
Computes post p = (b : ℕ) (r : Bool) → post b r → r ≡ p b

-- a byte at p and then all that pass the test: a text, or the span of one that is too long
abbrev pub RunAt : (ℕ → Bool) → (m : ℕ) → List ℕ → ℕ → Result (Text m) Span → Type 0
RunAt test m f p r =
    let n : ℕ = 1 + prefix_len test (drop (p + 1) f) in
    MatchResult r (λ t. (n ≤ m) × (t.bytes.now ≡ take n (drop p f)) × (length t.bytes.now ≡ n)) (λ s. (m < n) × (s ≡ record { place = p; length = n }))

-- a token that begins at p, or a refusal, as a scan
abbrev pub token_found : ℕ → Result Token Fault → Scan
token_found p (Ok t) = found (word_of t) p (length (written (word_of t)))
token_found p (Err e) = scan_fault e
