-- What is read by the relation is what the definition computes. Assumes nothing.
use Rattle.std.proofs.Common.{◌≡◌, ℕ, zero, suc, ◌+◌, ◌<◌, ◌≤◌, Bool, true, false, cond, leb, List, length, MatchBool, sym, ap, ◌∙◌, arith}
use Rattle.files.specs.Faults.{Answer, refused}
use Rattle.files.specs.Scans.{scan}
use Rattle.files.specs.Grammars.{Lists}
use Rattle.files.specs.Steps.{Reading, fresh}
use Rattle.files.specs.Files.{next, read_on, read_file, Reads, ends, goes, stops, fails, ReadsFile}

on : (f : List ℕ) {p : ℕ} {r : Reading} {a : Answer Lists} (n : ℕ) → Reads f p r a → p ≤ length f → length f < p + n → read_on f n r (scan f p) ≡ a
unfolding read_on
on f n (ends {p} {r} {a} e c) h k = ap (read_on f n r) e ∙ c
on f n (fails {p} {k} {i} {j} {r} e) h l = ap (read_on f n r) e
on f zero (goes {p} {r} {s} {a} w q m e b i c t) h k = absurd (omega arith)
on f (suc n) (goes {p} {r} {s} {a} w q m e b i c t) h k =
    ap (read_on f (suc n) r) e ∙ ap (λ x. next x (λ z. read_on f n z (scan f (q + m)))) c ∙ on f n t i (omega arith)
on f zero (stops {p} {k} {i} {j} {r} w q m e c) h l = absurd (omega arith)
on f (suc n) (stops {p} {k} {i} {j} {r} w q m e c) h l = ap (read_on f (suc n) r) e ∙ ap (λ x. next x (λ z. read_on f n z (scan f (q + m)))) c

pub file_read : (f : List ℕ) (a : Answer Lists) → ReadsFile f a → a ≡ read_file f
unfolding read_file
file_read f a h = go (leb (length f) 16384) h
  where
    go : (b : Bool) → MatchBool b (Reads f 0 fresh a) (a ≡ refused 1 0 0) → a ≡ cond b (read_on f (suc (length f)) fresh (scan f 0)) (refused 1 0 0)
    go true k = sym (on f (suc (length f)) k (omega arith) (omega arith))
    go false k = k
