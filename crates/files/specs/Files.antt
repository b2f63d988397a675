-- How a whole file is read. Assumes nothing.
use Rattle.std.specs.Prelude.{◌≡◌, ℕ, zero, suc, ◌+◌, ◌<◌, ◌≤◌, cond, List, [], ◌∷◌, length, Ok, Err, MatchBool, Result, nat_le, nat_lt}
use Rattle.files.specs.Faults.{Answer, granted, refused, refusal}
use Rattle.files.specs.Scans.{Word, Scan, end, found, wrong, scan}
use Rattle.files.specs.Items.{text_of}
use Rattle.files.specs.Grammars.{Lists, rule_index, label_at}
use Rattle.files.specs.Steps.{Reading, fresh, stepped}
use Rattle.files.specs.declared.fault.Fault.{Fault}
use Rattle.files.specs.declared.item.Item.{Item}
use Rattle.files.specs.declared.item.Item.TheVariants.{Vacant, Use, Name, Literal}
use Rattle.files.specs.declared.item.Label.{Label}
use Rattle.files.specs.declared.item.Alternative.{Alternative}
use Rattle.files.specs.declared.item.Rule.{Rule}
use Rattle.files.specs.declared.state.State.{State}
use Rattle.files.specs.declared.state.State.TheVariants.{Outside, Named, Items, AfterLiteral, AfterColon, AfterSize, AfterAt}

-- what comes after a value, unless it was refused
abbrev pub next : {X Y : Type 0} → Answer X → (X → Answer Y) → Answer Y
next (granted x) f = f x
next (refused k p n) f = refused k p n

-- f on each in turn, the first refusal deciding
abbrev pub each : {X Y : Type 0} → (X → Answer Y) → List X → Answer (List Y)
each f [] = granted []
each f (x ∷ xs) = next (f x) (λ y. next (each f xs) (λ ys. granted (y ∷ ys)))

-- the name that a label says, by its number
abbrev pub resolved_use : List Rule → Label → Answer Item
resolved_use rs t = cond (nat_lt (rule_index rs (text_of t)) (length rs)) (granted (Name (rule_index rs (text_of t)))) (refused 10 t.place t.length)

abbrev pub resolved_item : List Rule → List Label → Item → Answer Item
resolved_item rs ls Vacant = granted Vacant
resolved_item rs ls (Use t) = resolved_use rs (label_at ls t)
resolved_item rs ls (Name y) = granted (Name y)
resolved_item rs ls (Literal t s c) = granted (Literal t s c)

abbrev pub resolved_alternative : List Rule → List Label → Alternative → Answer Alternative
resolved_alternative rs ls a = next (each (resolved_item rs ls) a.items) (λ is. granted (record { items = is; count = a.count; first = a.first }))

-- all names by their numbers
abbrev pub resolved : Lists → Answer Lists
resolved l = next (each (resolved_alternative l.rules l.labels) l.alternatives) (λ xs. granted (record { rules = l.rules; alternatives = xs; labels = l.labels }))

-- the end of a file of n bytes
abbrev pub closed : State → Lists → ℕ → Answer Lists
closed Outside l n = cond (nat_lt 0 (length l.rules)) (resolved l) (refused 9 n 0)
closed Named l n = refused 6 n 0
closed Items l n = refused 6 n 0
closed AfterLiteral l n = refused 6 n 0
closed AfterColon l n = refused 6 n 0
closed AfterSize l n = refused 6 n 0
closed AfterAt l n = refused 6 n 0

-- Reads f p r a: read on from p of the file f, having read r, the answer is a; each token lies in the file, and ends behind p
pub data Reads (f : List ℕ) : ℕ → Reading → Answer Lists → Type 0 where
  ends : {p : ℕ} {r : Reading} {a : Answer Lists} → scan f p ≡ end → closed r.state r.lists (length f) ≡ a → Reads f p r a
  goes : {p : ℕ} {r s : Reading} {a : Answer Lists} (w : Word) (q m : ℕ) → scan f p ≡ found w q m → p < q + m → q + m ≤ length f → stepped r w q m ≡ granted s → Reads f (q + m) s a → Reads f p r a
  stops : {p k i j : ℕ} {r : Reading} (w : Word) (q m : ℕ) → scan f p ≡ found w q m → stepped r w q m ≡ refused k i j → Reads f p r (refused k i j)
  fails : {p k i j : ℕ} {r : Reading} → scan f p ≡ wrong k i j → Reads f p r (refused k i j)

-- the answer to reading a file
abbrev pub ReadsFile : List ℕ → Answer Lists → Type 0
ReadsFile f a = MatchBool (nat_le (length f) 16384) (Reads f 0 fresh a) (a ≡ refused 1 0 0)

-- The same as a definition that computes

-- having read r, read on from what was found, for at most n tokens
unfoldable pub read_on : List ℕ → ℕ → Reading → Scan → Answer Lists
read_on f n r end = closed r.state r.lists (length f)
read_on f n r (wrong k i j) = refused k i j
read_on f zero r (found w q m) = refused 0 q m
read_on f (suc n) r (found w q m) = next (stepped r w q m) (λ s. read_on f n s (scan f (q + m)))

-- the answer to reading a file: it has no more tokens than bytes, so none is left unread
unfoldable pub read_file : List ℕ → Answer Lists
read_file f = cond (nat_le (length f) 16384) (read_on f (suc (length f)) fresh (scan f 0)) (refused 1 0 0)

-- what reading answered, with the lists after it
abbrev pub lists_answer : Result (Unit {0}) Fault → Lists → Answer Lists
lists_answer (Ok x) l = granted l
lists_answer (Err e) l = refusal e
