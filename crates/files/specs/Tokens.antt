-- A file as blanks and tokens in a row. Assumes nothing.
use Rattle.std.specs.Prelude.{◌≡◌, ℕ, ◌+◌, ◌<◌, ◌≤◌, Bool, true, false, List, [], ◌∷◌, ◌++◌, length, drop}
use Rattle.theory.specs.Lists.{Among}
use Rattle.files.specs.Bytes.{blank, letter, digit, plain, name_byte}
use Rattle.files.specs.Scans.{Word, name, literal, digits, equals, bar, semicolon, colon, at}

-- every byte passes the test
abbrev pub Every : (ℕ → Bool) → List ℕ → Type 0
Every test [] = Unit {0}
Every test (b ∷ bs) = (test b ≡ true) × Every test bs

-- the first byte, if there is one, does not pass the test
abbrev pub Stops : (ℕ → Bool) → List ℕ → Type 0
Stops test [] = Unit {0}
Stops test (b ∷ bs) = test b ≡ false

-- a letter and then letters, digits and underscores
abbrev pub NameText : List ℕ → Type 0
NameText [] = ⊥
NameText (b ∷ bs) = (letter b ≡ true) × Every name_byte bs

-- one digit or more
abbrev pub DigitText : List ℕ → Type 0
DigitText [] = ⊥
DigitText (b ∷ bs) = (digit b ≡ true) × Every digit bs

-- what a word may say: a name has at most 24 bytes, a literal 0 to 24 plain ones, a digit run one to four digits
abbrev pub Proper : Word → Type 0
Proper (name s) = NameText s × (length s ≤ 24)
Proper (literal s) = Every plain s × (length s ≤ 24)
Proper (digits s) = DigitText s × (length s ≤ 4)
Proper equals = Unit {0}
Proper bar = Unit {0}
Proper semicolon = Unit {0}
Proper colon = Unit {0}
Proper at = Unit {0}

-- the bytes that a word is written with: a literal stands between two quotation marks
abbrev pub written : Word → List ℕ
written (name s) = s
written (literal s) = 0x22 ∷ (s ++ (0x22 ∷ []))
written (digits s) = s
written equals = 0x3d ∷ []
written bar = 0x7c ∷ []
written semicolon = 0x3b ∷ []
written colon = 0x3a ∷ []
written at = 0x40 ∷ []

-- names and digit runs are as long as they can be: the bytes behind do not go on with them
abbrev pub EndsBefore : Word → List ℕ → Type 0
EndsBefore (name s) g = Stops name_byte g
EndsBefore (literal s) g = Unit {0}
EndsBefore (digits s) g = Stops digit g
EndsBefore equals g = Unit {0}
EndsBefore bar g = Unit {0}
EndsBefore semicolon g = Unit {0}
EndsBefore colon g = Unit {0}
EndsBefore at g = Unit {0}

-- a word and the place where it stands
pub record Token : Type 0 where
  pub word : Word
  pub place : ℕ

abbrev pub token : Word → ℕ → Token
token w p = record { word = w; place = p }

abbrev pub width : Token → ℕ
width t = length (written t.word)

-- from the place p on the file f has blanks up to the place q, and then the bytes g
pub record AfterBlanks (f : List ℕ) (p q : ℕ) (g : List ℕ) : Type 0 where
  pub blanks : List ℕ
  pub bytes : drop p f ≡ blanks ++ g
  pub all_blank : Every blank blanks
  pub place : q ≡ p + length blanks

-- the next token of the file f, from the place p on, is t
pub record NextToken (f : List ℕ) (p : ℕ) (t : Token) : Type 0 where
  pub rest : List ℕ
  pub stands : AfterBlanks f p t.place (written t.word ++ rest)
  pub proper : Proper t.word
  pub ends : EndsBefore t.word rest

-- from the place p on, and up to the place q, the file f has the tokens ts in a row
abbrev pub Tokens : List ℕ → ℕ → List Token → ℕ → Type 0
Tokens f p [] q = p ≡ q
Tokens f p (t ∷ ts) q = NextToken f p t × Tokens f (t.place + width t) ts q

-- the marks, and the quotation mark
abbrev pub marks : List ℕ
marks = 0x3d ∷ 0x7c ∷ 0x3b ∷ 0x3a ∷ 0x40 ∷ 0x22 ∷ []

-- from the place p on the file f has blanks and then, at q, no token: the refusal's number k, place q and length n
pub data NoToken (f : List ℕ) (p : ℕ) : ℕ → ℕ → ℕ → Type 0 where
  -- a byte that begins neither a token nor a blank
  stray_byte : {q : ℕ} (b : ℕ) (g : List ℕ) → AfterBlanks f p q (b ∷ g) → blank b ≡ false → letter b ≡ false → digit b ≡ false → (Among b marks → ⊥) → NoToken f p 2 q 1
  -- a name of more than 24 bytes
  long_name : {q : ℕ} (s g : List ℕ) → AfterBlanks f p q (s ++ g) → NameText s → Stops name_byte g → 24 < length s → NoToken f p 3 q (length s)
  -- an opening quotation mark, and no literal of 0 to 24 plain bytes that another closes
  bad_literal : {q : ℕ} (g : List ℕ) → AfterBlanks f p q (0x22 ∷ g) → ((s h : List ℕ) → g ≡ s ++ (0x22 ∷ h) → Every plain s → length s ≤ 24 → ⊥) → NoToken f p 4 q 1
  -- a run of more than four digits
  long_digits : {q : ℕ} (s g : List ℕ) → AfterBlanks f p q (s ++ g) → DigitText s → Stops digit g → 4 < length s → NoToken f p 5 q (length s)
