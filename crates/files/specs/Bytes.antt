-- The kinds of bytes in a family file. Assumes nothing.
use Rattle.std.specs.Prelude.{ℕ, Bool, not, ◌&&◌, ◌||◌, ◌==◌, nat_le}

-- space, tab, line feed, carriage return
abbrev pub blank : ℕ → Bool
blank b = b == 0x20 || (b == 0x09 || (b == 0x0a || b == 0x0d))

-- A to Z, a to z
abbrev pub letter : ℕ → Bool
letter b = (nat_le 65 b && nat_le b 90) || (nat_le 97 b && nat_le b 122)

-- 0 to 9
abbrev pub digit : ℕ → Bool
digit b = nat_le 48 b && nat_le b 57

-- what may stand in a literal: 20 to 7E without the quotation mark
abbrev pub plain : ℕ → Bool
plain b = nat_le 0x20 b && (nat_le b 0x7e && not (b == 0x22))

-- what may stand in a name, behind its first letter
abbrev pub name_byte : ℕ → Bool
name_byte b = letter b || (digit b || b == 0x5f)
