-- Tokens and their places in a file. Assumes nothing.
use Rattle.std.specs.Prelude.{ℕ, ◌+◌, cond, ◌&&◌, List, length, take, drop, Some, None, Ok, Err, Option, Result, ◌==◌, nat_le, nat_lt, slice_index, slice_index_or}
use Rattle.std.specs.List.{prefix_len}
use Rattle.files.specs.Bytes.{blank, letter, digit, plain, name_byte}
use Rattle.files.specs.Faults.{fault_number, fault_place, fault_length}
use Rattle.files.specs.declared.fault.Fault.{Fault}
use Rattle.files.specs.declared.token.Token.{Token}
use Rattle.files.specs.declared.token.Token.TheVariants.{Name, Literal, Digits, Equals, Bar, Semicolon, Colon, At}
use Rattle.files.specs.declared.token.Spanned.{Spanned}

-- a token by what it says
pub data Word : Type 0 where
  name : List ℕ → Word
  literal : List ℕ → Word
  digits : List ℕ → Word
  equals : Word
  bar : Word
  semicolon : Word
  colon : Word
  at : Word

abbrev pub word_of : Token → Word
word_of (Name t) = name t.bytes.now
word_of (Literal t) = literal t.bytes.now
word_of (Digits t) = digits t.bytes.now
word_of Equals = equals
word_of Bar = bar
word_of Semicolon = semicolon
word_of Colon = colon
word_of At = at

-- what is found at a place: no more token, a token with its place and length, or a refusal
pub data Scan : Type 0 where
  end : Scan
  found : Word → ℕ → ℕ → Scan
  wrong : ℕ → ℕ → ℕ → Scan

abbrev pub scan_fault : Fault → Scan
scan_fault e = wrong (fault_number e) (fault_place e) (fault_length e)

abbrev pub scan_token : Spanned → Scan
scan_token s = found (word_of s.token) s.at.place s.at.length

abbrev pub scan_step : Option Spanned → Scan
scan_step (Some s) = scan_token s
scan_step None = end

abbrev pub scan_of : Result (Option Spanned) Fault → Scan
scan_of (Ok o) = scan_step o
scan_of (Err e) = scan_fault e

-- a name: a letter and then all that may stand in a name, at most 24 bytes
abbrev pub name_at : List ℕ → ℕ → Scan
name_at f p =
    let n : ℕ = 1 + prefix_len name_byte (drop (p + 1) f) in
    cond (nat_le n 24) (found (name (take n (drop p f))) p n) (wrong 3 p n)

-- a digit run: at most four digits
abbrev pub digits_at : List ℕ → ℕ → Scan
digits_at f p =
    let n : ℕ = 1 + prefix_len digit (drop (p + 1) f) in
    cond (nat_le n 4) (found (digits (take n (drop p f))) p n) (wrong 5 p n)

-- a literal: at most 24 plain bytes between two quotation marks
abbrev pub literal_at : List ℕ → ℕ → Scan
literal_at f p =
    let n : ℕ = prefix_len plain (drop (p + 1) f) in
    cond (nat_le n 24 && slice_index f (p + 1 + n) == 0x22) (found (literal (take n (drop (p + 1) f))) p (n + 2)) (wrong 4 p 1)

-- the token that begins at p, by its first byte
abbrev pub token_at : List ℕ → ℕ → Scan
token_at f p =
    let b : ℕ = slice_index_or f p 0 in
    cond (b == 0x3d) (found equals p 1)
    (cond (b == 0x7c) (found bar p 1)
    (cond (b == 0x3b) (found semicolon p 1)
    (cond (b == 0x3a) (found colon p 1)
    (cond (b == 0x40) (found at p 1)
    (cond (b == 0x22) (literal_at f p)
    (cond (letter b) (name_at f p)
    (cond (digit b) (digits_at f p)
    (wrong 2 p 1))))))))

-- the first token at or behind p, blanks passed over
abbrev pub scan : List ℕ → ℕ → Scan
scan f p =
    let q : ℕ = p + prefix_len blank (drop p f) in
    cond (nat_lt q (length f)) (token_at f q) end

-- where reading goes on after a scan from p in a file of n bytes
abbrev pub next_place : ℕ → ℕ → Scan → ℕ
next_place p n end = n
next_place p n (found w q m) = q + m
next_place p n (wrong k q m) = p
