-- The number, the place and the length of each refusal, for all cases. Assumes nothing.
use Rattle.std.specs.Prelude.{ℕ, List, ◌∷◌, ◌++◌, decimal, Ok, Err, Result}
use Rattle.files.specs.declared.fault.Fault.{Fault}
use Rattle.files.specs.declared.fault.Fault.TheVariants.{FileTooLong, StrayByte, LongName, BadLiteral, LongDigits, Unexpected, NameTaken, NoRoom, NoRule, UndefinedName, EmptyCycle, TopTooLarge, TableTooShort, WrongEntry, UnknownName, SizeTooLarge, TotalCapped, NumberTooLarge, StackTooShort, ListTooShort, UnknownChoice, WrongEnd, PageTooShort, BadRange, NothingDue, TooFewDue, OutOfMemory}

-- which question was answered no; 0 where memory was wanting
abbrev pub fault_number : Fault → ℕ
fault_number FileTooLong = 1
fault_number (StrayByte p) = 2
fault_number (LongName at) = 3
fault_number (BadLiteral p) = 4
fault_number (LongDigits at) = 5
fault_number (Unexpected at) = 6
fault_number (NameTaken at) = 7
fault_number (NoRoom at) = 8
fault_number (NoRule p) = 9
fault_number (UndefinedName at) = 10
fault_number (EmptyCycle at) = 11
fault_number TopTooLarge = 12
fault_number TableTooShort = 13
fault_number (WrongEntry i) = 14
fault_number UnknownName = 15
fault_number SizeTooLarge = 16
fault_number TotalCapped = 17
fault_number NumberTooLarge = 18
fault_number StackTooShort = 19
fault_number ListTooShort = 20
fault_number (UnknownChoice p) = 21
fault_number (WrongEnd at) = 22
fault_number PageTooShort = 23
fault_number BadRange = 24
fault_number NothingDue = 25
fault_number TooFewDue = 26
fault_number OutOfMemory = 0

-- where; 0 where nothing is said
abbrev pub fault_place : Fault → ℕ
fault_place FileTooLong = 0
fault_place (StrayByte p) = p
fault_place (LongName at) = at.place
fault_place (BadLiteral p) = p
fault_place (LongDigits at) = at.place
fault_place (Unexpected at) = at.place
fault_place (NameTaken at) = at.place
fault_place (NoRoom at) = at.place
fault_place (NoRule p) = p
fault_place (UndefinedName at) = at.place
fault_place (EmptyCycle at) = at.place
fault_place TopTooLarge = 0
fault_place TableTooShort = 0
fault_place (WrongEntry i) = i
fault_place UnknownName = 0
fault_place SizeTooLarge = 0
fault_place TotalCapped = 0
fault_place NumberTooLarge = 0
fault_place StackTooShort = 0
fault_place ListTooShort = 0
fault_place (UnknownChoice p) = p
fault_place (WrongEnd at) = at.place
fault_place PageTooShort = 0
fault_place BadRange = 0
fault_place NothingDue = 0
fault_place TooFewDue = 0
fault_place OutOfMemory = 0

-- how far; 0 where nothing is said
abbrev pub fault_length : Fault → ℕ
fault_length FileTooLong = 0
fault_length (StrayByte p) = 1
fault_length (LongName at) = at.length
fault_length (BadLiteral p) = 1
fault_length (LongDigits at) = at.length
fault_length (Unexpected at) = at.length
fault_length (NameTaken at) = at.length
fault_length (NoRoom at) = at.length
fault_length (NoRule p) = 0
fault_length (UndefinedName at) = at.length
fault_length (EmptyCycle at) = at.length
fault_length TopTooLarge = 0
fault_length TableTooShort = 0
fault_length (WrongEntry i) = 1
fault_length UnknownName = 0
fault_length SizeTooLarge = 0
fault_length TotalCapped = 0
fault_length NumberTooLarge = 0
fault_length StackTooShort = 0
fault_length ListTooShort = 0
fault_length (UnknownChoice p) = 1
fault_length (WrongEnd at) = at.length
fault_length PageTooShort = 0
fault_length BadRange = 0
fault_length NothingDue = 0
fault_length TooFewDue = 0
fault_length OutOfMemory = 0

-- the three as they are printed, with spaces between
abbrev pub fault_text : Fault → List ℕ
fault_text e = decimal (fault_number e) ++ (32 ∷ (decimal (fault_place e) ++ (32 ∷ decimal (fault_length e))))

-- what a call answers: a value, or a refusal by its number, place and length
pub data Answer (X : Type 0) : Type 0 where
  granted : X → Answer X
  refused : ℕ → ℕ → ℕ → Answer X

abbrev pub refusal : {X : Type 0} → Fault → Answer X
refusal e = refused (fault_number e) (fault_place e) (fault_length e)

abbrev pub answer : {X Y : Type 0} → (X → Y) → Result X Fault → Answer Y
answer f (Ok x) = granted (f x)
answer f (Err e) = refusal e
