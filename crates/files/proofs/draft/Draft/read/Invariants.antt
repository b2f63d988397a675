use Rattle.std.proofs.Common.{◌≡◌, ◌-◌, length}
use Rattle.files.specs.Faults.{Answer}
use Rattle.files.specs.Grammars.{Lists, lists_of}
use Rattle.files.specs.Steps.{fresh, reading_of}
use Rattle.files.specs.Files.{Reads}
use Rattle.files.proofs.draft.Draft.read.Given as goal

abbrev pub invariant-loop-t : goal.invariant-loop-t
invariant-loop-t l = (l.lexer.file.now ≡ l.file) × ((a : Answer Lists) → Reads l.file l.lexer.at (reading_of l.self.reader) a → Reads l.file 0 fresh a) × (lists_of l.self.grammar ≡ lists_of l.initial.self.grammar)

abbrev pub decreases-loop-t : goal.decreases-loop-t
decreases-loop-t l = length l.file - l.lexer.at
