use Rattle.std.proofs.Common.{sym, subst}
use Rattle.files.specs.Grammars.{lists_of}
use Rattle.files.proofs.Facts.{differ_out}
use Rattle.families.specs.Finds.{Finds}
use Rattle.families.proofs.Found.{finds}
use Rattle.families.proofs.family.Family.find.Goals as goal

-- the names of a family differ
pub returns-clause-finds : goal.returns-clause-finds
returns-clause-finds c =
    let f = c.args.self.now in
    let rules = f.grammar.rules.items in
    subst (Finds rules c.args.name.now) (sym c.index.ensures.value) (finds rules c.args.name.now (differ_out (lists_of f.grammar) f.names_differ))
