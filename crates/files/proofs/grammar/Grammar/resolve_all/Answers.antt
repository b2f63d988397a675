use Rattle.std.proofs.Common.{sym, ◌∙◌, arith}
use Rattle.files.specs.Files.{resolved_alternative}
use Rattle.files.proofs.Each.{onward}
use Rattle.files.proofs.grammar.Grammar.resolve_all.Goals as goal

pub loop-a-preserved : goal.loop-a-preserved
loop-a-preserved c =
    let i = c.loop-a.invariant in
    let here = sym (c.in_ok-self.ensures ∙ λ j. resolved_alternative (i.1 j) (i.2 j) (c.index.ensures j)) in
    (onward _ _ c.loop-a.a _ c.index.result.now _ (omega arith) i.0 here, i.1, i.2)
