use Rattle.std.proofs.Common.{◌≡◌, vec_items}
use Rattle.files.specs.Files.{resolved_item}
use Rattle.files.proofs.Each.{Partway}
use Rattle.files.proofs.grammar.Grammar.resolve_alternative.Given as goal

abbrev pub invariant-loop-i : goal.invariant-loop-i
invariant-loop-i l = Partway (resolved_item (vec_items l.self.rules) (vec_items l.self.labels)) l.initial.resolved.items l.i l.resolved.items × (l.resolved.count ≡ l.initial.resolved.count) × (l.resolved.first ≡ l.initial.resolved.first)
