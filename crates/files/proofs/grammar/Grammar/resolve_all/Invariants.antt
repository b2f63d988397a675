use Rattle.std.proofs.Common.{◌≡◌, vec_items}
use Rattle.files.specs.Files.{resolved_alternative}
use Rattle.files.proofs.Each.{Partway}
use Rattle.files.proofs.grammar.Grammar.resolve_all.Given as goal

abbrev pub invariant-loop-a : goal.invariant-loop-a
invariant-loop-a l = Partway (resolved_alternative (vec_items l.initial.self.rules) (vec_items l.initial.self.labels)) (vec_items l.initial.self.alternatives) l.a (vec_items l.self.alternatives) × (vec_items l.self.rules ≡ vec_items l.initial.self.rules) × (vec_items l.self.labels ≡ vec_items l.initial.self.labels)
