use Rattle.std.proofs.Common.{rules, ◌≡◌, true, false}
use Rattle.std.proofs.lemmas.Iterator.{first_from_Range}
use Rattle.families.specs.Reaches.{pair}
use Rattle.families.proofs.relation.Relation.first_cycle.Goals as goal

pub returns : goal.returns
returns c =
    let first = first_from_Range _ _ _ _ (λ k. pair c.args.self.now.rows k k ≡ true) (λ k. pair c.args.self.now.rows k k ≡ false) c.find.ensures.ran (λ x q k. search rules) (λ x q k. search rules) in
    search (rules, first)
