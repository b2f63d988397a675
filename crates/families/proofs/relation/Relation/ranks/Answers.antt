use Rattle.std.proofs.Common.{rules, ◌≡◌, count_by}
use Rattle.std.specs.List.{range_with_len}
use Rattle.families.specs.Reaches.{pair}
use Rattle.families.proofs.Made.{made}
use Rattle.families.proofs.relation.Relation.ranks.Goals as goal

pub returns : goal.returns
returns c = λ y l. made _ _ (λ i r. r ≡ count_by (pair c.args.self.now.rows i) (range_with_len 0 c.args.names)) (λ i r q k. search rules) _ 0 32 y c.from_fn.ensures.items l
