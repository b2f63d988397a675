use Rattle.std.proofs.Common.{◌<◌, get_or, sym}
use Rattle.tables.proofs.Levels.{ready_lower, name_filled, name_empty}
use Rattle.tables.proofs.level.Level.fill_name.Goals as goal

pub returns-then-not-nullable : goal.returns-then-not-nullable
returns-then-not-nullable g c =
    name_empty g.K.WeightKind.kind g.met.K.WeightKind.laws c.args.y c.args.self.now c.requires.there c.requires.ready c.if-self-eq0.true (sym c.if-not-nullable.ensures)

pub fill_alternatives-requires-clause-lower : goal.fill_alternatives-requires-clause-lower
fill_alternatives-requires-clause-lower g c =
    let f = c.args.self.now.family.now in
    ready_lower g.K.WeightKind.kind g.met.K.WeightKind.laws (λ z. get_or f.ranks z 0 < get_or f.ranks c.args.y 0) c.args.self.now c.requires.ready

pub returns : goal.returns
returns g c =
    name_filled g.K.WeightKind.kind g.met.K.WeightKind.laws c.args.y c.name_total-total.result c.args.self.now c.fill_alternatives.new.self c.put.new.self c.requires.there c.requires.ready
    c.fill_alternatives.ensures c.name_total-total.ensures c.put.ensures.kept c.put.ensures.put
