use Rattle.std.proofs.Common.{◌+◌, sym, ◌∙◌, subst}
use Rattle.tables.specs.declared.level.Level.{Level}
use Rattle.tables.proofs.Levels.{Ranking, ranking_name, ranking_skip}
use Rattle.tables.proofs.level.Level.fill_rank.Goals as goal
use Rattle.tables.proofs.level.Level.fill_rank.Goals.{then-rank, else-rank}

pub loop-y-preserved : goal.loop-y-preserved
loop-y-preserved g c =
    let o = g.K.WeightKind.kind in
    let laws = g.met.K.WeightKind.laws in
    let y = c.loop-y.y in
    let more = λ (u : Level _). Ranking o c.args.rank (y + 1) c.args.self.now u in
    elim c.if-rank.branch [
      | then-rank w ↦ subst more (sym w.self-is) (ranking_name o laws c.args.rank y c.args.self.now c.loop-y.self w.fill_name.new.self w.fill_name.ensures c.loop-y.invariant)
      | else-rank w ↦ subst more (sym w.self-is) (ranking_skip o laws c.args.rank y c.args.self.now c.loop-y.self (λ e. w.if-rank.false (c.rank.ensures ∙ e)) c.loop-y.invariant)
    ]
