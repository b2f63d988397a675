use Rattle.std.proofs.Common.{◌≡◌, ◌+◌, ◌*◌, ap, arith}
use Rattle.tables.specs.Tables.{top, short, rows_of}
use Rattle.tables.proofs.shape.Shape.new.Goals as goal

pub returns-then-top-gt40 : goal.returns-then-top-gt40
returns-then-top-gt40 c = top (omega arith)

pub returns-then-length-rows : goal.returns-then-length-rows
returns-then-length-rows c =
    let rows : c.row_count-rows.result ≡ rows_of c.args.family.now = omega arith in
    short (omega arith) (omega (arith, ap (λ r. r * (c.args.top + 1)) rows))
