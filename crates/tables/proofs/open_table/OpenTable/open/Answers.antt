use Rattle.std.proofs.Common.{ℕ, refl, ◌∙◌, subst}
use Rattle.std.proofs.lemmas.Result.{err_from_is_err_and}
use Rattle.tables.specs.Counts.{count_kind}
use Rattle.tables.specs.Tables.{rules_of, Totals}
use Rattle.tables.specs.Openings.{FirstWrong, no_room, wrong}
use Rattle.tables.proofs.Stored.{rows-model}
use Rattle.tables.proofs.open_table.OpenTable.open.Goals as goal

pub first_wrong-requires-clause-rows : goal.first_wrong-requires-clause-rows
first_wrong-requires-clause-rows c = c.in_ok-shape.ensures.1 ∙ rows-model c.args.family.now

pub returns-in_err-shape : goal.returns-in_err-shape
returns-in_err-shape c =
    let p = err_from_is_err_and c.from_residual.result c.from_residual.ensures.1 in
    rw (p.1, p.2) (refl, no_room _ c.in_err-shape.ensures)

pub returns-in-Some : goal.returns-in-Some
returns-in-Some c =
    let fits = c.in_ok-shape.ensures in
    (refl, wrong c.in-Some.index fits.0 (subst (λ (n : ℕ). FirstWrong (rules_of c.args.family.now) n c.args.table.now c.in-Some.index) fits.2 c.in-Some.ensures))

pub returns : goal.returns
returns c =
    let f = c.args.family.now in
    let fits = c.in_ok-shape.ensures in
    record {
      checked = _;
      here = refl;
      of_family = refl;
      of_table = refl;
      of_top = fits.2;
      room = fits.0;
      totals = subst (λ (n : ℕ). Totals count_kind (rules_of f) n c.args.table.now) fits.2 c.in_default.ensures;
    }
