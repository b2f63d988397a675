use Rattle.std.proofs.Common.{rules, ◌∙◌}
use borrow.Author.Tests.{tests}
use Rattle.std.proofs.lemmas.Iterator.{YieldsList-from_slice}
use Rattle.std.proofs.lemmas.Iterator.Search.{all_from_yields_List}
use Rattle.theory.specs.Nullable.{item_empty}
use Rattle.families.specs.Sound.{marked}
use Rattle.families.specs.Reaches.{symbol}
use Rattle.families.proofs.Alternatives.{all_listed}
use Rattle.families.proofs.marks.Marks.all_empty.Goals as goal

pub returns : goal.returns
returns c =
    all_from_yields_List (λ i. item_empty (marked c.args.self.now.nullable) (symbol c.args.self.now.draft.now i)) _ _ _ c.all.ensures.ran (YieldsList-from_slice c.args.items.now (cc)) (λ x b q k. search (rules, tests))
    ∙ all_listed _ _ c.args.items.now
