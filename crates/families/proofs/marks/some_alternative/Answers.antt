use Rattle.std.proofs.Common.{rules, ap, ◌∙◌}
use borrow.Author.Tests.{tests}
use Rattle.std.proofs.lemmas.Iterator.{YieldsList-from_slice}
use Rattle.std.proofs.lemmas.Iterator.Search.{any_from_yields_List}
use Rattle.std.specs.List.{list_any}
use Rattle.files.specs.Grammars.{rule_at, rule_alternatives}
use Rattle.files.specs.Models.{alternative_model}
use Rattle.families.proofs.Alternatives.{any_stored}
use Rattle.families.proofs.marks.some_alternative.Goals as goal

pub returns : goal.returns
returns g c = λ p says.
    let d = c.args.draft.now in
    let there = c.alternatives.ensures ∙ ap (rule_alternatives c.grammar-grammar.result.now.alternatives.items) c.rule.ensures ∙ ap (λ v. rule_alternatives v.alternatives.items (rule_at v.rules.items c.args.y)) c.grammar-grammar.ensures in
    any_from_yields_List (λ a. p (alternative_model d.grammar.labels.items a)) _ _ _ c.any.ensures.ran (YieldsList-from_slice c.alternatives.result.now (cc)) (λ x b q k. search (rules, tests, says))
    ∙ ap (list_any (λ a. p (alternative_model d.grammar.labels.items a))) there
    ∙ any_stored d c.args.y p
