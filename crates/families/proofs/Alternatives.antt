-- Tests of stored alternatives and items, as the family has them that they stand for. Assumes nothing.
use Rattle.std.proofs.Common.{◌≡◌, ℕ, Bool, ◌&&◌, ◌||◌, List, [], ◌∷◌, map, sym, refl, ap, ◌∙◌}
use Rattle.std.specs.List.{list_all, list_any}
use Rattle.theory.specs.Lists.{any}
use Rattle.theory.specs.Families.{Item as Symbol, alternatives}
use Rattle.theory.specs.Nullable.{item_empty, all_empty}
use Rattle.files.specs.Grammars.{lists_of, rule_at, rule_alternatives}
use Rattle.files.specs.Models.{alternative_model}
use Rattle.files.specs.declared.draft.Draft.{Draft}
use Rattle.files.proofs.Places.{rule_is}
use Rattle.families.specs.Reaches.{rules_of}

-- every item is empty
pub all_listed : {X : Type 0} (nul : ℕ → Bool) (f : X → Symbol) (xs : List X) → list_all (λ x. item_empty nul (f x)) xs ≡ all_empty nul (map f xs)
all_listed nul f [] = refl
all_listed nul f (x ∷ xs) = ap (λ b. item_empty nul (f x) && b) (all_listed nul f xs)

-- a test of what the elements stand for
any_listed : {A B : Type 0} (p : B → Bool) (f : A → B) (xs : List A) → list_any (λ x. p (f x)) xs ≡ any p (map f xs)
any_listed p f [] = refl
any_listed p f (x ∷ xs) = ap (λ b. p (f x) || b) (any_listed p f xs)

-- a test of a name's alternatives, as they are stored
pub any_stored : (d : Draft) (y : ℕ) (p : List Symbol → Bool) →
    list_any (λ a. p (alternative_model d.grammar.labels.items a)) (rule_alternatives d.grammar.alternatives.items (rule_at d.grammar.rules.items y)) ≡ any p (alternatives (rules_of d) y)
any_stored d y p =
    any_listed p (alternative_model d.grammar.labels.items) (rule_alternatives d.grammar.alternatives.items (rule_at d.grammar.rules.items y))
    ∙ ap (any p) (sym (rule_is (lists_of d.grammar) y))
