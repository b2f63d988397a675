-- The choices, costs and texts of a layout before others. Assumes nothing.
use Rattle.std.proofs.Common.{◌≡◌, ℕ, List, [], ◌∷◌, ◌++◌, sym, refl, ap, ◌∙◌, append_assoc}
use Rattle.theory.specs.Families.{Item, name, literal, Family}
use Rattle.theory.specs.Layouts.{Forest, Layout, plain, chosen, join, forest_choices, choices, forest_costs, costs, forest_texts, texts, beside, in_words, forest_text, text}

pub join-choices : (l : Layout) (r : Forest) → forest_choices (join l r) ≡ choices l ++ forest_choices r
join-choices plain r = refl
join-choices (chosen a u) r = refl

pub join-costs : (F : Family) (i : Item) (is : List Item) (l : Layout) (r : Forest) → forest_costs F (i ∷ is) (join l r) ≡ costs F i l ++ forest_costs F is r
join-costs F (literal x s c) is plain r = refl
join-costs F (literal x s c) is (chosen a u) r = refl
join-costs F (name y) is plain r = refl
join-costs F (name y) is (chosen a u) r = refl

pub join-texts : (F : Family) (i : Item) (is : List Item) (l : Layout) (r : Forest) → forest_texts F (i ∷ is) (join l r) ≡ texts F i l ++ forest_texts F is r
join-texts F (literal x s c) is plain r = refl
join-texts F (literal x s c) is (chosen a u) r = refl
join-texts F (name y) is plain r = refl
join-texts F (name y) is (chosen a u) r = refl

-- texts side by side

pub beside_end : (t : List ℕ) → beside t [] ≡ t
beside_end [] = refl
beside_end (b ∷ bs) = refl

pub beside_assoc : (t u v : List ℕ) → beside (beside t u) v ≡ beside t (beside u v)
beside_assoc [] u v = refl
beside_assoc (b ∷ bs) [] v = refl
beside_assoc (b ∷ bs) (c ∷ cs) [] = refl
beside_assoc (b ∷ bs) (c ∷ cs) (d ∷ ds) = ap (λ l. b ∷ l) (append_assoc bs (32 ∷ c ∷ cs) (32 ∷ d ∷ ds))

pub in_words-++ : (ts us : List (List ℕ)) → in_words (ts ++ us) ≡ beside (in_words ts) (in_words us)
in_words-++ [] us = refl
in_words-++ (t ∷ ts) us = ap (beside t) (in_words-++ ts us) ∙ sym (beside_assoc t (in_words ts) (in_words us))

pub join-text : (F : Family) (i : Item) (is : List Item) (l : Layout) (r : Forest) → forest_text F (i ∷ is) (join l r) ≡ beside (text F i l) (forest_text F is r)
join-text F i is l r = ap in_words (join-texts F i is l r) ∙ in_words-++ (texts F i l) (forest_texts F is r)
