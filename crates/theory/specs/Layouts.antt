-- Layouts: trees of choices, with their size, costs, choice list and text. Assumes nothing.
use Rattle.std.specs.Prelude.{◌≡◌, ℕ, suc, ◌+◌, ◌<◌, max, List, [], ◌∷◌, ◌++◌, length}
use Rattle.theory.specs.Families.{Item, name, literal, Family, alternatives, alternative}

-- layouts of the items of a tail, from left to right: a literal, or for a name the number of its alternative with the layouts of that one's items; then the rest
pub data Forest : Type 0 where
  end : Forest
  leaf : Forest → Forest
  node : ℕ → Forest → Forest → Forest

-- a layout of one item: a literal has one, a name has an alternative's number with the layouts of that one's items
pub data Layout : Type 0 where
  plain : Layout
  chosen : ℕ → Forest → Layout

-- a layout of the first item before layouts of the others
abbrev pub join : Layout → Forest → Forest
join plain r = leaf r
join (chosen a u) r = node a u r

-- Which trees are layouts in a family

abbrev pub ForestValid : Family → List Item → Forest → Type 0
ForestValid F [] end = Unit
ForestValid F [] (leaf r) = ⊥
ForestValid F [] (node a u r) = ⊥
ForestValid F (literal t s c ∷ is) end = ⊥
ForestValid F (literal t s c ∷ is) (leaf r) = ForestValid F is r
ForestValid F (literal t s c ∷ is) (node a u r) = ⊥
ForestValid F (name y ∷ is) end = ⊥
ForestValid F (name y ∷ is) (leaf r) = ⊥
ForestValid F (name y ∷ is) (node a u r) = (a < length (alternatives F y)) × ForestValid F (alternative F y a) u × ForestValid F is r

abbrev pub Valid : Family → Item → Layout → Type 0
Valid F (literal t s c) plain = Unit
Valid F (literal t s c) (chosen a u) = ⊥
Valid F (name y) plain = ⊥
Valid F (name y) (chosen a u) = (a < length (alternatives F y)) × ForestValid F (alternative F y a) u

-- The size: the sum of the literals' sizes

abbrev pub forest_size : Family → List Item → Forest → ℕ
forest_size F [] t = 0
forest_size F (i ∷ is) end = 0
forest_size F (literal t s c ∷ is) (leaf r) = s + forest_size F is r
forest_size F (literal t s c ∷ is) (node a u r) = 0 + forest_size F is r
forest_size F (name y ∷ is) (leaf r) = 0 + forest_size F is r
forest_size F (name y ∷ is) (node a u r) = forest_size F (alternative F y a) u + forest_size F is r

abbrev pub size : Family → Item → Layout → ℕ
size F (literal t s c) plain = s
size F (literal t s c) (chosen a u) = 0
size F (name y) plain = 0
size F (name y) (chosen a u) = forest_size F (alternative F y a) u

-- t has a layout for each of the items, and they have the size n together
pub record ForestOf (F : Family) (is : List Item) (n : ℕ) (t : Forest) : Type 0 where
  pub valid : ForestValid F is t
  pub sized : forest_size F is t ≡ n

-- l is a layout of the item i, of size n
pub record LayoutOf (F : Family) (i : Item) (n : ℕ) (l : Layout) : Type 0 where
  pub valid : Valid F i l
  pub sized : size F i l ≡ n

-- The choice list: the number of the alternative, then the choice lists of its name items from left to right

abbrev pub forest_choices : Forest → List ℕ
forest_choices end = []
forest_choices (leaf r) = forest_choices r
forest_choices (node a u r) = a ∷ (forest_choices u ++ forest_choices r)

abbrev pub choices : Layout → List ℕ
choices plain = []
choices (chosen a u) = a ∷ forest_choices u

-- The costs of the literals, from left to right

abbrev pub forest_costs : Family → List Item → Forest → List ℕ
forest_costs F [] t = []
forest_costs F (i ∷ is) end = []
forest_costs F (literal t s c ∷ is) (leaf r) = c ∷ forest_costs F is r
forest_costs F (literal t s c ∷ is) (node a u r) = forest_costs F is r
forest_costs F (name y ∷ is) (leaf r) = forest_costs F is r
forest_costs F (name y ∷ is) (node a u r) = forest_costs F (alternative F y a) u ++ forest_costs F is r

abbrev pub costs : Family → Item → Layout → List ℕ
costs F (literal t s c) plain = c ∷ []
costs F (literal t s c) (chosen a u) = []
costs F (name y) plain = []
costs F (name y) (chosen a u) = forest_costs F (alternative F y a) u

-- The text: the literals' texts from left to right, the empty ones left out, one space between neighbours

abbrev pub forest_texts : Family → List Item → Forest → List (List ℕ)
forest_texts F [] t = []
forest_texts F (i ∷ is) end = []
forest_texts F (literal t s c ∷ is) (leaf r) = t ∷ forest_texts F is r
forest_texts F (literal t s c ∷ is) (node a u r) = forest_texts F is r
forest_texts F (name y ∷ is) (leaf r) = forest_texts F is r
forest_texts F (name y ∷ is) (node a u r) = forest_texts F (alternative F y a) u ++ forest_texts F is r

abbrev pub texts : Family → Item → Layout → List (List ℕ)
texts F (literal t s c) plain = t ∷ []
texts F (literal t s c) (chosen a u) = []
texts F (name y) plain = []
texts F (name y) (chosen a u) = forest_texts F (alternative F y a) u

-- two texts side by side, with a space between them where neither is empty
abbrev pub beside : List ℕ → List ℕ → List ℕ
beside [] us = us
beside (b ∷ bs) [] = b ∷ bs
beside (b ∷ bs) (c ∷ cs) = (b ∷ bs) ++ (32 ∷ c ∷ cs)

abbrev pub in_words : List (List ℕ) → List ℕ
in_words [] = []
in_words (t ∷ ts) = beside t (in_words ts)

abbrev pub forest_text : Family → List Item → Forest → List ℕ
forest_text F is t = in_words (forest_texts F is t)

abbrev pub text : Family → Item → Layout → List ℕ
text F i l = in_words (texts F i l)

-- The depth: how many names stand inside one another

abbrev pub forest_depth : Forest → ℕ
forest_depth end = 0
forest_depth (leaf r) = forest_depth r
forest_depth (node a u r) = max (suc (forest_depth u)) (forest_depth r)

abbrev pub depth : Layout → ℕ
depth plain = 0
depth (chosen a u) = suc (forest_depth u)

-- A choice list tells its layout

abbrev pub ChoicesTell : Type 0
ChoicesTell = (F : Family) (y : ℕ) (l k : Layout) → Valid F (name y) l → Valid F (name y) k → choices l ≡ choices k → l ≡ k
