-- What stored rules are as names, alternatives and numbered items. Assumes nothing.
use Rattle.std.proofs.Common.{◌≡◌, ℕ, zero, suc, ◌+◌, ◌<◌, ◌≤◌, List, [], ◌∷◌, map, length, get_or, take, drop, sym, ap, ◌∙◌, subst, ap₂, le_of_suc-le-suc, not-suc-le-zero, arith, length-take-le, get_or-take}
use Rattle.std.proofs.lemmas.List.{length-map, get_or-map}
use Rattle.theory.specs.Families.{Item as Symbol, alternatives, alternative, Known, Defined, item_count, tail_at, first_item, ItemAt}
use Rattle.theory.specs.Nullable.{Ranks}
use Rattle.theory.specs.Tables.{rows}
use Rattle.theory.proofs.Items.{items_numbered}
use Rattle.files.specs.Items.{item_at}
use Rattle.files.specs.Grammars.{Lists, lists_of, rule_at, alternative_at, rule_alternatives}
use Rattle.files.specs.Models.{item_model, alternative_model, rule_model, model}
use Rattle.files.proofs.Places.{listed_at, count_is, alternative_is}
use Rattle.families.specs.Sound.{marked}
use Rattle.families.specs.declared.family.Family.{Family}
use Rattle.files.specs.declared.item.Item.{Item}
use Rattle.files.specs.declared.item.Item.TheVariants.{Vacant, Use, Name, Literal}
use Rattle.files.specs.declared.item.Label.{Label}
use Rattle.files.specs.declared.item.Alternative.{Alternative}
use Rattle.tables.specs.Tables.{rules_of, rows_of}
use Rattle.tables.specs.Fillings.{Below, Stands, Of, Under}
use Rattle.tables.proofs.Keeps.{Fitting, keeps}

pub length-model : (l : Lists) → length (model l) ≡ length l.rules
length-model l = length-map l.rules (rule_model l)

pub rows-model : (f : Family) → rows_of f ≡ rows (rules_of f)
rows-model f = ap₂ ◌+◌ (sym (length-model (lists_of f.grammar))) (sym (keeps f).fitting.counted)

-- the family's ranks
abbrev pub ranks_of : (f : Family) → Ranks (rules_of f) (marked f.nullable)
ranks_of f = record { rank = λ y. get_or f.ranks y 0; low = (keeps f).ranked.low; falls = (keeps f).ranked.falls }

pub length-alternative : (ls : List Label) (a : Alternative) → a.count ≤ length a.items → length (alternative_model ls a) ≡ a.count
length-alternative ls a h = length-map (take a.count a.items) (item_model ls) ∙ length-take-le a.count a.items h

-- the item at a place
pub item_there : (ls : List Label) (a : Alternative) (p : ℕ) (d : Symbol) → p < a.count → a.count ≤ length a.items → get_or (alternative_model ls a) p d ≡ item_model ls (item_at a p)
item_there ls a p d h w =
    get_or-map (item_model ls) (take a.count a.items) p Vacant d (omega (arith, length-take-le a.count a.items w))
    ∙ ap (item_model ls) (get_or-take a.count a.items p Vacant h)

-- names that are known are below the number of names
below_here : (ls : List Label) (m : ℕ) (i : Item) (is : List Symbol) → Known m (item_model ls i ∷ is) → Below m i × Known m is
below_here ls m (Name y) is known = known
below_here ls m (Literal t s c) is known = (tt, known)
below_here ls m (Use t) is known = (tt, known)
below_here ls m Vacant is known = (tt, known)

below_at : (ls : List Label) (m c p : ℕ) (xs : List Item) → Known m (map (item_model ls) (take c xs)) → p < c → p < length xs → Below m (get_or xs p Vacant)
below_at ls m zero p xs known h w = absurd (not-suc-le-zero h)
below_at ls m (suc c) p [] known h w = absurd (not-suc-le-zero w)
below_at ls m (suc c) zero (x ∷ xs) known h w = (below_here ls m x (map (item_model ls) (take c xs)) known).0
below_at ls m (suc c) (suc p) (x ∷ xs) known h w =
    below_at ls m c p xs (below_here ls m x (map (item_model ls) (take c xs)) known).1 (le_of_suc-le-suc h) (le_of_suc-le-suc w)

below_up : (m n : ℕ) (i : Item) → m ≤ n → Below m i → Below n i
below_up m n (Name y) h w = omega arith
below_up m n (Literal t s c) h w = tt
below_up m n (Use t) h w = tt
below_up m n Vacant h w = tt

pub item_below : (l : Lists) (a : Alternative) → Stands l a → (p m : ℕ) → p < a.count → length (model l) ≤ m → Below m (item_at a p)
item_below l a s p m h w =
    below_up (length (model l)) m (item_at a p) w (below_at l.labels (length (model l)) a.count p a.items s.known h (omega (arith, s.six, s.full)))

-- the item j is of one of the first n alternatives of the rule y
abbrev pub Upto : Lists → ℕ → ℕ → ℕ → Type 0
Upto l y n j = (a : ℕ) × (a < n) × Of (alternative_at l.alternatives ((rule_at l.rules y).first + a)) j

-- it is of one of the rules below y
abbrev pub Before : Lists → ℕ → ℕ → Type 0
Before l y j = (z : ℕ) × (z < y) × Under l z j

-- x is the alternative a of the rule y
pub record Found (l : Lists) (y a : ℕ) (x : Alternative) : Type 0 where
  pub below : a < (rule_at l.rules y).count
  pub same : x ≡ alternative_at l.alternatives ((rule_at l.rules y).first + a)
  pub stood : Stands l x
  pub items : alternative (model l) y a ≡ alternative_model l.labels x

module _ (l : Lists) (formed : Fitting l) (defined : Defined (model l)) where
  module _ (y : ℕ) (there : y < length l.rules) where
    module _ (a : ℕ) (h : a < (rule_at l.rules y).count) where
      abbrev alt : Alternative
      alt = alternative_at l.alternatives ((rule_at l.rules y).first + a)

      six_here : (alt.count ≤ 6) × (length alt.items ≡ 6)
      six_here = formed.six ((rule_at l.rules y).first + a) (omega (arith, formed.inside y there))

      number_here : (p : ℕ) → p < alt.count → ItemAt (model l) y a p (first_item (model l) y a + p)
      number_here p w = (items_numbered (model l)).number y a p (omega (arith, ap length (alternative_is l formed.inside y a h), length-alternative l.labels alt (omega (arith, six_here.0, six_here.1))))

      -- each alternative of a rule stands in the family
      pub stands : Stands l alt
      stands = record {
        six = six_here.0;
        full = six_here.1;
        inside = λ p w. subst (λ (j : ℕ). j + p < item_count (model l)) (sym (formed.numbered y a there h)) (number_here p w).within;
        tail = λ p w. ap (λ j. tail_at (model l) (j + p)) (formed.numbered y a there h) ∙ (number_here p w).tail ∙ ap (drop p) (alternative_is l formed.inside y a h);
        known = subst (Known (length (model l))) (alternative_is l formed.inside y a h) (defined y a);
      }

    -- the alternative a among those of the rule
    pub found : (xs : List Alternative) (a : ℕ) (e : Alternative) → xs ≡ rule_alternatives l.alternatives (rule_at l.rules y) → a < length xs → Found l y a (get_or xs a e)
    found xs a e is h =
        let at = listed_at l.alternatives (rule_at l.rules y) a e (omega (arith, ap length is)) in
        let same = ap (λ zs. get_or zs a e) is ∙ at.1 in
        record {
          below = at.0;
          same = same;
          stood = subst (Stands l) (sym same) (stands a at.0);
          items = alternative_is l formed.inside y a at.0 ∙ ap (alternative_model l.labels) (sym same);
        }

  -- each item is of some alternative
  pub every_item : (j : ℕ) → j < item_count (model l) → (y : ℕ) × (y < length (model l)) × Under l y j
  every_item j h = at ((items_numbered (model l)).place j h)
    where
      at : ((y : ℕ) × (a : ℕ) × (p : ℕ) × (y < length (model l)) × (a < length (alternatives (model l) y)) × (p < length (alternative (model l) y a)) × ItemAt (model l) y a p j) → (y : ℕ) × (y < length (model l)) × Under l y j
      at (y, a, p, hy, ha, hp, q) =
          let there : y < length l.rules = omega (arith, length-model l) in
          let b : a < (rule_at l.rules y).count = omega (arith, count_is l formed.inside y) in
          let s = stands y there a b in
          let alt = alternative_at l.alternatives ((rule_at l.rules y).first + a) in
          let len : length (alternative (model l) y a) ≡ alt.count = ap length (alternative_is l formed.inside y a b) ∙ length-alternative l.labels alt (omega (arith, s.six, s.full)) in
          (y, hy, (a, b, (omega (arith, q.is, formed.numbered y a there b), omega (arith, q.is, formed.numbered y a there b))))
