-- The sequence has each layout once and nothing else. Assumes nothing.
use Rattle.std.proofs.Common.{◌≡◌, ℕ, zero, suc, ◌+◌, ◌-◌, ◌≤◌, Bool, true, false, cond, T, eqb, List, [], ◌∷◌, map, length, sym, refl, ap, ◌∙◌, subst, inl, inr, le_of_suc-le-suc, arith, eqb→eq}
use lib.Dec.{eqb_refl}
use Rattle.theory.specs.Orders.{Splits}
use Rattle.theory.specs.Lists.{Among, Distinct, below}
use Rattle.theory.specs.Families.{Item, name, literal, Family, alternatives, alternative}
use Rattle.theory.specs.Layouts.{Forest, end, leaf, node, Layout, plain, chosen, join, ForestValid, Valid, forest_size, size, ForestOf, LayoutOf, forest_depth, depth}
use Rattle.theory.specs.Sequence.{pairs, item_layouts, forests, layouts_within}
use Rattle.theory.proofs.Lists.{among_map, map_among, distinct_map, among_joined, joined_among, distinct_joined, among_count, count_among, distinct_count}

-- a list that is kept on a test

pub kept : {A : Type 0} (b : Bool) (x z : A) → Among x (cond b (z ∷ []) []) → T b × (x ≡ z)
kept true x z (inl e) = (tt, e)
kept true x z (inr h) = absurd h
kept false x z h = absurd h

pub keep : {A : Type 0} (b : Bool) (z : A) → T b → Among z (cond b (z ∷ []) [])
keep true z t = inl refl
keep false z t = absurd t

distinct_kept : {A : Type 0} (b : Bool) (z : A) → Distinct (cond b (z ∷ []) [])
distinct_kept true z = (λ h. h, tt)
distinct_kept false z = tt

-- layouts and forests joined

pub join_first : (p q : Layout) (r s : Forest) → join p r ≡ join q s → p ≡ q
join_first plain plain r s e = refl
join_first plain (chosen b v) r s e = cc
join_first (chosen a u) plain r s e = cc
join_first (chosen a u) (chosen b v) r s e = cc

pub join-rest : (p q : Layout) (r s : Forest) → join p r ≡ join q s → r ≡ s
join-rest plain plain r s e = cc
join-rest plain (chosen b v) r s e = cc
join-rest (chosen a u) plain r s e = cc
join-rest (chosen a u) (chosen b v) r s e = cc

pub among_pairs : (p : Layout) (r : Forest) (ps : List Layout) (rs : List Forest) → Among p ps → Among r rs → Among (join p r) (pairs ps rs)
among_pairs p r ps rs h g = among_joined (λ x. map (join x) rs) p (join p r) ps h (among_map (join p) r rs g)

pub pairs_among : (t : Forest) (ps : List Layout) (rs : List Forest) → Among t (pairs ps rs) → (p : Layout) × (r : Forest) × (Among p ps) × (Among r rs) × (t ≡ join p r)
pairs_among t ps rs h =
    let f = joined_among (λ x. map (join x) rs) t ps h in
    let g = map_among (join f.0) t rs f.2 in
    (f.0, g.0, f.1, g.1, g.2)

pub distinct_pairs : (ps : List Layout) (rs : List Forest) → Distinct ps → Distinct rs → Distinct (pairs ps rs)
distinct_pairs ps rs dp dr =
    distinct_joined (λ x. map (join x) rs) ps dp
    (λ p h. distinct_map (join p) rs (λ r s e. join-rest p p r s e) dr)
    (λ p q t h g k l. let a = map_among (join p) t rs k in let b = map_among (join q) t rs l in join_first p q a.0 b.0 (sym a.2 ∙ b.2))

module _ (F : Family) where
  pub join_valid : (i : Item) (is : List Item) (p : Layout) (r : Forest) → Valid F i p → ForestValid F is r → ForestValid F (i ∷ is) (join p r)
  join_valid (literal x s c) is plain r v w = w
  join_valid (literal x s c) is (chosen a u) r v w = absurd v
  join_valid (name y) is plain r v w = absurd v
  join_valid (name y) is (chosen a u) r v w = (v.0, v.1, w)

  pub join-size : (i : Item) (is : List Item) (p : Layout) (r : Forest) → forest_size F (i ∷ is) (join p r) ≡ size F i p + forest_size F is r
  join-size (literal x s c) is plain r = refl
  join-size (literal x s c) is (chosen a u) r = refl
  join-size (name y) is plain r = refl
  join-size (name y) is (chosen a u) r = refl

  -- a forest along an item and others is a layout before a forest
  pub unjoin : (i : Item) (is : List Item) (t : Forest) → ForestValid F (i ∷ is) t → (p : Layout) × (r : Forest) × (t ≡ join p r) × Valid F i p × ForestValid F is r
  unjoin (literal x s c) is end v = absurd v
  unjoin (literal x s c) is (leaf r) v = (plain, r, refl, tt, v)
  unjoin (literal x s c) is (node a u r) v = absurd v
  unjoin (name y) is end v = absurd v
  unjoin (name y) is (leaf r) v = absurd v
  unjoin (name y) is (node a u r) v = (chosen a u, r, refl, (v.0, v.1), v.2)

module _ (S : ℕ → List ℕ) (law : Splits S) (F : Family) (L : ℕ → ℕ → List Layout) where
  module _ (sound : (y k : ℕ) (p : Layout) → Among p (L y k) → LayoutOf F (name y) k p) where
    pub item_sound : (i : Item) (k : ℕ) (p : Layout) → Among p (item_layouts L i k) → LayoutOf F i k p
    item_sound (literal x s c) k p h = at p g.1
      where
        g : T (eqb k s) × (p ≡ plain)
        g = kept (eqb k s) p plain h

        at : (q : Layout) → q ≡ plain → LayoutOf F (literal x s c) k q
        at q e = subst (LayoutOf F (literal x s c) k) (sym e) (record { valid = tt; sized = sym (eqb→eq k s g.0) })
    item_sound (name y) k p h = sound y k p h

    pub forests_sound : (is : List Item) (n : ℕ) (t : Forest) → Among t (forests S L is n) → ForestOf F is n t
    forests_sound [] n t h =
        let g = kept (eqb n 0) t end h in
        subst (ForestOf F [] n) (sym g.1) (record { valid = tt; sized = sym (eqb→eq n 0 g.0) })
    forests_sound (i ∷ is) n t h =
        let f = joined_among (λ k. pairs (item_layouts L i k) (forests S L is (n - k))) t (S n) h in
        let k = f.0 in
        let g = pairs_among t (item_layouts L i k) (forests S L is (n - k)) f.2 in
        let a = item_sound i k g.0 g.2 in
        let b = forests_sound is (n - k) g.1 g.3 in
        let w = law.within n k f.1 in
        subst (ForestOf F (i ∷ is) n) (sym g.4) (record { valid = join_valid F i is g.0 g.1 a.valid b.valid; sized = join-size F i is g.0 g.1 ∙ omega (arith, a.sized, b.sized) })

    module _ (apart : (y k : ℕ) → Distinct (L y k)) where
      item_distinct : (i : Item) (k : ℕ) → Distinct (item_layouts L i k)
      item_distinct (literal x s c) k = distinct_kept (eqb k s) plain
      item_distinct (name y) k = apart y k

      pub forests_distinct : (is : List Item) (n : ℕ) → Distinct (forests S L is n)
      forests_distinct [] n = distinct_kept (eqb n 0) end
      forests_distinct (i ∷ is) n =
          distinct_joined (λ k. pairs (item_layouts L i k) (forests S L is (n - k))) (S n) (law.once n)
          (λ k h. distinct_pairs (item_layouts L i k) (forests S L is (n - k)) (item_distinct i k) (forests_distinct is (n - k)))
          (λ k l t h g a b.
          let c = pairs_among t (item_layouts L i k) (forests S L is (n - k)) a in
          let d = pairs_among t (item_layouts L i l) (forests S L is (n - l)) b in
          let e = join_first c.0 d.0 c.1 d.1 (sym c.4 ∙ d.4) in
          sym (item_sound i k c.0 c.2).sized ∙ ap (size F i) e ∙ (item_sound i l d.0 d.2).sized)

-- what is joined is no deeper than the whole

pub layout_shallow : (p : Layout) (r : Forest) (d : ℕ) → forest_depth (join p r) ≤ d → depth p ≤ d
layout_shallow plain r d h = omega arith
layout_shallow (chosen a u) r d h = omega arith

pub rest_shallow : (p : Layout) (r : Forest) (d : ℕ) → forest_depth (join p r) ≤ d → forest_depth r ≤ d
rest_shallow plain r d h = h
rest_shallow (chosen a u) r d h = omega arith

module _ (S : ℕ → List ℕ) (law : Splits S) (F : Family) (L : ℕ → ℕ → List Layout) (d : ℕ)
    (complete : (y k : ℕ) (p : Layout) → LayoutOf F (name y) k p → depth p ≤ d → Among p (L y k)) where
  item_complete : (i : Item) (k : ℕ) (p : Layout) → LayoutOf F i k p → depth p ≤ d → Among p (item_layouts L i k)
  item_complete (literal x s c) k plain f h = keep (eqb k s) plain (subst (λ (x : ℕ). T (eqb x s)) f.sized (eqb_refl s))
  item_complete (literal x s c) k (chosen a u) f h = absurd f.valid
  item_complete (name y) k p f h = complete y k p f h

  pub forests_complete : (is : List Item) (n : ℕ) (t : Forest) → ForestOf F is n t → forest_depth t ≤ d → Among t (forests S L is n)
  forests_complete [] n end f h = keep (eqb n 0) end (subst (λ (x : ℕ). T (eqb x 0)) f.sized tt)
  forests_complete [] n (leaf r) f h = absurd f.valid
  forests_complete [] n (node a u r) f h = absurd f.valid
  forests_complete (i ∷ is) n t f h =
      let g = unjoin F i is t f.valid in
      let p = g.0 in
      let r = g.1 in
      let e = g.2 in
      let k = size F i p in
      let sum_of : k + forest_size F is r ≡ n = sym (join-size F i is p r) ∙ ap (forest_size F (i ∷ is)) (sym e) ∙ f.sized in
      let deep : forest_depth (join p r) ≤ d = subst (λ (x : Forest). forest_depth x ≤ d) e h in
      let a = item_complete i k p (record { valid = g.3; sized = refl }) (layout_shallow p r d deep) in
      let b = forests_complete is (n - k) r (record { valid = g.4; sized = omega arith }) (rest_shallow p r d deep) in
      subst (λ (x : Forest). Among x (forests S L (i ∷ is) n)) (sym e)
      (among_joined (λ j. pairs (item_layouts L i j) (forests S L is (n - j))) k (join p r) (S n) (law.each n k (omega arith)) (among_pairs p r (item_layouts L i k) (forests S L is (n - k)) a b))

module _ (S : ℕ → List ℕ) (law : Splits S) (F : Family) where
  pub within_sound : (d y n : ℕ) (p : Layout) → Among p (layouts_within S F d y n) → LayoutOf F (name y) n p
  unfolding layouts_within
  within_sound zero y n p h = absurd h
  within_sound (suc d) y n p h =
      let f = joined_among (λ a. map (chosen a) (forests S (layouts_within S F d) (alternative F y a) n)) p (below (length (alternatives F y))) h in
      let a = f.0 in
      let g = map_among (chosen a) p (forests S (layouts_within S F d) (alternative F y a) n) f.2 in
      let b = forests_sound S law F (layouts_within S F d) (within_sound d) (alternative F y a) n g.0 g.1 in
      let c = count_among 0 (length (alternatives F y)) a f.1 in
      subst (LayoutOf F (name y) n) (sym g.2) (record { valid = (omega arith, b.valid); sized = b.sized })

  pub within_distinct : (d y n : ℕ) → Distinct (layouts_within S F d y n)
  unfolding layouts_within
  within_distinct zero y n = tt
  within_distinct (suc d) y n =
      distinct_joined (λ a. map (chosen a) (forests S (layouts_within S F d) (alternative F y a) n)) (below (length (alternatives F y))) (distinct_count 0 (length (alternatives F y)))
      (λ a h. distinct_map (chosen a) (forests S (layouts_within S F d) (alternative F y a) n) (λ u v e. cc) (forests_distinct S law F (layouts_within S F d) (within_sound d) (within_distinct d) (alternative F y a) n))
      (λ a b p h g k l.
      let c = map_among (chosen a) p (forests S (layouts_within S F d) (alternative F y a) n) k in
      let e = map_among (chosen b) p (forests S (layouts_within S F d) (alternative F y b) n) l in
      let q : chosen a c.0 ≡ chosen b e.0 = sym c.2 ∙ e.2 in
      cc)

  pub within_complete : (d y n : ℕ) (p : Layout) → LayoutOf F (name y) n p → depth p ≤ d → Among p (layouts_within S F d y n)
  unfolding layouts_within
  within_complete d y n plain f h = absurd f.valid
  within_complete zero y n (chosen a u) f h = absurd (omega arith)
  within_complete (suc d) y n (chosen a u) f h =
      among_joined (λ b. map (chosen b) (forests S (layouts_within S F d) (alternative F y b) n)) a (chosen a u) (below (length (alternatives F y)))
      (among_count 0 (length (alternatives F y)) a (omega arith) (omega (arith, f.valid.0)))
      (among_map (chosen a) u (forests S (layouts_within S F d) (alternative F y a) n)
      (forests_complete S law F (layouts_within S F d) d (within_complete d) (alternative F y a) n u (record { valid = f.valid.1; sized = f.sized }) (le_of_suc-le-suc h)))
