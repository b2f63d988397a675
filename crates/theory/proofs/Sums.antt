-- Sums of a kind, and what the weights of the sequence come to. Assumes nothing.
use Rattle.std.proofs.Common.{◌≡◌, ℕ, zero, suc, ◌-◌, Bool, true, false, cond, eqb, ◌⊎◌, List, [], ◌∷◌, ◌++◌, map, length, sym, refl, ap, ◌∙◌, subst, ap₂, inl, inr, ⊎_elim}
use Rattle.std.specs.List.{flat_map}
use Rattle.theory.specs.Kinds.{Kind, Laws}
use Rattle.theory.specs.Orders.{Splits, upward}
use Rattle.theory.specs.Lists.{Among, Distinct, below}
use Rattle.theory.specs.Families.{Item, name, literal, Family, alternatives, alternative}
use Rattle.theory.specs.Layouts.{Forest, end, Layout, plain, chosen, join, forest_costs, costs}
use Rattle.theory.specs.Sequence.{pairs, item_layouts, forests, layouts_within}
use Rattle.theory.specs.Totals.{sum_of, product_of, weight, forest_weight, item_value, tail_value, value_within}
use Rattle.theory.proofs.Lists.{below_more}
use Rattle.theory.proofs.Orders.{upward-splits}
use Rattle.theory.proofs.Joins.{join-costs}

pub map-++ : {A B : Type 0} (f : A → B) (xs ys : List A) → map f (xs ++ ys) ≡ map f xs ++ map f ys
map-++ f [] ys = refl
map-++ f (x ∷ xs) ys = ap (λ l. f x ∷ l) (map-++ f xs ys)

module _ {K : Type 0} (o : Kind K) where
  pub sum_ext : {A : Type 0} (f g : A → K) (xs : List A) → ((x : A) → Among x xs → f x ≡ g x) → sum_of o f xs ≡ sum_of o g xs
  sum_ext f g [] h = refl
  sum_ext f g (x ∷ xs) h = ap₂ o.sum (h x (inl refl)) (sum_ext f g xs (λ z k. h z (inr k)))

  pub sum-map : {A B : Type 0} (f : B → K) (g : A → B) (xs : List A) → sum_of o f (map g xs) ≡ sum_of o (λ x. f (g x)) xs
  sum-map f g [] = refl
  sum-map f g (x ∷ xs) = ap (o.sum (f (g x))) (sum-map f g xs)

  module _ (laws : Laws o) where
    pub sum_none_right : (x : K) → o.sum x o.none ≡ x
    sum_none_right x = laws.sum_comm x o.none ∙ laws.sum_none x

    pub sum-++ : {A : Type 0} (f : A → K) (xs ys : List A) → sum_of o f (xs ++ ys) ≡ o.sum (sum_of o f xs) (sum_of o f ys)
    sum-++ f [] ys = sym (laws.sum_none (sum_of o f ys))
    sum-++ f (x ∷ xs) ys = ap (o.sum (f x)) (sum-++ f xs ys) ∙ sym (laws.sum_assoc (f x) (sum_of o f xs) (sum_of o f ys))

    -- nothing but nones
    pub sum_of_nones : {A : Type 0} (f : A → K) (xs : List A) → ((x : A) → Among x xs → f x ≡ o.none) → sum_of o f xs ≡ o.none
    sum_of_nones f [] h = refl
    sum_of_nones f (x ∷ xs) h = ap₂ o.sum (h x (inl refl)) (sum_of_nones f xs (λ z w. h z (inr w))) ∙ laws.sum_none o.none

    -- one more at the end
    pub sum_push : {A : Type 0} (f : A → K) (xs : List A) (x : A) → sum_of o f (xs ++ x ∷ []) ≡ o.sum (sum_of o f xs) (f x)
    sum_push f xs x = sum-++ f xs (x ∷ []) ∙ ap (o.sum (sum_of o f xs)) (sum_none_right (f x))

    -- one more number: a sum from 0 up as a loop makes it
    pub sum_more : (f : ℕ → K) (n : ℕ) → sum_of o f (below (suc n)) ≡ o.sum (sum_of o f (below n)) (f n)
    sum_more f n = ap (sum_of o f) (below_more n) ∙ sum_push f (below n) n

    pub sum_joined : {A B : Type 0} (f : B → K) (g : A → List B) (ks : List A) → sum_of o f (flat_map g ks) ≡ sum_of o (λ k. sum_of o f (g k)) ks
    sum_joined f g [] = refl
    sum_joined f g (k ∷ ks) = sum-++ f (g k) (flat_map g ks) ∙ ap (o.sum (sum_of o f (g k))) (sum_joined f g ks)

    pub times_sum : {A : Type 0} (c : K) (f : A → K) (xs : List A) → sum_of o (λ x. o.product c (f x)) xs ≡ o.product c (sum_of o f xs)
    times_sum c f [] = sym (laws.none_right c)
    times_sum c f (x ∷ xs) = ap (o.sum (o.product c (f x))) (times_sum c f xs) ∙ sym (laws.left_dist c (f x) (sum_of o f xs))

    pub sum_times : {A : Type 0} (c : K) (f : A → K) (xs : List A) → sum_of o (λ x. o.product (f x) c) xs ≡ o.product (sum_of o f xs) c
    sum_times c f [] = sym (laws.none_left c)
    sum_times c f (x ∷ xs) = ap (o.sum (o.product (f x) c)) (sum_times c f xs) ∙ sym (laws.right_dist (f x) (sum_of o f xs) c)

    pub product_++ : (xs ys : List K) → product_of o (xs ++ ys) ≡ o.product (product_of o xs) (product_of o ys)
    product_++ [] ys = sym (laws.unit_left (product_of o ys))
    product_++ (x ∷ xs) ys = ap (o.product x) (product_++ xs ys) ∙ sym (laws.product_assoc x (product_of o xs) (product_of o ys))

    -- one element taken out of a sum
    sum_swap : (x y z : K) → o.sum x (o.sum y z) ≡ o.sum y (o.sum x z)
    sum_swap x y z = sym (laws.sum_assoc x y z) ∙ ap (λ w. o.sum w z) (laws.sum_comm x y) ∙ laws.sum_assoc y x z

    module _ {A : Type 0} (f : A → K) where
      record Pulled (x : A) (ys : List A) : Type 0 where
        rest : List A
        sums : sum_of o f ys ≡ o.sum (f x) (sum_of o f rest)
        fewer : (z : A) → Among z rest → Among z ys
        others : (z : A) → Among z ys → (z ≡ x) ⊎ (Among z rest)
        apart : Distinct ys → Distinct rest × (¬ (Among x rest))

      pull : (x : A) (ys : List A) → Among x ys → Pulled x ys
      pull x [] h = absurd h
      pull x (y ∷ ys) (inl e) = record {
        rest = ys;
        sums = ap (λ w. o.sum (f w) (sum_of o f ys)) (sym e);
        fewer = λ z h. inr h;
        others = λ z h. ⊎_elim (λ (k : z ≡ y). inl (k ∙ sym e)) (λ (k : Among z ys). inr k) h;
        apart = λ d. (d.1, λ h. d.0 (subst (λ (w : A). Among w ys) e h));
      }
      pull x (y ∷ ys) (inr h) = more (pull x ys h)
        where
          more : Pulled x ys → Pulled x (y ∷ ys)
          more t = record {
            rest = y ∷ t.rest;
            sums = ap (o.sum (f y)) t.sums ∙ sum_swap (f y) (f x) (sum_of o f t.rest);
            fewer = λ z g. ⊎_elim (λ (k : z ≡ y). inl k) (λ (k : Among z t.rest). inr (t.fewer z k)) g;
            others = λ z g. ⊎_elim (λ (k : z ≡ y). inr (inl k)) (λ (k : Among z ys). ⊎_elim (λ (l : z ≡ x). inl l) (λ (l : Among z t.rest). inr (inr l)) (t.others z k)) g;
            apart = λ d.
                let a = t.apart d.1 in
                ((λ g. d.0 (t.fewer y g), a.0), λ g. ⊎_elim (λ (k : x ≡ y). d.0 (subst (λ (w : A). Among w ys) k h)) (λ (k : Among x t.rest). a.1 k) g);
          }

      -- the same elements in another order
      pub sum_same : (xs ys : List A) → Distinct xs → Distinct ys → ((z : A) → Among z xs → Among z ys) → ((z : A) → Among z ys → Among z xs) → sum_of o f xs ≡ sum_of o f ys
      sum_same [] [] dx dy to back = refl
      sum_same [] (y ∷ ys) dx dy to back = absurd (back y (inl refl))
      sum_same (x ∷ xs) ys dx dy to back =
          let t = pull x ys (to x (inl refl)) in
          let a = t.apart dy in
          ap (o.sum (f x)) (sum_same xs t.rest dx.1 a.0
          (λ z h. ⊎_elim (λ (e : z ≡ x). absurd (dx.0 (subst (λ (w : A). Among w xs) e h))) (λ (k : Among z t.rest). k) (t.others z (to z (inr h))))
          (λ z h. ⊎_elim (λ (e : z ≡ x). absurd (a.1 (subst (λ (w : A). Among w t.rest) e h))) (λ (k : Among z xs). k) (back z (t.fewer z h))))
          ∙ sym t.sums

    -- the splits in another order

    module _ (S R : ℕ → List ℕ) (s : Splits S) (r : Splits R) where
      pub sum-splits : (f : ℕ → K) (n : ℕ) → sum_of o f (S n) ≡ sum_of o f (R n)
      sum-splits f n = sum_same f (S n) (R n) (s.once n) (r.once n) (λ z h. r.each n z (s.within n z h)) (λ z h. s.each n z (r.within n z h))

    -- sums of the sequence

    module _ (F : Family) where
      pub join-weight : (i : Item) (is : List Item) (p : Layout) (r : Forest) → forest_weight o F (i ∷ is) (join p r) ≡ o.product (weight o F i p) (forest_weight o F is r)
      join-weight i is p r = ap (λ cs. product_of o (map o.weigh cs)) (join-costs F i is p r) ∙ ap (product_of o) (map-++ o.weigh (costs F i p) (forest_costs F is r)) ∙ product_++ (map o.weigh (costs F i p)) (map o.weigh (forest_costs F is r))

      pub sum-pairs : (i : Item) (is : List Item) (ps : List Layout) (rs : List Forest) → sum_of o (forest_weight o F (i ∷ is)) (pairs ps rs) ≡ o.product (sum_of o (weight o F i) ps) (sum_of o (forest_weight o F is) rs)
      sum-pairs i is ps rs =
          sum_joined (forest_weight o F (i ∷ is)) (λ x. map (join x) rs) ps
          ∙ sum_ext (λ x. sum_of o (forest_weight o F (i ∷ is)) (map (join x) rs)) (λ x. o.product (weight o F i x) (sum_of o (forest_weight o F is) rs)) ps
          (λ x h. sum-map (forest_weight o F (i ∷ is)) (join x) rs
          ∙ sum_ext (λ r. forest_weight o F (i ∷ is) (join x r)) (λ r. o.product (weight o F i x) (forest_weight o F is r)) rs (λ r k. join-weight i is x r)
          ∙ times_sum (weight o F i x) (forest_weight o F is) rs)
          ∙ sum_times (sum_of o (forest_weight o F is) rs) (weight o F i) ps

      sum_kept : {A : Type 0} (f : A → K) (b : Bool) (z : A) (v : K) → f z ≡ v → sum_of o f (cond b (z ∷ []) []) ≡ cond b v o.none
      sum_kept f true z v e = sum_none_right (f z) ∙ e
      sum_kept f false z v e = refl

      module _ (S : ℕ → List ℕ) (law : Splits S) (L : ℕ → ℕ → List Layout) (e : ℕ → ℕ → K) (same : (y k : ℕ) → sum_of o (weight o F (name y)) (L y k) ≡ e y k) where
        pub sum_item : (i : Item) (k : ℕ) → sum_of o (weight o F i) (item_layouts L i k) ≡ item_value o e i k
        sum_item (literal x s c) k = sum_kept (weight o F (literal x s c)) (eqb k s) plain (o.weigh c) (laws.unit_right (o.weigh c))
        sum_item (name y) k = same y k

        pub sum-forests : (is : List Item) (n : ℕ) → sum_of o (forest_weight o F is) (forests S L is n) ≡ tail_value o e is n
        sum-forests [] n = sum_kept (forest_weight o F []) (eqb n 0) end o.unit refl
        sum-forests (i ∷ is) n =
            sum_joined (forest_weight o F (i ∷ is)) (λ k. pairs (item_layouts L i k) (forests S L is (n - k))) (S n)
            ∙ sum_ext (λ k. sum_of o (forest_weight o F (i ∷ is)) (pairs (item_layouts L i k) (forests S L is (n - k)))) (λ k. o.product (item_value o e i k) (tail_value o e is (n - k))) (S n)
            (λ k h. sum-pairs i is (item_layouts L i k) (forests S L is (n - k)) ∙ ap₂ o.product (sum_item i k) (sum-forests is (n - k)))
            ∙ sum-splits S upward law upward-splits (λ k. o.product (item_value o e i k) (tail_value o e is (n - k))) n

      module _ (S : ℕ → List ℕ) (law : Splits S) where
        pub sum_within : (d y n : ℕ) → sum_of o (weight o F (name y)) (layouts_within S F d y n) ≡ value_within o F d y n
        unfolding layouts_within value_within
        sum_within zero y n = refl
        sum_within (suc d) y n =
            sum_joined (weight o F (name y)) (λ a. map (chosen a) (forests S (layouts_within S F d) (alternative F y a) n)) (below (length (alternatives F y)))
            ∙ sum_ext (λ a. sum_of o (weight o F (name y)) (map (chosen a) (forests S (layouts_within S F d) (alternative F y a) n)))
            (λ a. tail_value o (value_within o F d) (alternative F y a) n) (below (length (alternatives F y)))
            (λ a h. sum-map (weight o F (name y)) (chosen a) (forests S (layouts_within S F d) (alternative F y a) n)
            ∙ sum-forests S law (layouts_within S F d) (value_within o F d) (sum_within d) (alternative F y a) n)
