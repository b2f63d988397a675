-- Membership and distinctness of lists. Assumes nothing.
use Rattle.std.proofs.Common.{◌≡◌, ℕ, zero, suc, ◌+◌, ◌-◌, ◌<◌, ◌≤◌, ◌⊎◌, List, [], ◌∷◌, ◌++◌, map, length, get_or, sym, refl, ap, ◌∙◌, subst, ap₂, inl, inr, ⊎_elim, append_assoc, append-nil, le_of_suc-le-suc, not-suc-le-zero, add-zero, eq-or-lt_of_le, zero-add, arith, length-append}
use Rattle.std.specs.List.{flat_map}
use Rattle.std.proofs.lemmas.Bool.{cases_lt}
use Rattle.std.proofs.lemmas.List.{get_or_append_left, get_or-append-add}
use Rattle.theory.specs.Lists.{Among, Distinct, count_from, below}

module _ {A : Type 0} where
  pub among_left : (x : A) (xs ys : List A) → Among x xs → Among x (xs ++ ys)
  among_left x [] ys h = absurd h
  among_left x (z ∷ xs) ys (inl e) = inl e
  among_left x (z ∷ xs) ys (inr h) = inr (among_left x xs ys h)

  pub among_right : (x : A) (xs ys : List A) → Among x ys → Among x (xs ++ ys)
  among_right x [] ys h = h
  among_right x (z ∷ xs) ys h = inr (among_right x xs ys h)

  pub among_cases : (x : A) (xs ys : List A) → Among x (xs ++ ys) → (Among x xs) ⊎ (Among x ys)
  among_cases x [] ys h = inr h
  among_cases x (z ∷ xs) ys (inl e) = inl (inl e)
  among_cases x (z ∷ xs) ys (inr h) = ⊎_elim (λ (k : Among x xs). inl (inr k)) (λ (k : Among x ys). inr k) (among_cases x xs ys h)

  pub distinct_++ : (xs ys : List A) → Distinct xs → Distinct ys → ((x : A) → Among x xs → Among x ys → ⊥) → Distinct (xs ++ ys)
  distinct_++ [] ys dx dy apart = dy
  distinct_++ (x ∷ xs) ys dx dy apart =
      (λ h. ⊎_elim (λ (k : Among x xs). dx.0 k) (λ (k : Among x ys). apart x (inl refl) k) (among_cases x xs ys h), distinct_++ xs ys dx.1 dy (λ z h k. apart z (inr h) k))

module _ {A B : Type 0} (f : A → B) where
  pub among_map : (x : A) (xs : List A) → Among x xs → Among (f x) (map f xs)
  among_map x [] h = absurd h
  among_map x (z ∷ xs) (inl e) = inl (ap f e)
  among_map x (z ∷ xs) (inr h) = inr (among_map x xs h)

  pub map_among : (y : B) (xs : List A) → Among y (map f xs) → (x : A) × (Among x xs) × (y ≡ f x)
  map_among y [] h = absurd h
  map_among y (z ∷ xs) (inl e) = (z, inl refl, e)
  map_among y (z ∷ xs) (inr h) = let t = map_among y xs h in (t.0, inr t.1, t.2)

  pub distinct_map_on : (xs : List A) → ((x z : A) → Among x xs → Among z xs → f x ≡ f z → x ≡ z) → Distinct xs → Distinct (map f xs)
  distinct_map_on [] inj d = tt
  distinct_map_on (x ∷ xs) inj d =
      (λ h. let t = map_among (f x) xs h in d.0 (subst (λ (z : A). Among z xs) (sym (inj x t.0 (inl refl) (inr t.1) t.2)) t.1), distinct_map_on xs (λ y z h g. inj y z (inr h) (inr g)) d.1)

  pub distinct_map : (xs : List A) → ((x z : A) → f x ≡ f z → x ≡ z) → Distinct xs → Distinct (map f xs)
  distinct_map xs inj d = distinct_map_on xs (λ x z h g. inj x z) d

module _ {A B : Type 0} (f : A → List B) where
  pub among_joined : (k : A) (x : B) (ks : List A) → Among k ks → Among x (f k) → Among x (flat_map f ks)
  among_joined k x [] h g = absurd h
  among_joined k x (z ∷ ks) (inl e) g = among_left x (f z) (flat_map f ks) (subst (λ (w : A). Among x (f w)) e g)
  among_joined k x (z ∷ ks) (inr h) g = among_right x (f z) (flat_map f ks) (among_joined k x ks h g)

  pub joined_among : (x : B) (ks : List A) → Among x (flat_map f ks) → (k : A) × (Among k ks) × (Among x (f k))
  joined_among x [] h = absurd h
  joined_among x (z ∷ ks) h = step (λ g. joined_among x ks g) (among_cases x (f z) (flat_map f ks) h)
    where
      step : (Among x (flat_map f ks) → (k : A) × (Among k ks) × (Among x (f k))) → (Among x (f z)) ⊎ (Among x (flat_map f ks)) → (k : A) × (Among k (z ∷ ks)) × (Among x (f k))
      step lower (inl g) = (z, inl refl, g)
      step lower (inr g) = let t = lower g in (t.0, inr t.1, t.2)

  pub distinct_joined : (ks : List A) → Distinct ks → ((k : A) → Among k ks → Distinct (f k)) → ((k l : A) (x : B) → Among k ks → Among l ks → Among x (f k) → Among x (f l) → k ≡ l) → Distinct (flat_map f ks)
  distinct_joined [] d each apart = tt
  distinct_joined (z ∷ ks) d each apart =
      distinct_++ (f z) (flat_map f ks) (each z (inl refl))
      (distinct_joined ks d.1 (λ k h. each k (inr h)) (λ k l x h g. apart k l x (inr h) (inr g)))
      (λ x h g. let t = joined_among x ks g in d.0 (subst (λ (w : A). Among w ks) (sym (apart z t.0 x (inl refl) (inr t.1) h t.2)) t.1))

-- counting up

pub among_count : (i n k : ℕ) → i ≤ k → k < i + n → Among k (count_from i n)
among_count i zero k low high = absurd (omega arith)
among_count i (suc n) k low high = ⊎_elim (λ (e : i ≡ k). inl (sym e)) (λ (l : i < k). inr (among_count (suc i) n k l (omega arith))) (eq-or-lt_of_le low)

pub count_among : (i n k : ℕ) → Among k (count_from i n) → (i ≤ k) × (k < i + n)
count_among i zero k h = absurd h
count_among i (suc n) k (inl e) = omega arith
count_among i (suc n) k (inr h) = let t = count_among (suc i) n k h in omega arith

pub distinct_count : (i n : ℕ) → Distinct (count_from i n)
distinct_count i zero = tt
distinct_count i (suc n) = (λ h. let t = count_among (suc i) n i h in omega arith, distinct_count (suc i) n)

pub length-count : (i n : ℕ) → length (count_from i n) ≡ n
length-count i zero = refl
length-count i (suc n) = ap suc (length-count (suc i) n)

pub count-more : (i n : ℕ) → count_from i (suc n) ≡ count_from i n ++ (i + n) ∷ []
count-more i zero = ap (λ x. x ∷ []) (sym (add-zero i))
count-more i (suc n) = ap (λ l. i ∷ l) (count-more (suc i) n ∙ ap (λ x. count_from (suc i) n ++ x ∷ []) (omega arith))

-- one number more
pub below_more : (n : ℕ) → below (suc n) ≡ below n ++ n ∷ []
below_more n = count-more 0 n ∙ ap (λ x. below n ++ x ∷ []) (zero-add n)

-- lists joined

pub joined_ext : {A B : Type 0} (f g : A → List B) (ks : List A) → ((k : A) → Among k ks → f k ≡ g k) → flat_map f ks ≡ flat_map g ks
joined_ext f g [] h = refl
joined_ext f g (k ∷ ks) h = ap₂ ◌++◌ (h k (inl refl)) (joined_ext f g ks (λ z w. h z (inr w)))

pub joined_none : {A B : Type 0} (f : A → List B) (ks : List A) → ((k : A) → Among k ks → f k ≡ []) → flat_map f ks ≡ []
joined_none f [] h = refl
joined_none f (k ∷ ks) h = ap₂ ◌++◌ (h k (inl refl)) (joined_none f ks (λ z w. h z (inr w)))

-- places in a list

module _ {A : Type 0} (d : A) where
  pub getD_among : (xs : List A) (i : ℕ) → i < length xs → Among (get_or xs i d) xs
  getD_among [] i h = absurd (not-suc-le-zero h)
  getD_among (x ∷ xs) zero h = inl refl
  getD_among (x ∷ xs) (suc i) h = inr (getD_among xs i (le_of_suc-le-suc h))

  pub among_getD : (x : A) (xs : List A) → Among x xs → (i : ℕ) × (i < length xs) × (get_or xs i d ≡ x)
  among_getD x [] h = absurd h
  among_getD x (z ∷ xs) (inl e) = (0, omega arith, sym e)
  among_getD x (z ∷ xs) (inr h) = let t = among_getD x xs h in (suc t.0, omega (arith, t.1), t.2)

  pub getD_once : (xs : List A) (i j : ℕ) → Distinct xs → i < length xs → j < length xs → get_or xs i d ≡ get_or xs j d → i ≡ j
  getD_once [] i j a h g e = absurd (not-suc-le-zero h)
  getD_once (x ∷ xs) zero zero a h g e = refl
  getD_once (x ∷ xs) zero (suc j) a h g e = absurd (a.0 (subst (λ (v : A). Among v xs) (sym e) (getD_among xs j (le_of_suc-le-suc g))))
  getD_once (x ∷ xs) (suc i) zero a h g e = absurd (a.0 (subst (λ (v : A). Among v xs) e (getD_among xs i (le_of_suc-le-suc h))))
  getD_once (x ∷ xs) (suc i) (suc j) a h g e = ap suc (getD_once xs i j a.1 (le_of_suc-le-suc h) (le_of_suc-le-suc g) e)

-- a list of pieces, one after another

module _ {A B : Type 0} (f : A → List B) where
  pub joined_++ : (xs ys : List A) → flat_map f (xs ++ ys) ≡ flat_map f xs ++ flat_map f ys
  joined_++ [] ys = refl
  joined_++ (x ∷ xs) ys = ap (λ l. f x ++ l) (joined_++ xs ys) ∙ sym (append_assoc (f x) (flat_map f xs) (flat_map f ys))

pub joined_map : {A B C : Type 0} (f : B → List C) (g : A → B) (xs : List A) → flat_map f (map g xs) ≡ flat_map (λ x. f (g x)) xs
joined_map f g [] = refl
joined_map f g (x ∷ xs) = ap (λ l. f (g x) ++ l) (joined_map f g xs)

pub count_split : (i m n : ℕ) → count_from i (m + n) ≡ count_from i m ++ count_from (i + m) n
count_split i zero n = ap₂ count_from (sym (add-zero i)) (zero-add n)
count_split i (suc m) n =
    let a : suc m + n ≡ suc (m + n) = omega arith in
    let b : suc i + m ≡ i + suc m = omega arith in
    ap (count_from i) a ∙ ap (λ l. i ∷ l) (count_split (suc i) m n ∙ ap (λ x. count_from (suc i) m ++ count_from x n) b)

-- the pieces f 0, f 1, .., of which there are c
module _ {A : Type 0} (f : ℕ → List A) where
  -- with one piece more
  pub pieces_more : (c : ℕ) → flat_map f (below (suc c)) ≡ flat_map f (below c) ++ f c
  pieces_more c = ap (flat_map f) (below_more c) ∙ joined_++ f (below c) (c ∷ []) ∙ ap (λ l. flat_map f (below c) ++ l) (append-nil (f c))

  pub length_pieces_more : (c : ℕ) → length (flat_map f (below (suc c))) ≡ length (flat_map f (below c)) + length (f c)
  length_pieces_more c = ap length (pieces_more c) ∙ length-append (flat_map f (below c)) (f c)

  -- the element z of the piece j stands behind the pieces before it
  pub getD_piece : (d : A) (c j z : ℕ) → j < c → z < length (f j) → get_or (flat_map f (below c)) (length (flat_map f (below j)) + z) d ≡ get_or (f j) z d
  getD_piece d c j z h w =
      let rest = flat_map f (count_from (suc j) (c - suc j)) in
      let k : c ≡ j + suc (c - suc j) = omega arith in
      let e : below c ≡ below j ++ (j ∷ count_from (suc j) (c - suc j)) = ap below k ∙ count_split 0 j (suc (c - suc j)) ∙ ap (λ i. below j ++ count_from i (suc (c - suc j))) (zero-add j) in
      let g : flat_map f (below c) ≡ flat_map f (below j) ++ (f j ++ rest) = ap (flat_map f) e ∙ joined_++ f (below j) (j ∷ count_from (suc j) (c - suc j)) in
      ap (λ l. get_or l (length (flat_map f (below j)) + z) d) g
      ∙ get_or-append-add (flat_map f (below j)) (f j ++ rest) z d
      ∙ get_or_append_left (f j) rest d z w

  pub length_piece : (c j z : ℕ) → j < c → z < length (f j) → length (flat_map f (below j)) + z < length (flat_map f (below c))
  length_piece zero j z h w = absurd (omega arith)
  length_piece (suc c) j z h w =
      let m = length_pieces_more c in
      ⊎_elim
      (λ (l : j < c). omega (arith, length_piece c j z l w))
      (λ (l : c ≤ j). let e : j ≡ c = omega arith in let q : length (f j) ≡ length (f c) = ap (λ x. length (f x)) e in let r : length (flat_map f (below j)) ≡ length (flat_map f (below c)) = ap (λ x. length (flat_map f (below x))) e in omega arith)
      (cases_lt j c)

  -- each place is in one of the pieces
  pub piece_of : (c x : ℕ) → x < length (flat_map f (below c)) → (j : ℕ) × (z : ℕ) × (j < c) × (z < length (f j)) × (x ≡ length (flat_map f (below j)) + z)
  piece_of zero x h = absurd (not-suc-le-zero h)
  piece_of (suc c) x h = split (cases_lt x (length (flat_map f (below c)))) (λ l. piece_of c x l)
    where
      split : (x < length (flat_map f (below c))) ⊎ (length (flat_map f (below c)) ≤ x) → (x < length (flat_map f (below c)) → (j : ℕ) × (z : ℕ) × (j < c) × (z < length (f j)) × (x ≡ length (flat_map f (below j)) + z)) →
          (j : ℕ) × (z : ℕ) × (j < suc c) × (z < length (f j)) × (x ≡ length (flat_map f (below j)) + z)
      split (inl l) more = let t = more l in let u = t.2 in (t.0, t.1, omega arith, t.3, t.4)
      split (inr l) more = let m = length_pieces_more c in (c, x - length (flat_map f (below c)), omega arith, omega arith, omega arith)
