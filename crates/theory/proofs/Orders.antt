-- Split orders keep their law, and their splits are each number once. Assumes nothing.
use Rattle.std.proofs.Common.{◌≡◌, ℕ, suc, ◌+◌, ◌-◌, ◌*◌, ◌/◌, ◌%◌, ◌<◌, ◌≤◌, Bool, true, false, cond, leb, ◌⊎◌, List, [], ◌∷◌, map, refl, ap, ◌∙◌, subst, inl, inr, ⊎_elim, arith}
use Rattle.std.proofs.lemmas.Bool.{cases_lt, cases_eq, eq-eqb, ne_eqb, leb-true, le-leb, cond-true}
use Rattle.theory.specs.Orders.{Order, rising, to_and_fro, Splits, upward, splits, RisingLawful, ToAndFroLawful, SplitsLawful}
use Rattle.theory.specs.Lists.{Among, Distinct, below}
use Rattle.theory.proofs.Lists.{among_map, map_among, distinct_map_on, among_count, count_among, distinct_count}

within_upward : (n k : ℕ) → Among k (below (suc n)) → k ≤ n
within_upward n k h = omega (arith, count_among 0 (suc n) k h)

among_upward : (n k : ℕ) → k ≤ n → Among k (below (suc n))
among_upward n k h = among_count 0 (suc n) k (omega arith) (omega arith)

pub upward-splits : Splits upward
upward-splits = record { once = λ n. distinct_count 0 (suc n); within = within_upward; each = among_upward }

-- up to the top, the splits are the order's answers
pub splits_at : (top : ℕ) (at : ℕ → ℕ → ℕ) (n : ℕ) → n ≤ top → splits top at n ≡ map (at n) (below (suc n))
splits_at top at n h = cond-true (leb n top) (map (at n) (below (suc n))) (upward n) (le-leb n top h)

-- and the rising order's are the numbers from 0 up
map_same : (xs : List ℕ) → map (λ x. x) xs ≡ xs
map_same [] = refl
map_same (x ∷ xs) = ap (λ l. x ∷ l) (map_same xs)

pub splits-rising : (top n : ℕ) → splits top rising n ≡ upward n
splits-rising top n = ap (λ l. cond (leb n top) l (upward n)) (map_same (below (suc n))) ∙ both (leb n top)
  where
    both : (b : Bool) → cond b (upward n) (upward n) ≡ upward n
    both true = refl
    both false = refl

module _ (top : ℕ) (at : ℕ → ℕ → ℕ) (law : Order top at) where
  once_at : (n : ℕ) (b : Bool) → (b ≡ true → n ≤ top) → Distinct (cond b (map (at n) (below (suc n))) (below (suc n)))
  once_at n true w = distinct_map_on (at n) (below (suc n)) (λ i j h g e. law.once n i j (w refl) (within_upward n i h) (within_upward n j g) e) (distinct_count 0 (suc n))
  once_at n false w = distinct_count 0 (suc n)

  within_at : (n k : ℕ) (b : Bool) → (b ≡ true → n ≤ top) → Among k (cond b (map (at n) (below (suc n))) (below (suc n))) → k ≤ n
  within_at n k true w h =
      let t = map_among (at n) k (below (suc n)) h in
      omega (arith, law.within n t.0 (w refl) (within_upward n t.0 t.1), t.2)
  within_at n k false w h = within_upward n k h

  each_at : (n k : ℕ) (b : Bool) → (b ≡ true → n ≤ top) → k ≤ n → Among k (cond b (map (at n) (below (suc n))) (below (suc n)))
  each_at n k true w h =
      let t = law.each n k (w refl) h in
      subst (λ (x : ℕ). Among x (map (at n) (below (suc n)))) t.2 (among_map (at n) t.0 (below (suc n)) (among_upward n t.0 t.1))
  each_at n k false w h = among_upward n k h

pub splits_lawful : SplitsLawful
splits_lawful top at law = record {
  once = λ n. once_at top at law n (leb n top) (leb-true n top);
  within = λ n k. within_at top at law n k (leb n top) (leb-true n top);
  each = λ n k. each_at top at law n k (leb n top) (leb-true n top);
}

pub rising_lawful : RisingLawful
rising_lawful top = record { within = λ n i w h. h; once = λ n i j w h g e. e; each = λ n k w h. (k, h, refl) }

-- to and fro: the answer at an even and at an odd place

even_at : (n i : ℕ) → i % 2 ≡ 0 → to_and_fro n i ≡ i / 2
even_at n i e = ap (λ b. cond b (i / 2) (n - (i - 1) / 2)) (eq-eqb (i % 2) 0 e)

odd_at : (n i : ℕ) → i % 2 ≡ 1 → to_and_fro n i ≡ n - (i - 1) / 2
odd_at n i e = ap (λ b. cond b (i / 2) (n - (i - 1) / 2)) (ne_eqb (i % 2) 0 (λ q. omega arith))

even_or_odd : (i : ℕ) → (i % 2 ≡ 0) ⊎ (i % 2 ≡ 1)
even_or_odd i = ⊎_elim (λ (e : i % 2 ≡ 0). inl e) (λ (e : i % 2 ≡ 0 → ⊥). inr (omega arith)) (cases_eq (i % 2) 0)

pub to_and_fro_lawful : ToAndFroLawful
to_and_fro_lawful top = record {
  within = λ n i w h.
      ⊎_elim (λ (e : i % 2 ≡ 0). omega (arith, even_at n i e)) (λ (e : i % 2 ≡ 1). omega (arith, odd_at n i e)) (even_or_odd i);
  once = λ n i j w h g q.
      ⊎_elim
      (λ (e : i % 2 ≡ 0). ⊎_elim (λ (f : j % 2 ≡ 0). omega (arith, even_at n i e, even_at n j f)) (λ (f : j % 2 ≡ 1). omega (arith, even_at n i e, odd_at n j f)) (even_or_odd j))
      (λ (e : i % 2 ≡ 1). ⊎_elim (λ (f : j % 2 ≡ 0). omega (arith, odd_at n i e, even_at n j f)) (λ (f : j % 2 ≡ 1). omega (arith, odd_at n i e, odd_at n j f)) (even_or_odd j))
      (even_or_odd i);
  each = λ n k w h.
      ⊎_elim
      (λ (l : n < 2 * k). (2 * (n - k) + 1, omega arith, odd_at n (2 * (n - k) + 1) (omega arith) ∙ omega arith))
      (λ (l : 2 * k ≤ n). (2 * k, l, even_at n (2 * k) (omega arith) ∙ omega arith))
      (cases_lt n (2 * k));
}
