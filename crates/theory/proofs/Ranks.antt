-- A family without empty cycles has ranks: how many names a name reaches. Assumes nothing.
use Rattle.std.proofs.Common.{◌≡◌, ℕ, zero, suc, ◌+◌, ◌<◌, ◌≤◌, Bool, true, false, cond, ◌&&◌, eqb, ◌⊎◌, List, [], ◌∷◌, length, get_or, sym, refl, ap, ◌∙◌, subst, inl, inr, ⊎_elim, le_of_suc-le-suc, not-suc-le-zero, eq-or-lt_of_le, arith}
use Rattle.std.proofs.lemmas.Bool.{true≢false, cases_Bool, and_from, and_parts, or_cases, or_left, or_right, eqb-true}
use Rattle.theory.specs.Lists.{Among, any, below}
use Rattle.theory.specs.Families.{Item, name, literal, Family, alternatives, alternative, Known, Defined}
use Rattle.theory.specs.Nullable.{
  all_empty,
  Closed,
  leads_in,
  leads,
  Chain,
  last,
  step,
  EmptyCycle,
  Adopted,
  through,
  reaches,
  ClosureFindsChains,
  ClosureAdopts,
  Ranks,
  AcyclicHasRanks,
  RanksExcludeCycles,
}
use Rattle.theory.proofs.Lists.{among_count, length-count}
use Rattle.theory.proofs.Items.{some_name}

-- how many pass a test

pub tally : (ℕ → Bool) → List ℕ → ℕ
tally p [] = 0
tally p (x ∷ xs) = cond (p x) 1 0 + tally p xs

bit_le : (a b : Bool) → (a ≡ true → b ≡ true) → cond a 1 0 ≤ cond b 1 0
bit_le true true h = omega arith
bit_le true false h = absurd (true≢false (sym (h refl)))
bit_le false true h = omega arith
bit_le false false h = omega arith

pub tally_le : (p q : ℕ → Bool) (xs : List ℕ) → ((x : ℕ) → p x ≡ true → q x ≡ true) → tally p xs ≤ tally q xs
unfolding tally
tally_le p q [] h = omega arith
tally_le p q (x ∷ xs) h = omega (arith, bit_le (p x) (q x) (h x), tally_le p q xs h)

pub tally_lt : (p q : ℕ → Bool) (x : ℕ) (xs : List ℕ) → ((x : ℕ) → p x ≡ true → q x ≡ true) → Among x xs → p x ≡ false → q x ≡ true → tally p xs < tally q xs
unfolding tally
tally_lt p q x [] h w a b = absurd w
tally_lt p q x (z ∷ xs) h (inl e) a b =
    let c : cond {A = ℕ} (p z) 1 0 ≡ 0 = ap (λ v. cond v 1 0) (ap p (sym e) ∙ a) in
    let d : cond {A = ℕ} (q z) 1 0 ≡ 1 = ap (λ v. cond v 1 0) (ap q (sym e) ∙ b) in
    omega (arith, tally_le p q xs h)
tally_lt p q x (z ∷ xs) h (inr w) a b = omega (arith, bit_le (p z) (q z) (h z), tally_lt p q x xs h w a b)

pub tally_all : (xs : List ℕ) → tally (λ x. true) xs ≡ length xs
unfolding tally
tally_all [] = refl
tally_all (x ∷ xs) = omega (arith, tally_all xs)

-- an alternative's step is the name's

pub any_at : {A : Type 0} (f : A → Bool) (xs : List A) (d : A) (i : ℕ) → i < length xs → f (get_or xs i d) ≡ true → any f xs ≡ true
any_at f [] d i h e = absurd (not-suc-le-zero h)
any_at f (x ∷ xs) d zero h e = or_left (f x) (any f xs) e
any_at f (x ∷ xs) d (suc i) h e = or_right (f x) (any f xs) (any_at f xs d i (le_of_suc-le-suc h) e)

pub at_any : {A : Type 0} (f : A → Bool) (xs : List A) (d : A) → any f xs ≡ true → (i : ℕ) × (i < length xs) × (f (get_or xs i d) ≡ true)
at_any f [] d e = absurd (true≢false (sym e))
at_any f (x ∷ xs) d e =
    ⊎_elim (λ (h : f x ≡ true). (0, omega arith, h)) (λ (h : any f xs ≡ true). let t = at_any f xs d h in (suc t.0, omega (arith, t.1), t.2)) (or_cases (f x) (any f xs) e)

-- a name to which an alternative leads is among its items
pub leads_in-known : (nul : ℕ → Bool) (m z : ℕ) (is : List Item) → Known m is → leads_in nul z is ≡ true → z < m
leads_in-known nul m z [] known h = absurd (true≢false (sym h))
leads_in-known nul m z (literal x s c ∷ is) known h = leads_in-known nul m z is known (and_parts (eqb s 0) (leads_in nul z is) h).1
leads_in-known nul m z (name y ∷ is) known h =
    ⊎_elim
    (λ (q : (eqb y z && all_empty nul is) ≡ true). let e = eqb-true y z (and_parts (eqb y z) (all_empty nul is) q).0 in omega (arith, known.0))
    (λ (q : (nul y && leads_in nul z is) ≡ true). leads_in-known nul m z is known.1 (and_parts (nul y) (leads_in nul z is) q).1)
    (or_cases (eqb y z && all_empty nul is) (nul y && leads_in nul z is) h)

module _ (F : Family) (nul : ℕ → Bool) where
  -- one chain after another
  pub chains : {z y w : ℕ} → Chain F nul y w → Chain F nul w z → Chain F nul y z
  chains {z} (last {x = y} {y = w} e) d = step w e d
  chains {z} (step v e c) d = step v e (chains c d)

  through_chain : (k y z : ℕ) → through F nul k y z ≡ true → Chain F nul y z
  through_chain zero y z h = last h
  through_chain (suc k) y z h =
      ⊎_elim
      (λ (q : through F nul k y z ≡ true). through_chain k y z q)
      (λ (q : (through F nul k y k && through F nul k k z) ≡ true).
      let t = and_parts (through F nul k y k) (through F nul k k z) q in
      chains (through_chain k y k t.0) (through_chain k k z t.1))
      (or_cases (through F nul k y z) (through F nul k y k && through F nul k k z) h)

  through_step : (k y z : ℕ) → leads F nul y z ≡ true → through F nul k y z ≡ true
  through_step zero y z h = h
  through_step (suc k) y z h = or_left (through F nul k y z) (through F nul k y k && through F nul k k z) (through_step k y z h)

  -- one round more

  Goes : ℕ → ℕ → ℕ → Type 0
  Goes k y z = through F nul k y z ≡ true

  parts : (k y z : ℕ) → Goes (suc k) y z → Goes k y z ⊎ (Goes k y k × Goes k k z)
  unfolding Goes
  parts k y z h =
      ⊎_elim
      (λ (q : through F nul k y z ≡ true). inl q)
      (λ (q : (through F nul k y k && through F nul k k z) ≡ true). inr (and_parts (through F nul k y k) (through F nul k k z) q))
      (or_cases (through F nul k y z) (through F nul k y k && through F nul k k z) h)

  direct : (k y z : ℕ) → Goes k y z → Goes (suc k) y z
  unfolding Goes
  direct k y z h = or_left (through F nul k y z) (through F nul k y k && through F nul k k z) h

  by_way : (k y z : ℕ) → Goes k y k → Goes k k z → Goes (suc k) y z
  unfolding Goes
  by_way k y z a b = or_right (through F nul k y z) (through F nul k y k && through F nul k k z) (and_from (through F nul k y k) (through F nul k k z) a b)

  goes_joins : (k y w z : ℕ) → w < k → Goes k y w → Goes k w z → Goes k y z
  goes_joins zero y w z l a b = absurd (not-suc-le-zero l)
  goes_joins (suc k) y w z l a b = split (eq-or-lt_of_le (le_of_suc-le-suc l)) (parts k y w a) (parts k w z b)
      (λ l p q. goes_joins k y w z l p q) (λ l p q. goes_joins k y w k l p q) (λ l p q. goes_joins k k w z l p q)
    where
      to_k : w ≡ k → Goes k y w ⊎ (Goes k y k × Goes k k w) → Goes k y k
      to_k e (inl p) = subst (λ (v : ℕ). Goes k y v) e p
      to_k e (inr p) = p.0

      from_k : w ≡ k → Goes k w z ⊎ (Goes k w k × Goes k k z) → Goes k k z
      from_k e (inl p) = subst (λ (v : ℕ). Goes k v z) e p
      from_k e (inr p) = p.1

      split : (w ≡ k) ⊎ (w < k) → Goes k y w ⊎ (Goes k y k × Goes k k w) → Goes k w z ⊎ (Goes k w k × Goes k k z) →
          (w < k → Goes k y w → Goes k w z → Goes k y z) → (w < k → Goes k y w → Goes k w k → Goes k y k) → (w < k → Goes k k w → Goes k w z → Goes k k z) → Goes (suc k) y z
      split (inl e) p q f g h = by_way k y z (to_k e p) (from_k e q)
      split (inr l) (inl p) (inl q) f g h = direct k y z (f l p q)
      split (inr l) (inl p) (inr q) f g h = by_way k y z (g l p q.0) q.1
      split (inr l) (inr p) (inl q) f g h = by_way k y z p.0 (h l p.1 q)
      split (inr l) (inr p) (inr q) f g h = by_way k y z p.0 q.1

  module _ (known : Defined F) where
    pub step_known : (y z : ℕ) → leads F nul y z ≡ true → z < length F
    step_known y z h = let t = at_any (leads_in nul z) (alternatives F y) [] h in leads_in-known nul (length F) z (alternative F y t.0) (known y t.0) t.2

    chain_through : {y z : ℕ} → Chain F nul y z → through F nul (length F) y z ≡ true
    unfolding Goes
    chain_through (last {x = y} {y = z} e) = through_step (length F) y z e
    chain_through (step {x = y} {y = z} w e c) = goes_joins (length F) y w z (step_known y w e) (through_step (length F) y w e) (chain_through c)

-- the rank of a name: how many names it reaches
pub reached : Family → (ℕ → Bool) → ℕ → ℕ
reached F nul y = tally (reaches F nul y) (below (length F))

module _ (F : Family) (nul : ℕ → Bool) (defined : Defined F) (acyclic : (x : ℕ) → EmptyCycle F nul x → ⊥) where
  not_round : (y : ℕ) → reaches F nul y y ≡ false
  not_round y =
      ⊎_elim (λ (t : reaches F nul y y ≡ true). absurd (acyclic y (through_chain F nul (length F) y y t))) (λ (t : reaches F nul y y ≡ false). t) (cases_Bool (reaches F nul y y))

  reached_low : (y : ℕ) → y < length F → reached F nul y < length F
  unfolding reached
  reached_low y h =
      omega (arith, tally_lt (reaches F nul y) (λ x. true) y (below (length F)) (λ x e. refl) (among_count 0 (length F) y (omega arith) (omega arith)) (not_round y) refl, tally_all (below (length F)), length-count 0 (length F))

  reached_falls : (y z : ℕ) → leads F nul y z ≡ true → reached F nul z < reached F nul y
  unfolding reached Goes
  reached_falls y z e =
      let l = step_known F nul defined y z e in
      let r = through_step F nul (length F) y z e in
      tally_lt (reaches F nul z) (reaches F nul y) z (below (length F)) (λ x h. goes_joins F nul (length F) y z x l r h) (among_count 0 (length F) z (omega arith) (omega arith)) (not_round z) r

pub acyclic_has_ranks : AcyclicHasRanks
acyclic_has_ranks F nul a = record {
  rank = reached F nul;
  low = reached_low F nul a.defined a.acyclic;
  falls = reached_falls F nul a.defined a.acyclic;
}

-- a name with a step is one of the family's
pub leads-known : (F : Family) (nul : ℕ → Bool) (x y : ℕ) → leads F nul x y ≡ true → x < length F
leads-known F nul x y e = some_name F x (at_any (leads_in nul y) (alternatives F x) [] e).0 (at_any (leads_in nul y) (alternatives F x) [] e).1

pub chain_known : (F : Family) (nul : ℕ → Bool) {x y : ℕ} → Chain F nul x y → x < length F
chain_known F nul (last {x = x} {y = y} e) = leads-known F nul x y e
chain_known F nul (step {x = x} {y = y} w e c) = leads-known F nul x w e

pub closure_adopts : ClosureAdopts
closure_adopts F nul defined nullable none = record {
  defined = defined;
  nullable = nullable;
  acyclic = λ x c. true≢false (sym (chain_through F nul defined c) ∙ none x (chain_known F nul c));
}

pub closure_finds_chains : ClosureFindsChains
closure_finds_chains F nul defined x y = record { found = through_chain F nul (length F) x y; finds = chain_through F nul defined }

-- a chain leads to a lower rank
pub chain_falls : (F : Family) (nul : ℕ → Bool) (ranks : Ranks F nul) {x y : ℕ} → Chain F nul x y → ranks.rank y < ranks.rank x
chain_falls F nul ranks (last {x} {y} e) = ranks.falls x y e
chain_falls F nul ranks (step {x} {y} w e c) = omega (arith, ranks.falls x w e, chain_falls F nul ranks c)

pub ranks_exclude_cycles : RanksExcludeCycles
ranks_exclude_cycles F nul ranks x c = omega (arith, chain_falls F nul ranks c)

-- what the proofs on the sequence and on tables use of an adopted family
pub record Sorted (F : Family) (nul : ℕ → Bool) : Type 0 where
  pub defined : Defined F
  pub closed : Closed F nul
  pub rank : ℕ → ℕ
  pub low : (y : ℕ) → y < length F → rank y < length F
  pub falls : (y z a : ℕ) → a < length (alternatives F y) → leads_in nul z (alternative F y a) ≡ true → rank z < rank y

abbrev pub sorted_by : (F : Family) (nul : ℕ → Bool) → Defined F → Closed F nul → Ranks F nul → Sorted F nul
sorted_by F nul defined closed ranks = record {
  defined = defined;
  closed = closed;
  rank = ranks.rank;
  low = ranks.low;
  falls = λ y z a h e. ranks.falls y z (any_at (leads_in nul z) (alternatives F y) [] a h e);
}

pub sort : (F : Family) (nul : ℕ → Bool) → Adopted F nul → Sorted F nul
sort F nul a = sorted_by F nul a.defined a.nullable.closed (acyclic_has_ranks F nul a)
