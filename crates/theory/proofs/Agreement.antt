-- Two fillings agree where no step leads round. Assumes nothing.
use Rattle.std.proofs.Common.{◌≡◌, ℕ, ◌-◌, ◌<◌, ◌≤◌, Bool, true, false, ◌&&◌, eqb, ◌⊎◌, List, [], ◌∷◌, sym, refl, ap, ◌∙◌, ap₂, inl, inr, ⊎_elim, arith}
use Rattle.std.proofs.lemmas.Bool.{true≢false, cases_Bool, cases_lt, and_from, and_cases, or_left, or_right, eq-eqb}
use Rattle.theory.specs.Orders.{Splits}
use Rattle.theory.specs.Lists.{Among}
use Rattle.theory.specs.Families.{Item, name, literal, Known}
use Rattle.theory.specs.Nullable.{item_empty, all_empty, is_name, leads_in}

-- what the filling of a kind and the making of the sequence share
pub record Filling {P V : Type 0} (S : ℕ → List ℕ) (item : (ℕ → ℕ → P) → Item → ℕ → P) (tail : (ℕ → ℕ → P) → List Item → ℕ → V) (nil : P) (none : V) (times : P → V → V) (fold : (ℕ → V) → List ℕ → V) : Type 0 where
  pub item_name : (e : ℕ → ℕ → P) (y k : ℕ) → item e (name y) k ≡ e y k
  pub item_literal : (e f : ℕ → ℕ → P) (x : List ℕ) (s c k : ℕ) → item e (literal x s c) k ≡ item f (literal x s c) k
  pub literal_zero : (e : ℕ → ℕ → P) (x : List ℕ) (s c : ℕ) → eqb s 0 ≡ false → item e (literal x s c) 0 ≡ nil
  pub tail_nil : (e f : ℕ → ℕ → P) (n : ℕ) → tail e [] n ≡ tail f [] n
  pub tail_cons : (e : ℕ → ℕ → P) (i : Item) (is : List Item) (n : ℕ) → tail e (i ∷ is) n ≡ fold (λ k. times (item e i k) (tail e is (n - k))) (S n)
  pub nil_times : (v : V) → times nil v ≡ none
  pub times_none : (p : P) → times p none ≡ none
  pub fold_ext : (f g : ℕ → V) (ks : List ℕ) → ((k : ℕ) → Among k ks → f k ≡ g k) → fold f ks ≡ fold g ks
  pub fold_none : (f : ℕ → V) (ks : List ℕ) → ((k : ℕ) → Among k ks → f k ≡ none) → fold f ks ≡ none

module _
    {P V : Type 0} (S : ℕ → List ℕ) (law : Splits S)
    (item : (ℕ → ℕ → P) → Item → ℕ → P) (tail : (ℕ → ℕ → P) → List Item → ℕ → V) (nil : P) (none : V) (times : P → V → V) (fold : (ℕ → V) → List ℕ → V)
    (fill : Filling S item tail nil none times fold) (nul : ℕ → Bool) (m : ℕ) where
  pub rest-known : (i : Item) (is : List Item) → Known m (i ∷ is) → Known m is
  rest-known (literal x s c) is known = known
  rest-known (name y) is known = known.1

  -- nothing of size 0 where something cannot be empty
  module _ (e : ℕ → ℕ → P) (bare : (y : ℕ) → y < m → nul y ≡ false → e y 0 ≡ nil) where
    item_none : (i : Item) (is : List Item) → Known m (i ∷ is) → item_empty nul i ≡ false → item e i 0 ≡ nil
    item_none (literal x s c) is known h = fill.literal_zero e x s c h
    item_none (name y) is known h = fill.item_name e y 0 ∙ bare y known.0 h

    pub tail_none : (is : List Item) → Known m is → all_empty nul is ≡ false → tail e is 0 ≡ none
    tail_none [] known h = absurd (true≢false h)
    tail_none (i ∷ is) known h =
        let zero-split : times (item e i 0) (tail e is 0) ≡ none =
        ⊎_elim
        (λ (q : item_empty nul i ≡ false). ap (λ p. times p (tail e is 0)) (item_none i is known q) ∙ fill.nil_times (tail e is 0))
        (λ (q : all_empty nul is ≡ false). ap (times (item e i 0)) (tail_none is (rest-known i is known) q) ∙ fill.times_none (item e i 0))
        (and_cases (item_empty nul i) (all_empty nul is) h) in
        fill.tail_cons e i is 0
        ∙ fill.fold_none (λ k. times (item e i k) (tail e is (0 - k))) (S 0)
        (λ k w. let z : k ≡ 0 = omega (arith, law.within 0 k w) in ap (λ x. times (item e i x) (tail e is (0 - x))) z ∙ zero-split)

  module _
      (e f : ℕ → ℕ → P) (e-bare : (y : ℕ) → y < m → nul y ≡ false → e y 0 ≡ nil) (f-bare : (y : ℕ) → y < m → nul y ≡ false → f y 0 ≡ nil) where
    item_same : (i : Item) (is : List Item) (k : ℕ) → Known m (i ∷ is) → ((z : ℕ) → z < m → is_name z i ≡ true → e z k ≡ f z k) → item e i k ≡ item f i k
    item_same (literal x s c) is k known h = fill.item_literal e f x s c k
    item_same (name y) is k known h = fill.item_name e y k ∙ h y known.0 (eq-eqb y y refl) ∙ sym (fill.item_name f y k)

    -- the tails agree at n where the entries agree below n, and at n for the names beside which all can be empty
    pub agree : (is : List Item) (n : ℕ) → Known m is → ((z k : ℕ) → z < m → k < n → e z k ≡ f z k) → ((z : ℕ) → z < m → leads_in nul z is ≡ true → e z n ≡ f z n) → tail e is n ≡ tail f is n
    agree [] n known lower here = fill.tail_nil e f n
    agree (i ∷ is) n known lower here =
        fill.tail_cons e i is n
        ∙ fill.fold_ext (λ k. times (item e i k) (tail e is (n - k))) (λ k. times (item f i k) (tail f is (n - k))) (S n)
        (λ k w. each k (law.within n k w) (item_part k (law.within n k w))
        (tail_part k (law.within n k w)
        (λ q. agree is (n - k) (rest-known i is known) (λ z l b c. lower z l b (omega arith)) (λ z b c. lower z (n - k) b (omega (arith, law.within n k w))))
        (λ q. agree is n (rest-known i is known) lower (λ z b c. here z b (or_right (is_name z i && all_empty nul is) (item_empty nul i && leads_in nul z is) (and_from (item_empty nul i) (leads_in nul z is) q c))))))
        ∙ sym (fill.tail_cons f i is n)
      where
        Items : ℕ → Type 0
        Items k = item e i k ≡ item f i k

        Tails : ℕ → Type 0
        Tails k = tail e is (n - k) ≡ tail f is (n - k)

        NoTails : ℕ → Type 0
        NoTails k = (tail e is (n - k) ≡ none) × (tail f is (n - k) ≡ none)

        NoItems : ℕ → Type 0
        NoItems k = (item e i k ≡ nil) × (item f i k ≡ nil)

        each : (k : ℕ) → k ≤ n → Items k ⊎ NoTails k → Tails k ⊎ NoItems k → times (item e i k) (tail e is (n - k)) ≡ times (item f i k) (tail f is (n - k))
        each k w (inl a) (inl b) = ap₂ times a b
        each k w (inr a) b = ap (times (item e i k)) a.0 ∙ fill.times_none (item e i k) ∙ sym (ap (times (item f i k)) a.1 ∙ fill.times_none (item f i k))
        each k w (inl a) (inr b) = ap (λ p. times p (tail e is (n - k))) b.0 ∙ fill.nil_times (tail e is (n - k)) ∙ sym (ap (λ p. times p (tail f is (n - k))) b.1 ∙ fill.nil_times (tail f is (n - k)))

        at_end : (k : ℕ) → k ≡ n → (all_empty nul is ≡ true) ⊎ (all_empty nul is ≡ false) → Items k ⊎ NoTails k
        at_end k q (inl t) = inl (item_same i is k known (λ z b c. ap (e z) q ∙ here z b (or_left (is_name z i && all_empty nul is) (item_empty nul i && leads_in nul z is) (and_from (is_name z i) (all_empty nul is) c t)) ∙ sym (ap (f z) q)))
        at_end k q (inr t) =
            let o : n - k ≡ 0 = omega arith in
            inr (ap (tail e is) o ∙ tail_none e e-bare is (rest-known i is known) t, ap (tail f is) o ∙ tail_none f f-bare is (rest-known i is known) t)

        item_part : (k : ℕ) → k ≤ n → Items k ⊎ NoTails k
        item_part k w = ⊎_elim (λ (l : k < n). inl (item_same i is k known (λ z b c. lower z k b l))) (λ (l : n ≤ k). at_end k (omega arith) (cases_Bool (all_empty nul is))) (cases_lt k n)

        at_start : (k : ℕ) → k ≡ 0 → (item_empty nul i ≡ true → tail e is n ≡ tail f is n) → (item_empty nul i ≡ true) ⊎ (item_empty nul i ≡ false) → Tails k ⊎ NoItems k
        at_start k q all (inl t) = let o : n - k ≡ n = omega arith in inl (ap (tail e is) o ∙ all t ∙ sym (ap (tail f is) o))
        at_start k q all (inr t) = inr (ap (item e i) q ∙ item_none e e-bare i is known t, ap (item f i) q ∙ item_none f f-bare i is known t)

        tail_part : (k : ℕ) → k ≤ n → (0 < k → Tails k) → (item_empty nul i ≡ true → tail e is n ≡ tail f is n) → Tails k ⊎ NoItems k
        tail_part k w later all = ⊎_elim (λ (l : 0 < k). inl (later l)) (λ (l : k ≤ 0). at_start k (omega arith) all (cases_Bool (item_empty nul i))) (cases_lt 0 k)
