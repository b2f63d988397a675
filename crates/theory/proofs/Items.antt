-- The numbers of the items, and the tails that begin with them. Assumes nothing.
use Rattle.std.proofs.Common.{◌≡◌, ℕ, zero, suc, ◌+◌, ◌-◌, ◌<◌, ◌≤◌, ◌⊎◌, List, [], ◌∷◌, ◌++◌, length, get_or, take, drop, sym, refl, ap, ◌∙◌, subst, ap₂, inl, inr, append_assoc, le_of_suc-le-suc, not-suc-le-zero, add-zero, add_assoc, zero-add, arith, length-append}
use Rattle.std.specs.List.{flat_map}
use Rattle.std.proofs.lemmas.Bool.{cases_lt}
use Rattle.theory.specs.Families.{
  Item,
  name,
  literal,
  Family,
  alternatives,
  alternative,
  Known,
  Defined,
  tails,
  all_tails,
  item_count,
  tail_at,
  items_in,
  items_under,
  first_item,
  ItemAt,
  ItemsAreNumbered,
}

-- what is left behind a front
pub drop-front : {A : Type 0} (xs ys : List A) (n m : ℕ) → m ≡ length xs + n → drop m (xs ++ ys) ≡ drop n ys
drop-front [] ys n m e = ap (λ x. drop x ys) (e ∙ zero-add n)
drop-front (x ∷ xs) ys n zero e = absurd (omega arith)
drop-front (x ∷ xs) ys n (suc m) e = drop-front xs ys n m (omega arith)

-- how many

pub length-tails : (is : List Item) → length (tails is) ≡ length is
length-tails [] = refl
length-tails (i ∷ is) = ap suc (length-tails is)

pub length-all : (alts : List (List Item)) → length (flat_map tails alts) ≡ items_in alts
length-all [] = refl
length-all (is ∷ alts) = length-append (tails is) (flat_map tails alts) ∙ ap₂ ◌+◌ (length-tails is) (length-all alts)

pub item_count_is : (F : Family) → item_count F ≡ items_under F
item_count_is [] = refl
item_count_is (alts ∷ F) = length-append (flat_map tails alts) (all_tails F) ∙ ap₂ ◌+◌ (length-all alts) (item_count_is F)

-- the first items of the alternatives one after another

pub first_item_zero : (F : Family) → first_item F 0 0 ≡ 0
first_item_zero F = refl

items_more : (alts : List (List Item)) (a : ℕ) → a < length alts → items_in (take (suc a) alts) ≡ items_in (take a alts) + length (get_or alts a [])
items_more [] a h = absurd (not-suc-le-zero h)
items_more (is ∷ alts) zero h = omega arith
items_more (is ∷ alts) (suc a) h = omega (arith, items_more alts a (le_of_suc-le-suc h))

items_whole : (alts : List (List Item)) → items_in (take (length alts) alts) ≡ items_in alts
items_whole [] = refl
items_whole (is ∷ alts) = ap (λ n. length is + n) (items_whole alts)

under_more : (F : Family) (y : ℕ) → y < length F → items_under (take (suc y) F) ≡ items_under (take y F) + items_in (alternatives F y)
under_more [] y h = absurd (not-suc-le-zero h)
under_more (alts ∷ F) zero h = omega arith
under_more (alts ∷ F) (suc y) h = omega (arith, under_more F y (le_of_suc-le-suc h))

-- the next alternative begins behind this one's items
pub first_item-next : (F : Family) (y a : ℕ) → a < length (alternatives F y) → first_item F y (suc a) ≡ first_item F y a + length (alternative F y a)
first_item-next F y a h = omega (arith, items_more (alternatives F y) a h)

-- and the next name's first one behind this one's last
pub first_item_name : (F : Family) (y : ℕ) → y < length F → first_item F (suc y) 0 ≡ first_item F y (length (alternatives F y))
first_item_name F y h = omega (arith, under_more F y h, items_whole (alternatives F y))

pub items_in-++ : (xs ys : List (List Item)) → items_in (xs ++ ys) ≡ items_in xs + items_in ys
items_in-++ [] ys = sym (zero-add (items_in ys))
items_in-++ (is ∷ xs) ys = omega (arith, items_in-++ xs ys)

pub items_under-++ : (F G : Family) → items_under (F ++ G) ≡ items_under F + items_under G
items_under-++ [] G = sym (zero-add (items_under G))
items_under-++ (alts ∷ F) G = omega (arith, items_under-++ F G)

-- the list begins with the tails of the items
abbrev pub Begins : List (List Item) → List Item → Type 0
Begins ts [] = Unit
Begins [] (i ∷ is) = ⊥
Begins (t ∷ ts) (i ∷ is) = (t ≡ i ∷ is) × Begins ts is

pub begins_head : (ts : List (List Item)) (j : ℕ) (i : Item) (is : List Item) → Begins (drop j ts) (i ∷ is) → (j < length ts) × (get_or ts j [] ≡ i ∷ is) × Begins (drop (suc j) ts) is
begins_head [] zero i is h = absurd h
begins_head [] (suc j) i is h = absurd h
begins_head (t ∷ ts) zero i is h = (omega arith, h.0, h.1)
begins_head (t ∷ ts) (suc j) i is h = let q = begins_head ts j i is h in (omega (arith, q.0), q.1, q.2)

begins_tails : (is : List Item) (ts : List (List Item)) → Begins (tails is ++ ts) is
begins_tails [] ts = tt
begins_tails (i ∷ is) ts = (refl, begins_tails is ts)

begins_alternative : (alts : List (List Item)) (a : ℕ) (ts : List (List Item)) → a < length alts → Begins (drop (items_in (take a alts)) (flat_map tails alts ++ ts)) (get_or alts a [])
begins_alternative [] a ts h = absurd (not-suc-le-zero h)
begins_alternative (is ∷ alts) zero ts h = subst (λ (l : List (List Item)). Begins l is) (sym (append_assoc (tails is) (flat_map tails alts) ts)) (begins_tails is (flat_map tails alts ++ ts))
begins_alternative (is ∷ alts) (suc a) ts h =
    let n = items_in (take a alts) in
    subst (λ (l : List (List Item)). Begins l (get_or alts a []))
    (sym (ap (drop (length is + n)) (append_assoc (tails is) (flat_map tails alts) ts) ∙ drop-front (tails is) (flat_map tails alts ++ ts) n (length is + n) (ap (λ x. x + n) (sym (length-tails is)))))
    (begins_alternative alts a ts (le_of_suc-le-suc h))

pub begins_name : (F : Family) (y a : ℕ) → a < length (alternatives F y) → Begins (drop (first_item F y a) (all_tails F)) (alternative F y a)
begins_name [] y a h = absurd (not-suc-le-zero h)
begins_name (alts ∷ F) zero a h =
    subst (λ (n : ℕ). Begins (drop n (flat_map tails alts ++ all_tails F)) (get_or alts a [])) (sym (zero-add (items_in (take a alts)))) (begins_alternative alts a (all_tails F) h)
begins_name (alts ∷ F) (suc y) a h =
    subst (λ (l : List (List Item)). Begins l (alternative F y a))
    (sym (drop-front (flat_map tails alts) (all_tails F) (first_item F y a) (first_item (alts ∷ F) (suc y) a) (add_assoc (items_in alts) (items_under (take y F)) (items_in (take a (alternatives F y))) ∙ ap (λ x. x + first_item F y a) (sym (length-all alts)))))
    (begins_name F y a h)

-- at each of its places the list of all tails begins with the tails of the tail there

abbrev Runs : List (List Item) → Type 0
Runs [] = Unit
Runs (t ∷ ts) = Begins (t ∷ ts) t × Runs ts

runs_tails : (is : List Item) (ts : List (List Item)) → Runs ts → Runs (tails is ++ ts)
runs_tails [] ts r = r
runs_tails (i ∷ is) ts r = ((refl, begins_tails is ts), runs_tails is ts r)

runs_alternatives : (alts : List (List Item)) (ts : List (List Item)) → Runs ts → Runs (flat_map tails alts ++ ts)
runs_alternatives [] ts r = r
runs_alternatives (is ∷ alts) ts r = subst Runs (sym (append_assoc (tails is) (flat_map tails alts) ts)) (runs_tails is (flat_map tails alts ++ ts) (runs_alternatives alts ts r))

runs_all : (F : Family) → Runs (all_tails F)
runs_all [] = tt
runs_all (alts ∷ F) = runs_alternatives alts (all_tails F) (runs_all F)

runs_at : (ts : List (List Item)) (j : ℕ) → Runs ts → Begins (drop j ts) (get_or ts j [])
runs_at [] j r = tt
runs_at (t ∷ ts) zero r = r.0
runs_at (t ∷ ts) (suc j) r = runs_at ts j r.1

pub begins_item : (F : Family) (j : ℕ) → Begins (drop j (all_tails F)) (tail_at F j)
begins_item F j = runs_at (all_tails F) j (runs_all F)

-- each item's number, and each number's item

begins_at : (ts : List (List Item)) (j p : ℕ) (is : List Item) → Begins (drop j ts) is → p < length is → (j + p < length ts) × (get_or ts (j + p) [] ≡ drop p is)
begins_at ts j p [] b h = absurd (not-suc-le-zero h)
begins_at ts j zero (i ∷ is) b h =
    let q = begins_head ts j i is b in (subst (λ (n : ℕ). n < length ts) (sym (add-zero j)) q.0, ap (λ n. get_or ts n []) (add-zero j) ∙ q.1)
begins_at ts j (suc p) (i ∷ is) b h =
    let q = begins_head ts j i is b in
    let r = begins_at ts (suc j) p is q.2 (le_of_suc-le-suc h) in
    let e : suc j + p ≡ j + suc p = omega arith in
    (subst (λ (n : ℕ). n < length ts) e r.0, ap (λ n. get_or ts n []) (sym e) ∙ r.1)

-- a place in an alternative that there is
pub some_alternative : (alts : List (List Item)) (a p : ℕ) → p < length (get_or alts a []) → a < length alts
some_alternative [] a p h = absurd (not-suc-le-zero h)
some_alternative (is ∷ alts) zero p h = omega arith
some_alternative (is ∷ alts) (suc a) p h = let t = some_alternative alts a p h in omega arith

pub some_name : (F : Family) (y a : ℕ) → a < length (alternatives F y) → y < length F
some_name [] y a h = absurd (not-suc-le-zero h)
some_name (alts ∷ F) zero a h = omega arith
some_name (alts ∷ F) (suc y) a h = let t = some_name F y a h in omega arith

pub item_at : (F : Family) (y a p : ℕ) → p < length (alternative F y a) → ItemAt F y a p (first_item F y a + p)
item_at F y a p h =
    let q = begins_at (all_tails F) (first_item F y a) p (alternative F y a) (begins_name F y a (some_alternative (alternatives F y) a p h)) h in
    record { is = refl; within = q.0; tail = q.1 }

in_alternatives : (alts : List (List Item)) (j : ℕ) → j < items_in alts → (a : ℕ) × (p : ℕ) × (p < length (get_or alts a [])) × (j ≡ items_in (take a alts) + p)
in_alternatives [] j h = absurd (not-suc-le-zero h)
in_alternatives (is ∷ alts) j h =
    split (cases_lt j (length is)) (λ l. in_alternatives alts (j - length is) l)
  where
    split : (j < length is) ⊎ (length is ≤ j) → (j - length is < items_in alts → (a : ℕ) × (p : ℕ) × (p < length (get_or alts a [])) × (j - length is ≡ items_in (take a alts) + p)) →
        (a : ℕ) × (p : ℕ) × (p < length (get_or (is ∷ alts) a [])) × (j ≡ items_in (take a (is ∷ alts)) + p)
    split (inl l) more = (0, j, l, sym (zero-add j))
    split (inr l) more = let t = more (omega arith) in let e = t.3 in (suc t.0, t.1, t.2, omega arith)

in_family : (F : Family) (j : ℕ) → j < items_under F → (y : ℕ) × (a : ℕ) × (p : ℕ) × (p < length (alternative F y a)) × (j ≡ first_item F y a + p)
in_family [] j h = absurd (not-suc-le-zero h)
in_family (alts ∷ F) j h =
    split (cases_lt j (items_in alts)) (λ l. in_family F (j - items_in alts) l)
  where
    split : (j < items_in alts) ⊎ (items_in alts ≤ j) → (j - items_in alts < items_under F → (y : ℕ) × (a : ℕ) × (p : ℕ) × (p < length (alternative F y a)) × (j - items_in alts ≡ first_item F y a + p)) →
        (y : ℕ) × (a : ℕ) × (p : ℕ) × (p < length (alternative (alts ∷ F) y a)) × (j ≡ first_item (alts ∷ F) y a + p)
    split (inl l) more = let t = in_alternatives alts j l in let e = t.3 in (0, t.0, t.1, t.2, omega arith)
    split (inr l) more = let t = more (omega arith) in let e = t.4 in (suc t.0, t.1, t.2, t.3, omega arith)

pub items_numbered : ItemsAreNumbered
items_numbered F = record {
  count = item_count_is F;
  number = item_at F;
  place = λ j h.
      let t = in_family F j (subst (λ (n : ℕ). j < n) (item_count_is F) h) in
      let b = some_alternative (alternatives F t.0) t.1 t.2 t.3 in
      let e = t.4 in
      (t.0, t.1, t.2, some_name F t.0 t.1 b, b, t.3, subst (ItemAt F t.0 t.1 t.2) (sym e) (item_at F t.0 t.1 t.2 t.3));
}

-- the names of a tail are defined

pub known-rest : (m : ℕ) (i : Item) (is : List Item) → Known m (i ∷ is) → Known m is
known-rest m (literal x s c) is known = known
known-rest m (name y) is known = known.1

abbrev AllKnown : ℕ → List (List Item) → Type 0
AllKnown m [] = Unit
AllKnown m (t ∷ ts) = Known m t × AllKnown m ts

known-tails : (m : ℕ) (is : List Item) (ts : List (List Item)) → Known m is → AllKnown m ts → AllKnown m (tails is ++ ts)
known-tails m [] ts known all = all
known-tails m (i ∷ is) ts known all = (known, known-tails m is ts (known-rest m i is known) all)

known-alternatives : (m : ℕ) (alts : List (List Item)) (ts : List (List Item)) → ((a : ℕ) → Known m (get_or alts a [])) → AllKnown m ts → AllKnown m (flat_map tails alts ++ ts)
known-alternatives m [] ts known all = all
known-alternatives m (is ∷ alts) ts known all =
    subst (AllKnown m) (sym (append_assoc (tails is) (flat_map tails alts) ts)) (known-tails m is (flat_map tails alts ++ ts) (known 0) (known-alternatives m alts ts (λ a. known (suc a)) all))

known-all : (m : ℕ) (F : Family) → ((y a : ℕ) → Known m (alternative F y a)) → AllKnown m (all_tails F)
known-all m [] known = tt
known-all m (alts ∷ F) known = known-alternatives m alts (all_tails F) (λ a. known 0 a) (known-all m F (λ y a. known (suc y) a))

known_at : (m : ℕ) (ts : List (List Item)) (j : ℕ) → AllKnown m ts → Known m (get_or ts j [])
known_at m [] j all = tt
known_at m (t ∷ ts) zero all = all.0
known_at m (t ∷ ts) (suc j) all = known_at m ts j all.1

pub tail_known : (F : Family) → Defined F → (j : ℕ) → Known (length F) (tail_at F j)
tail_known F defined j = known_at (length F) (all_tails F) j (known-all (length F) F defined)
