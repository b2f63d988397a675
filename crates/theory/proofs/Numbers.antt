-- Each layout has one number. Assumes nothing.
use Rattle.std.proofs.Common.{◌≡◌, ℕ, zero, suc, ◌+◌, ◌-◌, ◌*◌, ◌/◌, ◌<◌, ◌≤◌, true, false, eqb, List, [], ◌∷◌, ◌++◌, map, length, get_or, sym, refl, ap, ◌∙◌, subst, ap₂, ⊎_elim, append_assoc, le_of_suc-le-suc, not-suc-le-zero, mul-le-mul_right, mod-eq_of_lt, suc-mul, mul-zero, zero-add, zero-mul, add-one, arith, length-append}
use mathlib.Core.List.{head-eq_of_cons-eq, tail-eq_of_cons-eq}
use native.Mathlib.Nat.{div-eq_of_lt, div-eq-sub-div, mod-eq-sub-mod}
use lib.ListN.{length-map}
use Rattle.std.specs.List.{flat_map}
use Rattle.std.proofs.lemmas.Bool.{true≢false, cases_Bool, cases_lt, and_from, and_parts, eq-eqb, eqb-true, cond-true, cond-false}
use Rattle.std.proofs.lemmas.List.{get_or_append_left, get_or-append_right, get_or-append-add, get_or-map}
use Rattle.theory.specs.Orders.{splits}
use Rattle.theory.specs.Lists.{Among, Distinct, below}
use Rattle.theory.specs.Families.{Item, name, literal, Family, alternative}
use Rattle.theory.specs.Layouts.{Forest, end, leaf, node, Layout, plain, chosen, join, ForestValid, LayoutOf, forest_choices, choices, ChoicesTell}
use Rattle.theory.specs.Sequence.{pairs, item_layouts, forests, layouts, ListsLayouts}
use Rattle.theory.specs.Numbers.{layout, choice_lists, same_list, place_of, number_of, LayoutsNumbered, PairsNumbered}
use Rattle.theory.proofs.Lists.{distinct_map_on, getD_among, among_getD, getD_once, joined_map}
use Rattle.theory.proofs.Orders.{splits_at}
use Rattle.theory.proofs.Sequence.{sequence_lists_layouts}

-- pairs

pub length_pairs : (ps : List Layout) (rs : List Forest) → length (pairs ps rs) ≡ length ps * length rs
length_pairs [] rs = sym (zero-mul (length rs))
length_pairs (p ∷ ps) rs = length-append (map (join p) rs) (pairs ps rs) ∙ omega (arith, length-map rs (join p), length_pairs ps rs, suc-mul (length ps) (length rs))

some_rest : (ps : List Layout) (rs : List Forest) (x : ℕ) → x < length ps * length rs → 0 < length rs
some_rest ps rs x h =
    ⊎_elim
    (λ (l : 0 < length rs). l)
    (λ (l : length rs ≤ 0). let z : length rs ≡ 0 = omega arith in let y : length ps * length rs ≡ 0 = ap (λ v. length ps * v) z ∙ mul-zero (length ps) in absurd (omega arith))
    (cases_lt 0 (length rs))

pub pairs_numbered : PairsNumbered
pairs_numbered [] rs x h = absurd (not-suc-le-zero (subst (λ (v : ℕ). x < v) (zero-mul (length rs)) h))
pairs_numbered (p ∷ ps) rs x h =
    ⊎_elim
    (λ (l : x < length rs).
    get_or_append_left (map (join p) rs) (pairs ps rs) end x (omega (arith, length-map rs (join p)))
    ∙ get_or-map (join p) rs x end end l
    ∙ ap₂ (λ (q r : ℕ). join (get_or (p ∷ ps) q plain) (get_or rs r end)) (sym (div-eq_of_lt l)) (sym (mod-eq_of_lt l)))
    (λ (l : length rs ≤ x).
    let s = suc-mul (length ps) (length rs) in
    let b : x - length rs < length ps * length rs = omega arith in
    get_or-append_right (map (join p) rs) (pairs ps rs) (length rs) x end (length-map rs (join p)) l
    ∙ pairs_numbered ps rs (x - length rs) b
    ∙ ap₂ (λ (q r : ℕ). join (get_or (p ∷ ps) q plain) (get_or rs r end)) (sym (div-eq-sub-div (some_rest ps rs (x - length rs) b) l ∙ add-one ((x - length rs) / length rs))) (sym (mod-eq-sub-mod l)))
    (cases_lt x (length rs))

-- the same by the item's number q and the rest's number r

pub pair_within : (a b q r : ℕ) → q < a → r < b → q * b + r < a * b
pair_within a b q r h w =
    let m : suc q * b ≤ a * b = mul-le-mul_right b h in
    let e = suc-mul q b in
    omega arith

pub pair_at : (ps : List Layout) (rs : List Forest) (q r : ℕ) → q < length ps → r < length rs → get_or (pairs ps rs) (q * length rs + r) end ≡ join (get_or ps q plain) (get_or rs r end)
pair_at [] rs q r h w = absurd (not-suc-le-zero h)
pair_at (p ∷ ps) rs zero r h w =
    ap (λ x. get_or (pairs (p ∷ ps) rs) x end) (ap (λ x. x + r) (zero-mul (length rs)) ∙ zero-add r)
    ∙ get_or_append_left (map (join p) rs) (pairs ps rs) end r (omega (arith, length-map rs (join p)))
    ∙ get_or-map (join p) rs r end end w
pair_at (p ∷ ps) rs (suc q) r h w =
    let e : suc q * length rs + r ≡ length (map (join p) rs) + (q * length rs + r) = omega (arith, suc-mul q (length rs), length-map rs (join p)) in
    ap (λ x. get_or (pairs (p ∷ ps) rs) x end) e
    ∙ get_or-append-add (map (join p) rs) (pairs ps rs) (q * length rs + r) end
    ∙ pair_at ps rs q r (le_of_suc-le-suc h) w

-- the choices of a forest, before others, tell both
tells : (F : Family) (is : List Item) (t s : Forest) (cs ds : List ℕ) → ForestValid F is t → ForestValid F is s → forest_choices t ++ cs ≡ forest_choices s ++ ds → (t ≡ s) × (cs ≡ ds)
tells F [] end end cs ds v w e = (refl, e)
tells F [] end (leaf r) cs ds v w e = absurd w
tells F [] end (node a u r) cs ds v w e = absurd w
tells F [] (leaf r) s cs ds v w e = absurd v
tells F [] (node a u r) s cs ds v w e = absurd v
tells F (literal x l c ∷ is) end s cs ds v w e = absurd v
tells F (literal x l c ∷ is) (leaf r) end cs ds v w e = absurd w
tells F (literal x l c ∷ is) (leaf r) (leaf q) cs ds v w e = let t = tells F is r q cs ds v w e in (ap leaf t.0, t.1)
tells F (literal x l c ∷ is) (leaf r) (node a u q) cs ds v w e = absurd w
tells F (literal x l c ∷ is) (node a u r) s cs ds v w e = absurd v
tells F (name y ∷ is) end s cs ds v w e = absurd v
tells F (name y ∷ is) (leaf r) s cs ds v w e = absurd v
tells F (name y ∷ is) (node a u r) end cs ds v w e = absurd w
tells F (name y ∷ is) (node a u r) (leaf q) cs ds v w e = absurd w
tells F (name y ∷ is) (node a u r) (node b t q) cs ds v w e =
    let h : a ≡ b = head-eq_of_cons-eq e in
    let k : forest_choices u ++ (forest_choices r ++ cs) ≡ forest_choices t ++ (forest_choices q ++ ds) = sym (append_assoc (forest_choices u) (forest_choices r) cs) ∙ tail-eq_of_cons-eq e ∙ append_assoc (forest_choices t) (forest_choices q) ds in
    let x = tells F (alternative F y a) u t (forest_choices r ++ cs) (forest_choices q ++ ds) v.1 (subst (λ (c : ℕ). ForestValid F (alternative F y c) t) (sym h) w.1) k in
    let z = tells F is r q cs ds v.2 w.2 x.1 in
    let l = x.0 in
    let m = z.0 in
    (cc, z.1)

pub choices_tell : ChoicesTell
choices_tell F y plain q v w e = absurd v
choices_tell F y (chosen a u) plain v w e = absurd w
choices_tell F y (chosen a u) (chosen b t) v w e =
    let h : a ≡ b = head-eq_of_cons-eq e in
    let k : forest_choices u ++ [] ≡ forest_choices t ++ [] = ap (λ l. l ++ []) (tail-eq_of_cons-eq e) in
    let x = (tells F (alternative F y a) u t [] [] v.1 (subst (λ (c : ℕ). ForestValid F (alternative F y c) t) (sym h) w.1) k).0 in
    cc

-- the place of a choice list

same_refl : (xs : List ℕ) → same_list xs xs ≡ true
same_refl [] = refl
same_refl (x ∷ xs) = and_from (eqb x x) (same_list xs xs) (eq-eqb x x refl) (same_refl xs)

same_eq : (xs ys : List ℕ) → same_list xs ys ≡ true → xs ≡ ys
same_eq [] [] e = refl
same_eq [] (y ∷ ys) e = absurd (true≢false (sym e))
same_eq (x ∷ xs) [] e = absurd (true≢false (sym e))
same_eq (x ∷ xs) (y ∷ ys) e =
    let t = and_parts (eqb x y) (same_list xs ys) e in
    ap (λ v. v ∷ xs) (eqb-true x y t.0) ∙ ap (λ v. y ∷ v) (same_eq xs ys t.1)

pub place_is : (xss : List (List ℕ)) (x : ℕ) → Distinct xss → x < length xss → place_of (get_or xss x []) xss ≡ x
place_is [] x u l = absurd (not-suc-le-zero l)
place_is (xs ∷ xss) zero u l = cond-true (same_list xs xs) 0 (suc (place_of xs xss)) (same_refl xs)
place_is (xs ∷ xss) (suc x) u l =
    let k : x < length xss = le_of_suc-le-suc l in
    ⊎_elim
    (λ (e : same_list (get_or xss x []) xs ≡ true). absurd (u.0 (subst (λ (v : List ℕ). Among v xss) (same_eq (get_or xss x []) xs e) (getD_among [] xss x k))))
    (λ (e : same_list (get_or xss x []) xs ≡ false). cond-false (same_list (get_or xss x []) xs) 0 (suc (place_of (get_or xss x []) xss)) e ∙ ap suc (place_is xss x u.1 k))
    (cases_Bool (same_list (get_or xss x []) xs))

-- the numbers of the layouts

pub layouts_numbered : LayoutsNumbered
layouts_numbered S law F nul adopted y n = record {
  fits = fits;
  once = λ x z l k e. getD_once plain (layouts S F y n) x z lists.once l k e;
  has = has;
  back = back;
  again = λ l f.
      let t = has l f in
      let e : number_of S F y n (choices l) ≡ t.0 = ap (λ v. number_of S F y n (choices v)) (sym t.2) ∙ back t.0 t.1 in
      ap (layout S F y n) e ∙ t.2;
}
  where
    lists : ListsLayouts F (name y) n (layouts S F y n)
    lists = sequence_lists_layouts S law F nul adopted y n

    fits : (x : ℕ) → x < length (layouts S F y n) → LayoutOf F (name y) n (layout S F y n x)
    fits x l = lists.sound (layout S F y n x) (getD_among plain (layouts S F y n) x l)

    has : (l : Layout) → LayoutOf F (name y) n l → (x : ℕ) × (x < length (layouts S F y n)) × (layout S F y n x ≡ l)
    has l f = among_getD plain l (layouts S F y n) (lists.complete l f)

    lists_apart : Distinct (choice_lists S F y n)
    lists_apart = distinct_map_on choices (layouts S F y n) (λ l k a b e. choices_tell F y l k (lists.sound l a).valid (lists.sound k b).valid e) lists.once

    back : (x : ℕ) → x < length (layouts S F y n) → number_of S F y n (choices (layout S F y n x)) ≡ x
    back x l =
        let g : get_or (choice_lists S F y n) x [] ≡ choices (layout S F y n x) = get_or-map choices (layouts S F y n) x plain [] l in
        let m : length (choice_lists S F y n) ≡ length (layouts S F y n) = length-map (layouts S F y n) choices in
        ap (λ v. place_of v (choice_lists S F y n)) (sym g) ∙ place_is (choice_lists S F y n) x lists_apart (omega arith)

-- the forests of a tail as a list of pieces: one for each answer of the order
pub forests_pieces : (top : ℕ) (at : ℕ → ℕ → ℕ) (L : ℕ → ℕ → List Layout) (i : Item) (is : List Item) (n : ℕ) → n ≤ top →
    forests (splits top at) L (i ∷ is) n ≡ flat_map (λ j. pairs (item_layouts L i (at n j)) (forests (splits top at) L is (n - at n j))) (below (suc n))
forests_pieces top at L i is n h =
    ap (flat_map (λ k. pairs (item_layouts L i k) (forests (splits top at) L is (n - k)))) (splits_at top at n h)
    ∙ joined_map (λ k. pairs (item_layouts L i k) (forests (splits top at) L is (n - k))) (at n) (below (suc n))
