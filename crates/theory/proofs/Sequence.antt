-- The sequence does not change with more depth, so that it meets its own equation. Assumes nothing.
use Rattle.std.proofs.Common.{◌≡◌, ℕ, zero, suc, ◌+◌, ◌*◌, ◌<◌, ◌≤◌, max, Bool, true, false, cond, eqb, List, [], ◌∷◌, map, length, get_or, sym, refl, ap, ◌∙◌, subst, ⊎_elim, not-suc-le-zero, mul-le-mul_left, mul-suc, arith}
use Rattle.std.specs.List.{flat_map}
use Rattle.std.proofs.lemmas.Bool.{true≢false, cases_Bool, cases_lt, ne_eqb, eqb-false}
use Rattle.std.proofs.lemmas.List.{get_or_past}
use Rattle.theory.specs.Orders.{Splits}
use Rattle.theory.specs.Lists.{Among, below}
use Rattle.theory.specs.Families.{Item, name, Family, alternatives, alternative}
use Rattle.theory.specs.Layouts.{Layout, plain, chosen, LayoutOf, forest_depth, depth}
use Rattle.theory.specs.Sequence.{
  pairs,
  item_layouts,
  forests,
  name_layouts,
  layouts_within,
  layouts,
  tail_forests,
  ListsLayouts,
  SequenceListsLayouts,
  ListsForests,
  TailsListForests,
  SequenceUnfolds,
}
use Rattle.theory.specs.Nullable.{all_empty}
use Rattle.theory.proofs.Lists.{count_among, joined_ext, joined_none}
use Rattle.theory.proofs.Members.{forests_sound, forests_distinct, forests_complete, within_sound, within_distinct, within_complete}
use Rattle.theory.proofs.Ranks.{Sorted, sort}
use Rattle.theory.proofs.Agreement.{Filling, tail_none, agree}

-- lists as a filling

pairs_none : (ps : List Layout) → pairs ps [] ≡ []
pairs_none [] = refl
pairs_none (p ∷ ps) = pairs_none ps

pub cond_zero : {A : Type 0} (s : ℕ) (x y : A) → eqb s 0 ≡ false → cond (eqb 0 s) x y ≡ y
cond_zero s x y h = ap (λ b. cond b x y) (ne_eqb 0 s (λ q. eqb-false s 0 h (sym q)))

list_filling : (S : ℕ → List ℕ) → Filling S item_layouts (forests S) [] [] pairs flat_map
list_filling S = record {
  item_name = λ e y k. refl;
  item_literal = λ e f x s c k. refl;
  literal_zero = λ e x s c h. cond_zero s (plain ∷ []) [] h;
  tail_nil = λ e f n. refl;
  tail_cons = λ e i is n. refl;
  nil_times = λ v. refl;
  times_none = pairs_none;
  fold_ext = joined_ext;
  fold_none = joined_none;
}

-- the depth that suffices
module _ (F : Family) (nul : ℕ → Bool) (sorted : Sorted F nul) where
  pub enough : ℕ → ℕ → ℕ
  enough y n = length F * n + suc (sorted.rank y)

  pub enough_below : (z k n d : ℕ) → z < length F → k < n → length F * n ≤ d → enough z k ≤ d
  unfolding enough
  enough_below z k n d h l w =
      let a : length F * suc k ≤ length F * n = mul-le-mul_left (length F) l in
      let b = mul-suc (length F) k in
      let c = sorted.low z h in
      omega arith

  pub enough_layouts : (y n : ℕ) → y < length F → enough y n ≤ length F * suc n
  unfolding enough
  enough_layouts y n h = let a = mul-suc (length F) n in let c = sorted.low y h in omega arith

  pub enough_lower : (y z n d : ℕ) → sorted.rank z < sorted.rank y → enough y n ≤ suc d → enough z n ≤ d
  unfolding enough
  enough_lower y z n d h w = omega arith

  pub enough_rest : (y n d : ℕ) → enough y n ≤ suc d → length F * n ≤ d
  unfolding enough
  enough_rest y n d w = omega arith

  pub enough_not : (y n : ℕ) → enough y n ≤ 0 → ⊥
  unfolding enough
  enough_not y n w = omega arith

  -- an alternative of a name that cannot be empty cannot be empty
  pub not_all : (y a : ℕ) → Among a (below (length (alternatives F y))) → nul y ≡ false → all_empty nul (alternative F y a) ≡ false
  not_all y a w h =
      ⊎_elim
      (λ (t : all_empty nul (alternative F y a) ≡ true). absurd (true≢false (sym (sorted.closed y a (omega (arith, count_among 0 (length (alternatives F y)) a w)) t) ∙ h)))
      (λ (t : all_empty nul (alternative F y a) ≡ false). t)
      (cases_Bool (all_empty nul (alternative F y a)))

  module _ (S : ℕ → List ℕ) (law : Splits S) where
    pub within_bare : (d y : ℕ) → nul y ≡ false → layouts_within S F d y 0 ≡ []
    unfolding layouts_within
    within_bare zero y h = refl
    within_bare (suc d) y h =
        joined_none (λ a. map (chosen a) (forests S (layouts_within S F d) (alternative F y a) 0)) (below (length (alternatives F y)))
        (λ a w. ap (map (chosen a)) (tail_none S law item_layouts (forests S) [] [] pairs flat_map (list_filling S) nul (length F) (layouts_within S F d) (λ z b q. within_bare d z q) (alternative F y a) (sorted.defined y a) (not_all y a w h)))

    -- the sequence of one name from two tables that agree at lower sizes, and at this size at lower ranks
    level : (L K : ℕ → ℕ → List Layout) → ((z : ℕ) → z < length F → nul z ≡ false → L z 0 ≡ []) → ((z : ℕ) → z < length F → nul z ≡ false → K z 0 ≡ []) → (y n : ℕ) →
        ((z k : ℕ) → z < length F → k < n → L z k ≡ K z k) → ((z : ℕ) → z < length F → sorted.rank z < sorted.rank y → L z n ≡ K z n) →
        name_layouts S F L y n ≡ name_layouts S F K y n
    level L K bl bk y n lower here =
        joined_ext (λ a. map (chosen a) (forests S L (alternative F y a) n)) (λ a. map (chosen a) (forests S K (alternative F y a) n)) (below (length (alternatives F y)))
        (λ a w. ap (map (chosen a)) (agree S law item_layouts (forests S) [] [] pairs flat_map (list_filling S) nul (length F) L K bl bk (alternative F y a) n (sorted.defined y a) lower
        (λ z b q. here z b (sorted.falls y z a (omega (arith, count_among 0 (length (alternatives F y)) a w)) q))))

    pub stable : (d e y n : ℕ) → y < length F → enough y n ≤ d → enough y n ≤ e → layouts_within S F d y n ≡ layouts_within S F e y n
    unfolding layouts_within
    stable zero e y n h v w = absurd (enough_not y n v)
    stable (suc d) zero y n h v w = absurd (enough_not y n w)
    stable (suc d) (suc e) y n h v w =
        level (layouts_within S F d) (layouts_within S F e) (λ z b q. within_bare d z q) (λ z b q. within_bare e z q) y n
        (λ z k b l. stable d e z k b (enough_below z k n d b l (enough_rest y n d v)) (enough_below z k n e b l (enough_rest y n e w)))
        (λ z b q. stable d e z n b (enough_lower y z n d q v) (enough_lower y z n e q w))

    unfolds_at : (d y n : ℕ) → y < length F → enough y n ≤ d → layouts_within S F d y n ≡ name_layouts S F (layouts S F) y n
    unfolding layouts_within layouts
    unfolds_at zero y n h v = absurd (enough_not y n v)
    unfolds_at (suc d) y n h v =
        level (layouts_within S F d) (layouts S F) (λ z b q. within_bare d z q) (λ z b q. within_bare (length F * 1) z q) y n
        (λ z k b l. stable d (length F * suc k) z k b (enough_below z k n d b l (enough_rest y n d v)) (enough_layouts z k b))
        (λ z b q. stable d (length F * suc n) z n b (enough_lower y z n d q v) (enough_layouts z n b))

    complete_at : (y n : ℕ) (l : Layout) → y < length F → LayoutOf F (name y) n l → Among l (layouts S F y n)
    unfolding layouts
    complete_at y n l h f =
        let d = max (depth l) (length F * suc n) in
        let a = enough_layouts y n h in
        subst (λ (ls : List Layout). Among l ls) (stable d (length F * suc n) y n h (omega arith) a) (within_complete S law F d y n l f (omega arith))

-- past the names there is nothing

pub no_alternatives : (F : Family) (y : ℕ) → length F ≤ y → alternatives F y ≡ []
no_alternatives F y h = get_or_past F y [] h

name_layouts_past : (S : ℕ → List ℕ) (F : Family) (L : ℕ → ℕ → List Layout) (y n : ℕ) → length F ≤ y → name_layouts S F L y n ≡ []
name_layouts_past S F L y n h = ap (λ ts. flat_map (λ a. map (chosen a) (forests S L (get_or ts a []) n)) (below (length ts))) (no_alternatives F y h)

within_past : (S : ℕ → List ℕ) (F : Family) (d y n : ℕ) → length F ≤ y → layouts_within S F d y n ≡ []
unfolding layouts_within
within_past S F zero y n h = refl
within_past S F (suc d) y n h = name_layouts_past S F (layouts_within S F d) y n h

pub layouts_past : (S : ℕ → List ℕ) (F : Family) (y n : ℕ) → length F ≤ y → layouts S F y n ≡ []
unfolding layouts
layouts_past S F y n h = within_past S F (length F * suc n) y n h

pub layout-known : (F : Family) (y n : ℕ) (l : Layout) → LayoutOf F (name y) n l → y < length F
layout-known F y n plain f = absurd f.valid
layout-known F y n (chosen a u) f =
    ⊎_elim (λ (h : y < length F). h) (λ (h : length F ≤ y). absurd (not-suc-le-zero (subst (λ (ts : List (List Item)). a < length ts) (no_alternatives F y h) f.valid.0))) (cases_lt y (length F))

-- the theorems

module _ (F : Family) (nul : ℕ → Bool) (sorted : Sorted F nul) (S : ℕ → List ℕ) (law : Splits S) where
  pub sorted_unfolds : (y n : ℕ) → layouts S F y n ≡ name_layouts S F (layouts S F) y n
  unfolding layouts
  sorted_unfolds y n =
      ⊎_elim
      (λ (h : y < length F). unfolds_at F nul sorted S law (length F * suc n) y n h (enough_layouts F nul sorted y n h))
      (λ (h : length F ≤ y). layouts_past S F y n h ∙ sym (name_layouts_past S F (layouts S F) y n h))
      (cases_lt y (length F))

  pub sorted_lists : (y n : ℕ) → ListsLayouts F (name y) n (layouts S F y n)
  unfolding layouts
  sorted_lists y n = record {
    sound = within_sound S law F (length F * suc n) y n;
    complete = λ l f. complete_at F nul sorted S law y n l (layout-known F y n l f) f;
    once = within_distinct S law F (length F * suc n) y n;
  }

  pub sorted_tails : (is : List Item) (n : ℕ) → ListsForests F is n (tail_forests S F is n)
  sorted_tails is n = record {
    sound = forests_sound S law F (layouts S F) (λ y k. (sorted_lists y k).sound) is n;
    complete = λ t f. forests_complete S law F (layouts S F) (forest_depth t) (λ y k l g w. (sorted_lists y k).complete l g) is n t f (omega arith);
    once = forests_distinct S law F (layouts S F) (λ y k. (sorted_lists y k).sound) (λ y k. (sorted_lists y k).once) is n;
  }

pub sequence_unfolds : SequenceUnfolds
sequence_unfolds S law F nul a = sorted_unfolds F nul (sort F nul a) S law

pub sequence_lists_layouts : SequenceListsLayouts
sequence_lists_layouts S law F nul a = sorted_lists F nul (sort F nul a) S law

pub tails_list_forests : TailsListForests
tails_list_forests S law F nul a = sorted_tails F nul (sort F nul a) S law
