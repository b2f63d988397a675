-- A list resolved in place, one element after another. Assumes nothing.
use Rattle.std.proofs.Common.{◌≡◌, ℕ, ◌+◌, ◌<◌, List, [], ◌∷◌, ◌++◌, length, get_or, take, drop, set, sym, refl, ap, ◌∙◌, append_assoc, add-zero, add-one, arith, length-set, drop-cons}
use Rattle.std.proofs.lemmas.List.{take_more_set, drop-drop, drop-set-lt, get_or-drop}
use Rattle.files.specs.Faults.{Answer, granted, refused}
use Rattle.files.specs.Files.{next, each}

pub next_again : {X Y Z : Type 0} (a : Answer X) (f : X → Answer Y) (g : Y → Answer Z) → next (next a f) g ≡ next a (λ x. next (f x) g)
next_again (granted x) f g = refl
next_again (refused k p n) f g = refl

module _ {X : Type 0} (f : X → Answer X) (xs : List X) where
  -- the first i are done, and the rest is as it was
  pub record Partway (i : ℕ) (cur : List X) : Type 0 where
    pub long : length cur ≡ length xs
    pub rest : drop i cur ≡ drop i xs
    pub so_far : each f xs ≡ next (each f (drop i xs)) (λ ys. granted (take i cur ++ ys))

  -- the element at i is still as it was
  unread : (i : ℕ) (cur : List X) (d : X) → Partway i cur → get_or cur i d ≡ get_or xs i d
  unread i cur d p =
      let same : i + 0 ≡ i = add-zero i in
      ap (λ n. get_or cur n d) (sym same) ∙ sym (get_or-drop i cur 0 d) ∙ ap (λ l. get_or l 0 d) p.rest ∙ get_or-drop i xs 0 d ∙ ap (λ n. get_or xs n d) same

  -- what is left to do at i
  left : (i : ℕ) (d : X) → i < length xs → each f (drop i xs) ≡ next (f (get_or xs i d)) (λ y. next (each f (drop (i + 1) xs)) (λ ys. granted (y ∷ ys)))
  left i d h = ap (each f) (drop-cons xs i d h) ∙ ap (λ n. next (f (get_or xs i d)) (λ y. next (each f (drop n xs)) (λ ys. granted (y ∷ ys)))) (sym (add-one i))

  pub onward : (i : ℕ) (cur : List X) (d y : X) → i < length xs → Partway i cur → f (get_or cur i d) ≡ granted y → Partway (i + 1) (set cur i y)
  onward i cur d y h p e =
      let was : f (get_or xs i d) ≡ granted y = ap f (sym (unread i cur d p)) ∙ e in
      let inside : i < length cur = omega (arith, p.long) in
      let front : take (i + 1) (set cur i y) ≡ take i cur ++ (y ∷ []) = take_more_set cur i y inside in
      let joined : (ys : List X) → take (i + 1) (set cur i y) ++ ys ≡ take i cur ++ (y ∷ ys) = λ ys. ap (λ l. l ++ ys) front ∙ append_assoc (take i cur) (y ∷ []) ys in
      record {
        long = length-set cur i y ∙ p.long;
        rest = drop-set-lt (i + 1) cur i y (omega arith) ∙ sym (drop-drop 1 i cur) ∙ ap (drop 1) p.rest ∙ drop-drop 1 i xs;
        so_far =
            p.so_far
            ∙ ap (λ a. next a (λ ys. granted (take i cur ++ ys))) (left i d h ∙ ap (λ a. next a (λ z. next (each f (drop (i + 1) xs)) (λ ys. granted (z ∷ ys)))) was)
            ∙ next_again (each f (drop (i + 1) xs)) (λ ys. granted (y ∷ ys)) (λ ys. granted (take i cur ++ ys))
            ∙ ap (λ g. next (each f (drop (i + 1) xs)) g) (λ j ys. granted (sym (joined ys) j));
      }
