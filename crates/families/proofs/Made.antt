-- An array that is made by calls of a closure which leaves itself as it is. Assumes nothing.
use Rattle.std.proofs.Common.{◌≡◌, ℕ, zero, suc, ◌+◌, ◌<◌, List, get_or, sym, refl, subst, arith}
use denote.Param.Members.{Mut, Called}
use Rattle.std.specs.Array.{IsFromFnResult, IsFromFnResultFrom}

module _ {F B : Type 0} (g : Mut F (ℕ × Unit {0}) B) (f : F) (R : ℕ → B → Type 0) (call : (i : ℕ) (r : B) (q : F) → Called g f (i, tt) r q → (q ≡ f) × R i r) (ys : List B) (e : B) where
  made_from : (i n k : ℕ) (p : F) → p ≡ f → IsFromFnResultFrom g p ys i n → k < n → R (i + k) (get_or ys (i + k) e)
  made_from i zero k p s h l = absurd (omega arith)
  made_from i (suc n) zero p s h l =
      let t = call i h.1 h.0 (subst (λ v. Called g v (i, tt) h.1 h.0) s h.3) in
      let here : i ≡ i + 0 = omega arith in
      subst (λ k. R k (get_or ys k e)) here (subst (R i) (sym (h.2.1 e)) t.1)
  made_from i (suc n) (suc k) p s h l =
      let t = call i h.1 h.0 (subst (λ v. Called g v (i, tt) h.1 h.0) s h.3) in
      let there : i + 1 + k ≡ i + suc k = omega arith in
      subst (λ k. R k (get_or ys k e)) there (made_from (i + 1) n k h.0 t.0 h.4 (omega arith))

  pub made : (n k : ℕ) → IsFromFnResult g f ys n → k < n → R k (get_or ys k e)
  made n k h l = let here : 0 + k ≡ k = omega arith in subst (λ k. R k (get_or ys k e)) here (made_from 0 n k f refl h.each l)
