-- What a write to one entry of a table leaves. Assumes nothing.
use Rattle.std.proofs.Common.{◌≡◌, ℕ, ◌<◌, ◌≤◌, List, length, set, refl, ◌∙◌, arith, get_or-set_other, get_or-set_same}
use Rattle.theory.specs.Kinds.{Kind}
use Rattle.theory.specs.Tables.{entry_at}
use Rattle.theory.proofs.Tables.{entries_placed}
use Rattle.tables.specs.Tables.{entries, entry_of}
use Rattle.tables.specs.Fillings.{Changed}

module _ {K : Type 0} (o : Kind K) (N : ℕ) where
  pub entry_other : (t : List K) (r n q k : ℕ) (v : K) → n ≤ N → k ≤ N → (k ≡ n → q ≡ r → ⊥) → entry_of o N (set t (entry_at N r n) v) q k ≡ entry_of o N t q k
  entry_other t r n q k v h w apart =
      get_or-set_other t (entry_at N r n) (entry_at N q k) v o.none (λ e. let s = (entries_placed N 0).once q k r n w h e in apart s.1 s.0)

  pub entry_same : (t : List K) (r n : ℕ) (v : K) → entry_at N r n < length t → entry_of o N (set t (entry_at N r n) v) r n ≡ v
  entry_same t r n v h = get_or-set_same t (entry_at N r n) v o.none h

  -- the entry of a row that there is
  pub entry_inside : (R r n size : ℕ) → r < R → n ≤ N → entries R N ≤ size → entry_at N r n < size
  entry_inside R r n size h w room = omega (arith, (entries_placed N R).within r n h w)

  module _ (n : ℕ) where
    pub put_changed : (t : List K) (r : ℕ) (v : K) → n ≤ N → Changed o N n (λ q. q ≡ r) t (set t (entry_at N r n) v)
    put_changed t r v w q k l apart = entry_other t r n q k v w l apart

    pub changed_none : (W : ℕ → Type 0) (t : List K) → Changed o N n W t t
    changed_none W t q k l apart = refl

    pub changed_wider : (V W : ℕ → Type 0) (t u : List K) → ((q : ℕ) → V q → W q) → Changed o N n V t u → Changed o N n W t u
    changed_wider V W t u more c q k l apart = c q k l (λ e x. apart e (more q x))

    pub changed_then : (W : ℕ → Type 0) (t u v : List K) → Changed o N n W t u → Changed o N n W u v → Changed o N n W t v
    changed_then W t u v c d q k l apart = d q k l apart ∙ c q k l apart
