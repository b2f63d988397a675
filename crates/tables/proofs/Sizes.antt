-- Names by rank, and one size after another. Assumes nothing.
use Rattle.std.proofs.Common.{◌≡◌, ℕ, ◌+◌, ◌<◌, ◌≤◌, Bool, false, ◌⊎◌, List, length, set, sym, ◌∙◌, subst, inl, inr, ⊎_elim, arith}
use Rattle.std.proofs.lemmas.Bool.{cases_eq}
use Rattle.theory.specs.Kinds.{Kind, Laws}
use Rattle.theory.specs.Orders.{upward}
use Rattle.theory.specs.Families.{Family as Rules, item_count, tail_at}
use Rattle.theory.specs.Nullable.{Adopted, Ranks}
use Rattle.theory.specs.Totals.{total, tail_total, alternatives_value}
use Rattle.theory.specs.Tables.{entry_at, item_row, rows}
use Rattle.theory.proofs.Orders.{upward-splits}
use Rattle.theory.proofs.Items.{tail_known}
use Rattle.theory.proofs.Totals.{total-any_order, tail_total_value}
use Rattle.theory.proofs.Tables.{tail_same, filled_by_rank, total_bare}
use Rattle.tables.specs.Tables.{entries, entry_of, Totals}
use Rattle.tables.specs.Fillings.{Changed, Right, Wrote, Ready}
use Rattle.tables.proofs.Views.{entry_same, entry_inside, put_changed, changed_none, changed_wider, changed_then}
use Rattle.tables.proofs.Rows.{wrote_names, wrote_lower}

module _ {K : Type 0} (o : Kind K) (laws : Laws o) (F : Rules) (nul : ℕ → Bool) (adopted : Adopted F nul) (N : ℕ) where
  module _ (n : ℕ) (low : n ≤ N) (D : ℕ → Type 0) (t : List K) (ready : Ready o F nul N n D t) where
    -- the items' entries of lower sizes are right by the names'
    pub ready_right : (j k : ℕ) → j < item_count F → k < n → Right o F N t j k
    ready_right j k h l =
        ready.items j k h l
        ∙ tail_total_value o laws upward upward-splits F (tail_at F j) k
        ∙ sym (tail_same o laws (length F) k (entry_of o N t) (total o upward F) (λ y m b c. ready.names y m b (omega arith)) (tail_at F j) k (tail_known F adopted.defined j) (omega arith))

    -- a writing of items leaves all this
    pub ready_wrote : (P : ℕ → Type 0) (u : List K) → Wrote o F N n P t u → Ready o F nul N n D u
    ready_wrote P u w = record {
      bare = λ z h e. kept z 0 h (omega arith) ∙ ready.bare z h e;
      names = λ z k h l. kept z k h (omega arith) ∙ ready.names z k h l;
      items = λ j k h l. wrote_lower o laws F adopted.defined N n low P t u w (item_row F j) k l ∙ ready.items j k h l;
      here = λ z h d. kept z n h low ∙ ready.here z h d;
    }
      where
        kept : (y k : ℕ) → y < length F → k ≤ N → entry_of o N u y k ≡ entry_of o N t y k
        kept = wrote_names o laws F adopted.defined N n low P t u w

    -- more names, or fewer
    pub ready_fewer : (E : ℕ → Type 0) → ((z : ℕ) → z < length F → E z → D z) → Ready o F nul N n E t
    ready_fewer E fewer = record { bare = ready.bare; names = ready.names; items = ready.items; here = λ z h e. ready.here z h (fewer z h e) }

    -- one name more
    pub ready_more : (y : ℕ) (E : ℕ → Type 0) (u : List K) → Changed o N n (λ r. (r ≡ y) ⊎ (length F ≤ r)) t u → entry_of o N u y n ≡ total o upward F y n → ((z : ℕ) → z < length F → E z → D z ⊎ (z ≡ y)) → Ready o F nul N n E u
    ready_more y E u c new split = record {
      bare = λ z h e. ⊎_elim (λ (q : z ≡ y). same_bare z q h e (cases_eq n 0)) (λ (q : z ≡ y → ⊥). other z 0 h (omega arith) q ∙ ready.bare z h e) (cases_eq z y);
      names = λ z k h l. lower z k l ∙ ready.names z k h l;
      items = λ j k h l. lower (item_row F j) k l ∙ ready.items j k h l;
      here = λ z h e. ⊎_elim (λ (q : z ≡ y). at_new z q) (λ (q : z ≡ y → ⊥). other z n h low q ∙ ready.here z h (old z h e q)) (cases_eq z y);
    }
      where
        lower : (r k : ℕ) → k < n → entry_of o N u r k ≡ entry_of o N t r k
        lower r k l = c r k (omega arith) (λ e x. omega arith)

        other : (z k : ℕ) → z < length F → k ≤ N → (z ≡ y → ⊥) → entry_of o N u z k ≡ entry_of o N t z k
        other z k h l q = c z k l (λ e x. ⊎_elim q (λ (b : length F ≤ z). omega arith) x)

        at_new : (z : ℕ) → z ≡ y → entry_of o N u z n ≡ total o upward F z n
        at_new z q = subst (λ (x : ℕ). entry_of o N u x n ≡ total o upward F x n) (sym q) new

        old : (z : ℕ) → z < length F → E z → (z ≡ y → ⊥) → D z
        old z h e q = ⊎_elim (λ (d : D z). d) (λ (p : z ≡ y). absurd (q p)) (split z h e)

        same_bare : (z : ℕ) → z ≡ y → z < length F → nul z ≡ false → (n ≡ 0) ⊎ (n ≡ 0 → ⊥) → entry_of o N u z 0 ≡ o.none
        same_bare z q h e (inl p) = subst (λ (k : ℕ). entry_of o N u z k ≡ total o upward F z k) p (at_new z q) ∙ total_bare o laws upward upward-splits F nul adopted z e
        same_bare z q h e (inr p) = c z 0 (omega arith) (λ a x. p (sym a)) ∙ ready.bare z h e

    -- what the alternatives of a name sum up to, where all lower ranks are done
    pub name_is_total : (ranks : Ranks F nul) (y : ℕ) → ((z : ℕ) → z < length F → ranks.rank z < ranks.rank y → D z) → alternatives_value o F (entry_of o N t) y n ≡ total o upward F y n
    name_is_total ranks y done =
        filled_by_rank o laws upward upward-splits F nul adopted ranks (entry_of o N t) ready.bare y n ready.names (λ z h l. ready.here z h (done z h l))

    -- the size is done
    pub ready_size : (m : ℕ) → m ≡ n + 1 → ((z : ℕ) → z < length F → D z) → ((j : ℕ) → j < item_count F → Right o F N t j n) → Ready o F nul N m (λ z. ⊥) t
    ready_size m e all right = record {
      bare = ready.bare;
      names = names;
      items = λ j k h l. ⊎_elim (λ (q : k ≡ n). subst (λ (x : ℕ). entry_of o N t (item_row F j) x ≡ tail_total o upward F (tail_at F j) x) (sym q) (item j h)) (λ (q : k ≡ n → ⊥). ready.items j k h (omega arith)) (cases_eq k n);
      here = λ z h x. absurd x;
    }
      where
        names : (z k : ℕ) → z < length F → k < m → entry_of o N t z k ≡ total o upward F z k
        names z k h l =
            ⊎_elim (λ (q : k ≡ n). subst (λ (x : ℕ). entry_of o N t z x ≡ total o upward F z x) (sym q) (ready.here z h (all z h))) (λ (q : k ≡ n → ⊥). ready.names z k h (omega arith)) (cases_eq k n)

        item : (j : ℕ) → j < item_count F → entry_of o N t (item_row F j) n ≡ tail_total o upward F (tail_at F j) n
        item j h =
            right j h
            ∙ tail_same o laws (length F) n (entry_of o N t) (total o upward F) (λ y k b c. names y k b (omega arith)) (tail_at F j) n (tail_known F adopted.defined j) (omega arith)
            ∙ sym (tail_total_value o laws upward upward-splits F (tail_at F j) n)

  -- a name is done: its items were written, and then its sum
  pub record NameDone (n y : ℕ) (t u : List K) : Type 0 where
    pub value : entry_of o N u y n ≡ total o upward F y n
    pub only : Changed o N n (λ r. (r ≡ y) ⊎ (length F ≤ r)) t u

  pub name_done : (n : ℕ) → n ≤ N → (D P : ℕ → Type 0) (t u v : List K) (y : ℕ) (x : K) → Ready o F nul N n D t → Wrote o F N n P t u → y < length F → (ranks : Ranks F nul) → ((z : ℕ) → z < length F → ranks.rank z < ranks.rank y → D z) →
      x ≡ alternatives_value o F (entry_of o N u) y n → entries (rows F) N ≤ length u → v ≡ set u (entry_at N y n) x → NameDone n y t v
  name_done n low D P t u v y x ready w h ranks done sum room is = subst (NameDone n y t) (sym is) (record {
    value = entry_same o N u y n x (entry_inside o N (rows F) y n (length u) (omega arith) low room) ∙ sum ∙ name_is_total n low D u (ready_wrote n low D t ready P u w) ranks y done;
    only = changed_then o N n (λ r. (r ≡ y) ⊎ (length F ≤ r)) t u (set u (entry_at N y n) x)
        (changed_wider o N n (λ r. length F ≤ r) (λ r. (r ≡ y) ⊎ (length F ≤ r)) t u (λ q b. inr b) w.changed)
        (changed_wider o N n (λ r. r ≡ y) (λ r. (r ≡ y) ⊎ (length F ≤ r)) u (set u (entry_at N y n) x) (λ q b. inl b) (put_changed o N n u y x low));
  })

  -- a name that cannot be empty has its none at 0
  pub name_bare : (n y : ℕ) (D : ℕ → Type 0) (t : List K) → Ready o F nul N n D t → y < length F → n ≡ 0 → nul y ≡ false → NameDone n y t t
  name_bare n y D t ready h e bare = record {
    value = subst (λ (k : ℕ). entry_of o N t y k ≡ total o upward F y k) (sym e) (ready.bare y h bare ∙ sym (total_bare o laws upward upward-splits F nul adopted y bare));
    only = changed_none o N n (λ r. (r ≡ y) ⊎ (length F ≤ r)) t;
  }

  -- all sizes are done
  pub ready_all : (t : List K) (n : ℕ) (D : ℕ → Type 0) → N < n → Ready o F nul N n D t → Totals o F N t
  ready_all t n D h ready S law = record {
    names = λ y k b c. ready.names y k b (omega arith) ∙ total-any_order o laws upward S upward-splits law F y k;
    items = λ j k b c.
        ready.items j k b (omega arith)
        ∙ tail_total_value o laws upward upward-splits F (tail_at F j) k
        ∙ tail_same o laws (length F) k (total o upward F) (total o S F) (λ y m x z. total-any_order o laws upward S upward-splits law F y m) (tail_at F j) k (tail_known F adopted.defined j) (omega arith)
        ∙ sym (tail_total_value o laws S law F (tail_at F j) k);
  }

-- the none at 0, one name after another

abbrev pub Bare : {K : Type 0} → Kind K → ℕ → (ℕ → Bool) → List K → ℕ → Type 0
Bare o N nul t y = (z : ℕ) → z < y → nul z ≡ false → entry_of o N t z 0 ≡ o.none
