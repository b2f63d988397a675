-- The items' rows: what writes of them keep, and what they are by the names' rows. Assumes nothing.
use Rattle.std.proofs.Common.{◌≡◌, ℕ, suc, ◌+◌, ◌-◌, ◌<◌, ◌≤◌, cond, eqb, ◌⊎◌, List, ◌∷◌, length, drop, set, sym, ap, ◌∙◌, subst, ap₂, ⊎_elim, add-one, arith, drop-cons}
use Rattle.std.proofs.lemmas.List.{drop_all}
use Rattle.std.proofs.lemmas.Bool.{cases_eq, cases_lt}
use Rattle.theory.specs.Kinds.{Kind, Laws}
use Rattle.theory.specs.Families.{name, Family as Rules, Defined, item_count, tail_at}
use Rattle.theory.specs.Lists.{below}
use Rattle.theory.specs.Totals.{sum_of, item_value, tail_value}
use Rattle.theory.specs.Tables.{entry_at, item_row, rows, tail_entry}
use Rattle.theory.proofs.Items.{tail_known}
use Rattle.theory.proofs.Sums.{sum_more}
use Rattle.theory.proofs.Tables.{tail_same}
use Rattle.files.specs.Grammars.{Lists}
use Rattle.files.specs.Items.{item_at}
use Rattle.files.specs.Models.{item_model, model, alternative_model}
use Rattle.files.specs.declared.item.Label.{Label}
use Rattle.files.specs.declared.item.Alternative.{Alternative}
use Rattle.tables.specs.Tables.{entries, entry_of}
use Rattle.tables.specs.Fillings.{Changed, Right, Wrote, Stands}
use Rattle.tables.proofs.Views.{entry_same, entry_inside, put_changed, changed_none, changed_wider, changed_then}
use Rattle.tables.proofs.Stored.{length-alternative, item_there}

module _ {K : Type 0} (o : Kind K) (laws : Laws o) (F : Rules) (defined : Defined F) (N : ℕ) where
  -- a right entry stays right where neither it nor the names' entries change
  pub right_same : (t u : List K) (j k : ℕ) → ((y m : ℕ) → y < length F → m ≤ k → entry_of o N u y m ≡ entry_of o N t y m) → entry_of o N u (item_row F j) k ≡ entry_of o N t (item_row F j) k → Right o F N t j k → Right o F N u j k
  right_same t u j k same here right =
      here ∙ right ∙ sym (tail_same o laws (length F) k (entry_of o N u) (entry_of o N t) same (tail_at F j) k (tail_known F defined j) (omega arith))

  module _ (n : ℕ) (low : n ≤ N) where
    pub wrote_none : (P : ℕ → Type 0) (t : List K) → ((j : ℕ) → P j → ⊥) → Wrote o F N n P t t
    wrote_none P t none = record { new = λ j h x. absurd (none j x); still = λ j h r. r; changed = changed_none o N n (λ r. length F ≤ r) t }

    pub wrote_fewer : (P R : ℕ → Type 0) (t u : List K) → ((j : ℕ) → R j → P j) → Wrote o F N n P t u → Wrote o F N n R t u
    wrote_fewer P R t u fewer w = record { new = λ j h x. w.new j h (fewer j x); still = w.still; changed = w.changed }

    pub wrote_then : (P Q R : ℕ → Type 0) (t u v : List K) → ((j : ℕ) → R j → P j ⊎ Q j) → Wrote o F N n P t u → Wrote o F N n Q u v → Wrote o F N n R t v
    wrote_then P Q R t u v split a b = record {
      new = λ j h x. ⊎_elim (λ (p : P j). b.still j h (a.new j h p)) (λ (q : Q j). b.new j h q) (split j x);
      still = λ j h r. b.still j h (a.still j h r);
      changed = changed_then o N n (λ r. length F ≤ r) t u v a.changed b.changed;
    }

    -- one item's entry is written
    module _ (t : List K) (i : ℕ) (v : K) (there : i < item_count F) (room : entries (rows F) N ≤ length t) (right : v ≡ tail_value o (entry_of o N t) (tail_at F i) n) where
      abbrev after : List K
      after = set t (entry_at N (item_row F i) n) v

      only : Changed o N n (λ q. q ≡ item_row F i) t after
      only = put_changed o N n t (item_row F i) v low

      names_kept : (k y m : ℕ) → k ≤ N → y < length F → m ≤ k → entry_of o N after y m ≡ entry_of o N t y m
      names_kept k y m w h l = only y m (omega arith) (λ e x. omega arith)

      new_here : Right o F N after i n
      new_here =
          entry_same o N t (item_row F i) n v (entry_inside o N (rows F) (item_row F i) n (length t) (omega arith) low room)
          ∙ right
          ∙ sym (tail_same o laws (length F) n (entry_of o N after) (entry_of o N t) (λ y m h l. names_kept n y m low h l) (tail_at F i) n (tail_known F defined i) (omega arith))

      pub put_wrote : Wrote o F N n (λ j. j ≡ i) t after
      put_wrote = record {
        new = λ j h e. subst (λ (x : ℕ). Right o F N after x n) (sym e) new_here;
        still = λ j h r.
            ⊎_elim
            (λ (e : j ≡ i). subst (λ (x : ℕ). Right o F N after x n) (sym e) new_here)
            (λ (e : j ≡ i → ⊥). right_same t after j n (λ y m w l. names_kept n y m low w l) (only (item_row F j) n low (λ z x. e (omega arith))) r)
            (cases_eq j i);
        changed = changed_wider o N n (λ q. q ≡ item_row F i) (λ q. length F ≤ q) t after (λ q x. omega arith) only;
      }

    pub put_wrote_at : (t u : List K) (i r : ℕ) (v : K) → i < item_count F → entries (rows F) N ≤ length t → v ≡ tail_value o (entry_of o N t) (tail_at F i) n → r ≡ item_row F i → u ≡ set t (entry_at N r n) v → Wrote o F N n (λ j. j ≡ i) t u
    put_wrote_at t u i r v there room right row is =
        subst (λ (x : List K). Wrote o F N n (λ j. j ≡ i) t x) (sym (is ∙ ap (λ q. set t (entry_at N q n) v) row)) (put_wrote t i v there room right)

    -- what a writing of items keeps
    module _ (P : ℕ → Type 0) (t u : List K) (w : Wrote o F N n P t u) where
      pub wrote_names : (y k : ℕ) → y < length F → k ≤ N → entry_of o N u y k ≡ entry_of o N t y k
      wrote_names y k h l = w.changed y k l (λ e x. omega arith)

      pub wrote_lower : (r k : ℕ) → k < n → entry_of o N u r k ≡ entry_of o N t r k
      wrote_lower r k h = w.changed r k (omega arith) (λ e x. omega arith)

      pub wrote_right : ((j k : ℕ) → j < item_count F → k < n → Right o F N t j k) → (j k : ℕ) → j < item_count F → k < n → Right o F N u j k
      wrote_right right j k h l = right_same t u j k (λ y m b c. wrote_names y m b (omega arith)) (wrote_lower (item_row F j) k l) (right j k h l)

-- the items from i on, below m
abbrev pub From : ℕ → ℕ → ℕ → Type 0
From i m j = (i ≤ j) × (j < m)

-- one split of the size n of the tail at a place of an alternative
abbrev pub split_term : {K : Type 0} → Kind K → (ℕ → ℕ → K) → List Label → Alternative → ℕ → ℕ → ℕ → K
split_term o e ls a p n k = o.product (item_value o e (item_model ls (item_at a p)) k) (tail_value o e (drop (p + 1) (alternative_model ls a)) (n - k))

-- a sum from 0 up, one number more
pub sum_step : {K : Type 0} (o : Kind K) → Laws o → (f : ℕ → K) (k : ℕ) (x y z : K) → x ≡ sum_of o f (below k) → y ≡ f k → z ≡ o.sum x y → z ≡ sum_of o f (below (k + 1))
sum_step o laws f k x y z p q r = r ∙ ap₂ o.sum p q ∙ sym (ap (λ m. sum_of o f (below m)) (add-one k) ∙ sum_more o laws f k)

-- the entry of what begins at a place of an alternative
module _ {K : Type 0} (o : Kind K) (e : ℕ → ℕ → K) (ls : List Label) (a : Alternative) (full : a.count ≤ length a.items) (r p n : ℕ) where
  pub entry_some : p < a.count → tail_entry o e r (drop p (alternative_model ls a)) n ≡ e r n
  entry_some h = ap (λ z. tail_entry o e r z n) (drop-cons (alternative_model ls a) p (name 0) (omega (arith, length-alternative ls a full)))

  pub entry_past : a.count ≤ p → tail_entry o e r (drop p (alternative_model ls a)) n ≡ cond (eqb n 0) o.unit o.none
  entry_past h = ap (λ z. tail_entry o e r z n) (drop_all p (alternative_model ls a) (omega (arith, length-alternative ls a full)))

  value_past : a.count ≤ p → tail_value o e (drop p (alternative_model ls a)) n ≡ cond (eqb n 0) o.unit o.none
  value_past h = ap (λ z. tail_value o e z n) (drop_all p (alternative_model ls a) (omega (arith, length-alternative ls a full)))

module _ {K : Type 0} (o : Kind K) (l : Lists) (a : Alternative) (s : Stands l a) (N : ℕ) (t : List K) where
  filled : a.count ≤ length a.items
  filled = omega (arith, s.six, s.full)

  -- is its value, where that entry is right
  pub rest_value : (r p n : ℕ) → r ≡ item_row (model l) (a.first + p) → (p < a.count → Right o (model l) N t (a.first + p) n) → tail_entry o (entry_of o N t) r (drop p (alternative_model l.labels a)) n ≡ tail_value o (entry_of o N t) (drop p (alternative_model l.labels a)) n
  rest_value r p n row right =
      ⊎_elim
      (λ (h : p < a.count). entry_some o (entry_of o N t) l.labels a filled r p n h ∙ ap (λ q. entry_of o N t q n) row ∙ right h ∙ ap (λ z. tail_value o (entry_of o N t) z n) (s.tail p h))
      (λ (h : a.count ≤ p). entry_past o (entry_of o N t) l.labels a filled r p n h ∙ sym (value_past o (entry_of o N t) l.labels a filled r p n h))
      (cases_lt p a.count)

  -- a tail's value by its item and the rest
  pub tail_sum : (p n m : ℕ) → m ≡ suc n → p < a.count → sum_of o (split_term o (entry_of o N t) l.labels a p n) (below m) ≡ tail_value o (entry_of o N t) (tail_at (model l) (a.first + p)) n
  tail_sum p n m e h =
      ap (λ z. sum_of o (split_term o (entry_of o N t) l.labels a p n) (below z)) e
      ∙ ap (λ z. sum_of o (λ k. o.product (item_value o (entry_of o N t) (item_model l.labels (item_at a p)) k) (tail_value o (entry_of o N t) (drop z (alternative_model l.labels a)) (n - k))) (below (suc n))) (add-one p)
      ∙ sym (ap (λ z. tail_value o (entry_of o N t) z n) (s.tail p h
      ∙ drop-cons (alternative_model l.labels a) p (name 0) (omega (arith, length-alternative l.labels a filled))
      ∙ ap (λ i. i ∷ drop (suc p) (alternative_model l.labels a)) (item_there l.labels a p (name 0) h filled)))
