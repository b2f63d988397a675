-- One write after another to a table at one size. Assumes nothing.
use Rattle.std.proofs.Common.{◌≡◌, ℕ, ◌+◌, ◌<◌, ◌≤◌, ◌⊎◌, false, List, [], length, set, get_or, refl, sym, ap, ◌∙◌, subst, inl, inr, ⊎_elim, arith}
use Rattle.std.proofs.lemmas.Bool.{cases_eq}
use Rattle.std.specs.Borrow.{Bor}
use Rattle.theory.specs.Kinds.{Kind, Laws}
use Rattle.theory.specs.Families.{Defined, item_count, tail_at}
use Rattle.theory.specs.Totals.{tail_value, alternatives_value}
use Rattle.theory.specs.Tables.{entry_at, item_row, rows}
use Rattle.files.specs.Grammars.{rule_at, rule_alternatives}
use Rattle.files.specs.declared.item.Rule.{Rule}
use Rattle.files.specs.declared.item.Alternative.{Alternative}
use Rattle.families.specs.Sound.{marked}
use Rattle.families.specs.declared.family.Family.{Family}
use Rattle.tables.specs.Tables.{rules_of, entries, entry_of}
use Rattle.tables.specs.Fillings.{Right, Wrote, Ready, Under, rules_at, lists_at, value_at, RightAt, LowerRight, SizesDone, RanksDone, Kept, Writes, FillsName}
use Rattle.tables.specs.declared.level.Level.{Level}
use Rattle.tables.specs.declared.shape.Shape.{Shape}
use Rattle.tables.proofs.Keeps.{keeps}
use Rattle.tables.proofs.Stored.{ranks_of, length-model, Found, found}
use Rattle.tables.proofs.Rows.{wrote_then, wrote_right, put_wrote_at}
use Rattle.tables.proofs.Sizes.{ready_right, ready_wrote, ready_fewer, ready_more, ready_size, name_done, name_bare}

-- what is said of the family, the shape and the size holds before and after
module _ {K : Type 0} (a b : Level K) (kept : Kept a b) where
  pub onward : (P : Bor Family → Shape → ℕ → Type 0) → P a.family a.shape a.size → P b.family b.shape b.size
  onward P x =
      subst (λ (n : ℕ). P b.family b.shape n) (sym kept.size) (subst (λ (s : Shape). P b.family s a.size) (sym kept.shape) (subst (λ (f : Bor Family). P f a.shape a.size) (sym kept.family) x))

  pub back : (P : Bor Family → Shape → ℕ → Type 0) → P b.family b.shape b.size → P a.family a.shape a.size
  back P x =
      subst (λ (n : ℕ). P a.family a.shape n) kept.size (subst (λ (s : Shape). P a.family s b.size) kept.shape (subst (λ (f : Bor Family). P f b.shape b.size) kept.family x))

pub kept_none : {K : Type 0} (a : Level K) → Kept a a
kept_none a = record { family = refl; table = refl; shape = refl; size = refl; beyond = λ i d h. refl }

pub kept_then : {K : Type 0} (a b c : Level K) → Kept a b → Kept b c → Kept a c
kept_then a b c x y = record {
  family = y.family ∙ x.family;
  table = y.table ∙ x.table;
  shape = y.shape ∙ x.shape;
  size = y.size ∙ x.size;
  beyond = λ i d h. y.beyond i d (onward a b x (λ f s n. entries s.rows s.top ≤ i) h) ∙ x.beyond i d h;
}

-- there is room for the family's rows
pub level_room : {K : Type 0} (a : Level K) → entries (rows (rules_at a)) a.shape.top ≤ length a.table.now
level_room a = subst (λ (r : ℕ). entries r a.shape.top ≤ length a.table.now) a.all_rows a.room

-- the lower sizes are done, and at this one the names of D
abbrev pub ReadyAt : {K : Type 0} → Kind K → (ℕ → Type 0) → Level K → Type 0
ReadyAt o D a = Ready o (rules_at a) (marked a.family.now.nullable) a.shape.top a.size D a.table.now

-- z is of a rank below r, or of the rank r and below y
abbrev pub NamesDone : ℕ → ℕ → Family → ℕ → Type 0
NamesDone r y f z = (get_or f.ranks z 0 < r) ⊎ ((get_or f.ranks z 0 ≡ r) × (z < y))

-- the element i of a list, as a clause reads it
abbrev pub element : List Alternative → ℕ → Alternative
element xs i = get_or xs i (record { items = []; count = 0; first = 0 })

-- the element i of the list of the alternatives of the rule y
pub found_at : {K : Type 0} (a : Level K) (y i : ℕ) (r : Rule) (xs : List Alternative) → y < length (rules_at a) → r ≡ rule_at (lists_at a).rules y → xs ≡ rule_alternatives (lists_at a).alternatives r → i < length xs →
    Found (lists_at a) y i (element xs i)
found_at a y i r xs there rule is below =
    found (lists_at a) (keeps a.family.now).fitting (keeps a.family.now).adopted.defined y (omega (arith, length-model (lists_at a))) xs i _ (is ∙ ap (rule_alternatives (lists_at a).alternatives) rule) below

-- a filling of the names of the rank r has come to y
pub record Ranking {K : Type 0} (o : Kind K) (r y : ℕ) (a b : Level K) : Type 0 where
  pub kept : Kept a b
  pub done : ReadyAt o (NamesDone r y b.family.now) b

module _ {K : Type 0} (o : Kind K) (laws : Laws o) where
  defined : (a : Level K) → Defined (rules_at a)
  defined a = (keeps a.family.now).adopted.defined

  -- items' rows

  pub writes_then : (P Q R : ℕ → Type 0) (a b c : Level K) → ((j : ℕ) → R j → P j ⊎ Q j) → Writes o P a b → Writes o Q b c → Writes o R a c
  writes_then P Q R a b c split x y = record {
    kept = kept_then a b c x.kept y.kept;
    wrote = wrote_then o laws (rules_at a) (defined a) a.shape.top a.size a.low P Q R a.table.now b.table.now c.table.now split x.wrote
        (back a b x.kept (λ f s n. Wrote o (rules_of f.now) s.top n Q b.table.now c.table.now) y.wrote);
  }

  pub writes_lower : (P : ℕ → Type 0) (a b : Level K) → Writes o P a b → LowerRight o a → LowerRight o b
  writes_lower P a b x lower =
      onward a b x.kept (λ f s n. (j k : ℕ) → j < item_count (rules_of f.now) → k < n → Right o (rules_of f.now) s.top b.table.now j k)
      (wrote_right o laws (rules_at a) (defined a) a.shape.top a.size a.low P a.table.now b.table.now x.wrote lower)

  -- so the items' entries of this size are right too
  pub writes_right : (P : ℕ → Type 0) (a b : Level K) → Writes o P a b → LowerRight o a → (j k : ℕ) → j < item_count (rules_at a) → P j → k ≤ b.size → RightAt o b j k
  writes_right P a b x lower j k h p w =
      ⊎_elim
      (λ (e : k ≡ b.size). onward a b x.kept (λ f s n. k ≡ n → Right o (rules_of f.now) s.top b.table.now j k) (λ q. subst (λ (m : ℕ). Right o (rules_at a) a.shape.top b.table.now j m) (sym q) (x.wrote.new j h p)) e)
      (λ (e : k ≡ b.size → ⊥). writes_lower P a b x lower j k (onward a b x.kept (λ f s n. j < item_count (rules_of f.now)) h) (omega arith))
      (cases_eq k b.size)

  pub put_writes : (a b : Level K) (j r : ℕ) (v : K) → j < item_count (rules_at a) → r ≡ item_row (rules_at a) j → v ≡ tail_value o (value_at o a) (tail_at (rules_at a) j) a.size → Kept a b → b.table.now ≡ set a.table.now (entry_at a.shape.top r a.size) v → Writes o (λ i. i ≡ j) a b
  put_writes a b j r v there row right kept is = record {
    kept = kept;
    wrote = put_wrote_at o laws (rules_at a) (defined a) a.shape.top a.size a.low a.table.now b.table.now j r v there (level_room a) right row is;
  }

  -- names and sizes

  pub ready_lower : (D : ℕ → Type 0) (a : Level K) → ReadyAt o D a → LowerRight o a
  ready_lower D a ready = ready_right o laws (rules_at a) (marked a.family.now.nullable) (keeps a.family.now).adopted a.shape.top a.size a.low D a.table.now ready

  pub ready_less : (D E : ℕ → Type 0) (a : Level K) → ((z : ℕ) → z < length (rules_at a) → E z → D z) → ReadyAt o D a → ReadyAt o E a
  ready_less D E a fewer ready = ready_fewer o laws (rules_at a) (marked a.family.now.nullable) (keeps a.family.now).adopted a.shape.top a.size a.low D a.table.now ready E fewer

  -- one name more
  pub ready_name : (D E : Family → ℕ → Type 0) (y : ℕ) (a b : Level K) → FillsName o y a b → ((z : ℕ) → z < length (rules_at a) → E a.family.now z → D a.family.now z ⊎ (z ≡ y)) → ReadyAt o (D a.family.now) a → ReadyAt o (E b.family.now) b
  ready_name D E y a b x split ready =
      onward a b x.kept (λ f s n. Ready o (rules_of f.now) (marked f.now.nullable) s.top n (E f.now) b.table.now)
      (ready_more o laws (rules_at a) (marked a.family.now.nullable) (keeps a.family.now).adopted a.shape.top a.size a.low (D a.family.now) a.table.now ready y (E a.family.now) b.table.now x.changed x.total split)

  -- the size is done
  pub ready_done : (m : ℕ) (a b : Level K) → length (rules_at a) ≤ m → RanksDone o m a → Writes o (λ j. Unit {0}) a b → SizesDone o (a.size + 1) b
  ready_done m a b all ready x =
      let F = rules_at a in
      let nul = marked a.family.now.nullable in
      let again = ready_wrote o laws F nul (keeps a.family.now).adopted a.shape.top a.size a.low (λ z. get_or a.family.now.ranks z 0 < m) a.table.now ready (λ j. Unit {0}) b.table.now x.wrote in
      onward a b x.kept (λ f s n. Ready o (rules_of f.now) (marked f.now.nullable) s.top (a.size + 1) (λ z. ⊥) b.table.now)
      (ready_size o laws F nul (keeps a.family.now).adopted a.shape.top a.size a.low (λ z. get_or a.family.now.ranks z 0 < m) b.table.now again (a.size + 1) refl
      (λ z h. omega (arith, (keeps a.family.now).ranked.low z h)) (λ j h. x.wrote.new j h tt))

  -- a name is done: its items were written, and then its sum
  pub name_filled : (y : ℕ) (x : K) (a b c : Level K) → y < length (rules_at a) → RanksDone o (get_or a.family.now.ranks y 0) a → Writes o (Under (lists_at a) y) a b →
      x ≡ alternatives_value o (rules_at b) (value_at o b) y b.size → Kept b c → c.table.now ≡ set b.table.now (entry_at b.shape.top y b.size) x → FillsName o y a c
  name_filled y x a b c there ready items sum kept is =
      let done =
      name_done o laws (rules_at a) (marked a.family.now.nullable) (keeps a.family.now).adopted a.shape.top a.size a.low (λ z. get_or a.family.now.ranks z 0 < get_or a.family.now.ranks y 0) (Under (lists_at a) y)
      a.table.now b.table.now c.table.now y x ready items.wrote there (ranks_of a.family.now) (λ z h e. e)
      (back a b items.kept (λ f s n. x ≡ alternatives_value o (rules_of f.now) (entry_of o s.top b.table.now) y n) sum)
      (back a b items.kept (λ f s n. entries (rows (rules_of f.now)) s.top ≤ length b.table.now) (level_room b))
      (back a b items.kept (λ f s n. c.table.now ≡ set b.table.now (entry_at s.top y n) x) is) in
      record { kept = kept_then a b c items.kept kept; total = done.value; changed = done.only }

  -- a name that cannot be empty has its none at 0
  pub name_empty : (y : ℕ) (a : Level K) → y < length (rules_at a) → RanksDone o (get_or a.family.now.ranks y 0) a → a.size ≡ 0 → marked a.family.now.nullable y ≡ false → FillsName o y a a
  name_empty y a there ready empty none =
      let done = name_bare o laws (rules_at a) (marked a.family.now.nullable) (keeps a.family.now).adopted a.shape.top a.size y (λ z. get_or a.family.now.ranks z 0 < get_or a.family.now.ranks y 0) a.table.now ready there empty none in
      record { kept = kept_none a; total = done.value; changed = done.only }

  -- one name of the rank more

  pub ranking_name : (r y : ℕ) (a b c : Level K) → FillsName o y b c → Ranking o r y a b → Ranking o r (y + 1) a c
  ranking_name r y a b c x so_far = record {
    kept = kept_then a b c so_far.kept x.kept;
    done = ready_name (NamesDone r y) (NamesDone r (y + 1)) y b c x
        (λ z h e.
        ⊎_elim (λ (q : z ≡ y). inr q)
        (λ (q : z ≡ y → ⊥). inl (⊎_elim (λ (d : get_or b.family.now.ranks z 0 < r). inl d) (λ (d : (get_or b.family.now.ranks z 0 ≡ r) × (z < y + 1)). inr (d.0, omega (arith, d.1))) e))
        (cases_eq z y))
        so_far.done;
  }

  -- or one of another rank
  pub ranking_skip : (r y : ℕ) (a b : Level K) → (get_or a.family.now.ranks y 0 ≡ r → ⊥) → Ranking o r y a b → Ranking o r (y + 1) a b
  ranking_skip r y a b other so_far = record {
    kept = so_far.kept;
    done = ready_less (NamesDone r y b.family.now) (NamesDone r (y + 1) b.family.now) b
        (λ z h e.
        ⊎_elim (λ (d : get_or b.family.now.ranks z 0 < r). inl d)
        (λ (d : (get_or b.family.now.ranks z 0 ≡ r) × (z < y + 1)).
        ⊎_elim
        (λ (q : z ≡ y). absurd (onward a b so_far.kept (λ f s n. get_or f.now.ranks y 0 ≡ r → ⊥) other (ap (λ k. get_or b.family.now.ranks k 0) (sym q) ∙ d.0)))
        (λ (q : z ≡ y → ⊥). inr (d.0, omega (arith, d.1))) (cases_eq z y)) e)
        so_far.done;
  }
