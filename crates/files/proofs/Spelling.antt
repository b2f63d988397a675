-- What is found at a place is what the bytes spell. Assumes nothing.
use Rattle.std.proofs.Common.{◌≡◌, ℕ, suc, ◌+◌, ◌-◌, ◌<◌, ◌≤◌, Bool, true, false, cond, not, ◌&&◌, eqb, ltb, leb, List, [], ◌∷◌, ◌++◌, length, get_or, take, drop, sym, refl, ap, ◌∙◌, subst, ap₂, inl, inr, ⊎_elim, add-zero, arith}
use Rattle.std.specs.List.{prefix_len}
use Rattle.std.proofs.lemmas.Bool.{both_ways, leb-true, leb-false, eqb-true, eqb-false, lt-ltb, le-ltb, le-leb, lt-leb, ne_eqb, and_parts, and_from, and_left, or_cases, or_from, not-true, cases_Bool, cond-true, cond-false}
use Rattle.std.proofs.lemmas.List.{append-nil, append_assoc, length-append, length_push, length-drop, drop-drop, drop_at, take_at, get_or-drop, get_or-append-add}
use Rattle.theory.specs.Lists.{Among}
use Rattle.files.specs.Bytes.{blank, letter, digit, plain, name_byte}
use Rattle.files.specs.Scans.{Word, name, literal, digits, equals, bar, semicolon, colon, at, Scan, end, found, wrong, literal_at, token_at, scan}
use Rattle.files.specs.Tokens.{Every, Stops, Proper, written, EndsBefore, Token, token, width, AfterBlanks, NextToken, marks, NoToken, stray_byte, long_name, bad_literal, long_digits}

-- Runs of bytes that pass a test

-- the bytes that pass, up to the first that does not
record Split (test : ℕ → Bool) (xs : List ℕ) : Type 0 where
  front : List ℕ
  back : List ℕ
  whole : xs ≡ front ++ back
  passes : Every test front
  stops : Stops test back

split : (test : ℕ → Bool) (xs : List ℕ) → Split test xs
split test [] = record { front = []; back = []; whole = refl; passes = tt; stops = tt }
split test (b ∷ xs) = go (test b) refl (split test xs)
  where
    go : (t : Bool) → test b ≡ t → Split test xs → Split test (b ∷ xs)
    go true e s = record { front = b ∷ s.front; back = s.back; whole = ap (λ ys. b ∷ ys) s.whole; passes = (e, s.passes); stops = s.stops }
    go false e s = record { front = []; back = b ∷ xs; whole = refl; passes = tt; stops = e }

leading_is : (test : ℕ → Bool) (s g : List ℕ) → Every test s → Stops test g → prefix_len test (s ++ g) ≡ length s
leading_is test [] [] a z = refl
leading_is test [] (b ∷ g) a z = cond-false (test b) _ _ z
leading_is test (b ∷ s) g a z = cond-true (test b) _ _ a.0 ∙ omega (arith, leading_is test s g a.1 z)

-- First bytes

-- a byte that passes is none of those that do not
apart : (test : ℕ → Bool) (b : ℕ) (ks : List ℕ) → test b ≡ true → Every (λ k. not (test k)) ks → Among b ks → ⊥
apart test b [] t n h = h
apart test b (k ∷ ks) t n (inl e) = both_ways (test b) (ap test e ∙ not-true (test k) n.0) t
apart test b (k ∷ ks) t n (inr h) = apart test b ks t n.1 h

not_blank : (b : ℕ) → 48 ≤ b → blank b ≡ false
not_blank b h =
    or_from _ _ (ne_eqb b 0x20 (λ e. omega arith)) (or_from _ _ (ne_eqb b 0x09 (λ e. omega arith)) (or_from _ _ (ne_eqb b 0x0a (λ e. omega arith)) (ne_eqb b 0x0d (λ e. omega arith))))

letter_above : (b : ℕ) → letter b ≡ true → 48 ≤ b
letter_above b e =
    ⊎_elim
    (λ h. omega (arith, leb-true 65 b (and_parts (leb 65 b) (leb b 90) h).0))
    (λ h. omega (arith, leb-true 97 b (and_parts (leb 97 b) (leb b 122) h).0))
    (or_cases (leb 65 b && leb b 90) (leb 97 b && leb b 122) e)

digit-between : (b : ℕ) → digit b ≡ true → (48 ≤ b) × (b ≤ 57)
digit-between b e = let h = and_parts (leb 48 b) (leb b 57) e in (leb-true 48 b h.0, leb-true b 57 h.1)

digit_not_letter : (b : ℕ) → digit b ≡ true → letter b ≡ false
digit_not_letter b e =
    let h = (digit-between b e).1 in
    or_from _ _ (and_left _ _ (lt-leb 65 b (omega arith))) (and_left _ _ (lt-leb 97 b (omega arith)))

-- The scan by the bytes that are left

-- the token's kind, by its first byte
abbrev by_first : ℕ → ℕ → Scan → Scan → Scan → Scan
by_first b q l n d =
    cond (eqb b 0x3d) (found equals q 1)
    (cond (eqb b 0x7c) (found bar q 1)
    (cond (eqb b 0x3b) (found semicolon q 1)
    (cond (eqb b 0x3a) (found colon q 1)
    (cond (eqb b 0x40) (found at q 1)
    (cond (eqb b 0x22) l
    (cond (letter b) n
    (cond (digit b) d
    (wrong 2 q 1))))))))

-- a run of n bytes, of at most m
abbrev sized : (List ℕ → Word) → ℕ → ℕ → ℕ → ℕ → List ℕ → Scan
sized make m k q n s = cond (leb n m) (found (make s) q n) (wrong k q n)

-- the run that b begins
abbrev run : (List ℕ → Word) → (ℕ → Bool) → ℕ → ℕ → ℕ → List ℕ → ℕ → Scan
run make test m k b g q = sized make m k q (suc (prefix_len test g)) (b ∷ take (prefix_len test g) g)

-- another quotation mark behind at most 24 plain bytes
abbrev closes : List ℕ → Bool
closes g = leb (prefix_len plain g) 24 && eqb (get_or g (prefix_len plain g) 0) 0x22

abbrev quoted : List ℕ → ℕ → Scan
quoted g q = cond (closes g) (found (literal (take (prefix_len plain g) g)) q (prefix_len plain g + 2)) (wrong 4 q 1)

abbrev spelled : ℕ → List ℕ → ℕ → Scan
spelled b g q = by_first b q (quoted g q) (run name name_byte 24 3 b g q) (run digits digit 4 5 b g q)

-- the scan looks at the bytes that are left, and at no others
module _ (f : List ℕ) (q b : ℕ) (g : List ℕ) (here : drop q f ≡ b ∷ g) where
  first_is : get_or f q 0 ≡ b
  first_is = ap (λ k. get_or f k 0) (sym (add-zero q)) ∙ sym (get_or-drop q f 0 0) ∙ ap (λ xs. get_or xs 0 0) here

  later_is : drop (q + 1) f ≡ g
  later_is = sym (drop-drop 1 q f) ∙ ap (drop 1) here

  run_is : (make : List ℕ → Word) (test : ℕ → Bool) (m k : ℕ) → sized make m k q (1 + prefix_len test (drop (q + 1) f)) (take (1 + prefix_len test (drop (q + 1) f)) (drop q f)) ≡ run make test m k b g q
  run_is make test m k =
      let n : 1 + prefix_len test (drop (q + 1) f) ≡ suc (prefix_len test g) = omega (arith, ap (prefix_len test) later_is) in
      ap₂ (λ n xs. sized make m k q n (take n xs)) n here

  quoted_is : literal_at f q ≡ quoted g q
  quoted_is =
      let n = prefix_len plain (drop (q + 1) f) in
      ap (λ c. cond (leb n 24 && eqb c 0x22) (found (literal (take n (drop (q + 1) f))) q (n + 2)) (wrong 4 q 1)) (sym (get_or-drop (q + 1) f n 0)) ∙ ap (λ xs. quoted xs q) later_is

  token_is : token_at f q ≡ spelled b g q
  token_is = λ i. by_first (first_is i) q (quoted_is i) (run_is name name_byte 24 3 i) (run_is digits digit 4 5 i)

-- From the relation to the scan

-- what stands behind the blanks
behind : (f : List ℕ) (p q : ℕ) (g : List ℕ) → AfterBlanks f p q g → drop q f ≡ g
behind f p q g a = ap (λ n. drop n f) a.place ∙ sym (drop-drop (length a.blanks) p f) ∙ ap (drop (length a.blanks)) a.bytes ∙ drop_at a.blanks g (length a.blanks) refl

scan_is : (f : List ℕ) (p q b : ℕ) (g : List ℕ) → AfterBlanks f p q (b ∷ g) → blank b ≡ false → scan f p ≡ spelled b g q
scan_is f p q b g a z =
    let here = behind f p q (b ∷ g) a in
    let n : p + prefix_len blank (drop p f) ≡ q = omega (arith, ap (prefix_len blank) a.bytes, leading_is blank a.blanks (b ∷ g) a.all_blank z, a.place) in
    let less : q < length f = omega (arith, length-drop q f, ap length here) in
    ap (λ k. cond (ltb k (length f)) (token_at f k) end) n ∙ cond-true (ltb q (length f)) _ _ (lt-ltb q (length f) less) ∙ token_is f q b g here

pub means_end : (f : List ℕ) (p : ℕ) → Every blank (drop p f) → scan f p ≡ end
means_end f p a =
    let n : prefix_len blank (drop p f) ≡ length (drop p f) = ap (prefix_len blank) (sym (append-nil (drop p f))) ∙ leading_is blank (drop p f) [] a tt in
    cond-false (ltb (p + prefix_len blank (drop p f)) (length f)) _ _ (le-ltb _ _ (omega (arith, n, length-drop p f)))

-- a run and what ends it
run_of : (make : List ℕ → Word) (test : ℕ → Bool) (m k b q : ℕ) (s g : List ℕ) → Every test s → Stops test g → run make test m k b (s ++ g) q ≡ sized make m k q (suc (length s)) (b ∷ s)
run_of make test m k b q s g a z =
    let n = leading_is test s g a z in
    ap₂ (λ n xs. sized make m k q (suc n) (b ∷ xs)) n (take_at s g (prefix_len test (s ++ g)) (sym n))

-- a byte that is no mark
unmarked : (b q : ℕ) (l n d : Scan) → (Among b marks → ⊥) → by_first b q l n d ≡ cond (letter b) n (cond (digit b) d (wrong 2 q 1))
unmarked b q l n d h =
    cond-false (eqb b 0x3d) _ _ (ne_eqb b 0x3d (λ e. h (inl e)))
    ∙ cond-false (eqb b 0x7c) _ _ (ne_eqb b 0x7c (λ e. h (inr (inl e))))
    ∙ cond-false (eqb b 0x3b) _ _ (ne_eqb b 0x3b (λ e. h (inr (inr (inl e)))))
    ∙ cond-false (eqb b 0x3a) _ _ (ne_eqb b 0x3a (λ e. h (inr (inr (inr (inl e))))))
    ∙ cond-false (eqb b 0x40) _ _ (ne_eqb b 0x40 (λ e. h (inr (inr (inr (inr (inl e)))))))
    ∙ cond-false (eqb b 0x22) _ _ (ne_eqb b 0x22 (λ e. h (inr (inr (inr (inr (inr (inl e))))))))

-- names and digit runs
module _ (f : List ℕ) (p q b : ℕ) (s g : List ℕ) (a : AfterBlanks f p q (b ∷ (s ++ g))) where
  name_is : letter b ≡ true → Every name_byte s → Stops name_byte g → scan f p ≡ sized name 24 3 q (suc (length s)) (b ∷ s)
  name_is l e z =
      scan_is f p q b (s ++ g) a (not_blank b (letter_above b l))
      ∙ unmarked b q _ _ _ (apart letter b marks l (refl, (refl, (refl, (refl, (refl, (refl, tt)))))))
      ∙ cond-true (letter b) _ _ l
      ∙ run_of name name_byte 24 3 b q s g e z

  digits_is : digit b ≡ true → Every digit s → Stops digit g → scan f p ≡ sized digits 4 5 q (suc (length s)) (b ∷ s)
  digits_is d e z =
      scan_is f p q b (s ++ g) a (not_blank b (digit-between b d).0)
      ∙ unmarked b q _ _ _ (apart digit b marks d (refl, (refl, (refl, (refl, (refl, (refl, tt)))))))
      ∙ cond-false (letter b) _ _ (digit_not_letter b d)
      ∙ cond-true (digit b) _ _ d
      ∙ run_of digits digit 4 5 b q s g e z

-- at most 24 plain bytes and then a quotation mark
record Closed (g : List ℕ) : Type 0 where
  text : List ℕ
  rest : List ℕ
  bytes : g ≡ text ++ (0x22 ∷ rest)
  all_plain : Every plain text
  short : length text ≤ 24

closes_is : (s h : List ℕ) → Every plain s → Stops plain h → closes (s ++ h) ≡ (leb (length s) 24 && eqb (get_or h 0 0) 0x22)
closes_is s h a z =
    let n = leading_is plain s h a z in
    ap₂ (λ n c. leb n 24 && eqb c 0x22) n (ap (λ k. get_or (s ++ h) k 0) (n ∙ sym (add-zero (length s))) ∙ get_or-append-add s h 0 0)

closing : (g : List ℕ) → Closed g → closes g ≡ true
closing g c = ap closes c.bytes ∙ closes_is c.text (0x22 ∷ c.rest) c.all_plain refl ∙ and_from (leb (length c.text) 24) true (le-leb (length c.text) 24 c.short) refl

closed : (g : List ℕ) → closes g ≡ true → Closed g
closed g e = let s = split plain g in go s.front s.back s.whole s.passes s.stops
  where
    parts : (s h : List ℕ) → g ≡ s ++ h → Every plain s → Stops plain h → (length s ≤ 24) × (eqb (get_or h 0 0) 0x22 ≡ true)
    parts s h w a z =
        let t = and_parts (leb (length s) 24) (eqb (get_or h 0 0) 0x22) (sym (closes_is s h a z) ∙ ap closes (sym w) ∙ e) in
        (leb-true (length s) 24 t.0, t.1)

    go : (s h : List ℕ) → g ≡ s ++ h → Every plain s → Stops plain h → Closed g
    go s [] w a z = absurd (both_ways false refl (parts s [] w a z).1)
    go s (b ∷ h) w a z =
        let t = parts s (b ∷ h) w a z in
        record { text = s; rest = h; bytes = w ∙ ap (λ c. s ++ (c ∷ h)) (eqb-true b 0x22 t.1); all_plain = a; short = t.0 }

quoted_of : (g : List ℕ) (q : ℕ) (c : Closed g) → quoted g q ≡ found (literal c.text) q (length (written (literal c.text)))
quoted_of g q c =
    let n : prefix_len plain g ≡ length c.text = ap (prefix_len plain) c.bytes ∙ leading_is plain c.text (0x22 ∷ c.rest) c.all_plain refl in
    cond-true (closes g) _ _ (closing g c)
    ∙ ap₂ (λ s m. found (literal s) q m) (ap (take (prefix_len plain g)) c.bytes ∙ take_at c.text (0x22 ∷ c.rest) (prefix_len plain g) (sym n)) (omega (arith, n, length_push c.text 0x22))

unquoted : (g : List ℕ) (q : ℕ) → (Closed g → ⊥) → quoted g q ≡ wrong 4 q 1
unquoted g q h = cond-false (closes g) _ _ (⊎_elim (λ e. absurd (h (closed g e))) (λ e. e) (cases_Bool (closes g)))

module _ (f : List ℕ) (p q : ℕ) where
  found_of : (w : Word) (g : List ℕ) → AfterBlanks f p q (written w ++ g) → Proper w → EndsBefore w g → scan f p ≡ found w q (length (written w))
  found_of (name []) g a h z = absurd h.0
  found_of (name (b ∷ s)) g a h z = name_is f p q b s g a h.0.0 h.0.1 z ∙ cond-true (leb (suc (length s)) 24) _ _ (le-leb (suc (length s)) 24 h.1)
  found_of (literal s) g a h z =
      scan_is f p q 0x22 (s ++ (0x22 ∷ g)) (subst (λ xs. AfterBlanks f p q (0x22 ∷ xs)) (append_assoc s (0x22 ∷ []) g) a) refl
      ∙ quoted_of (s ++ (0x22 ∷ g)) q (record { text = s; rest = g; bytes = refl; all_plain = h.0; short = h.1 })
  found_of (digits []) g a h z = absurd h.0
  found_of (digits (b ∷ s)) g a h z = digits_is f p q b s g a h.0.0 h.0.1 z ∙ cond-true (leb (suc (length s)) 4) _ _ (le-leb (suc (length s)) 4 h.1)
  found_of equals g a h z = scan_is f p q 0x3d g a refl
  found_of bar g a h z = scan_is f p q 0x7c g a refl
  found_of semicolon g a h z = scan_is f p q 0x3b g a refl
  found_of colon g a h z = scan_is f p q 0x3a g a refl
  found_of at g a h z = scan_is f p q 0x40 g a refl

pub means_found : (f : List ℕ) (p : ℕ) (t : Token) → NextToken f p t → scan f p ≡ found t.word t.place (width t)
means_found f p t h = found_of f p t.place t.word h.rest h.stands h.proper h.ends

pub means_wrong : (f : List ℕ) (p k q n : ℕ) → NoToken f p k q n → scan f p ≡ wrong k q n
means_wrong f p k q n (stray_byte b g a z l d m) = scan_is f p q b g a z ∙ unmarked b q _ _ _ m ∙ cond-false (letter b) _ _ l ∙ cond-false (digit b) _ _ d
means_wrong f p k q n (long_name [] g a t z m) = absurd t
means_wrong f p k q n (long_name (b ∷ s) g a t z m) = name_is f p q b s g a t.0 t.1 z ∙ cond-false (leb (suc (length s)) 24) _ _ (lt-leb (suc (length s)) 24 m)
means_wrong f p k q n (bad_literal g a h) = scan_is f p q 0x22 g a refl ∙ unquoted g q (λ c. h c.text c.rest c.bytes c.all_plain c.short)
means_wrong f p k q n (long_digits [] g a t z m) = absurd t
means_wrong f p k q n (long_digits (b ∷ s) g a t z m) = digits_is f p q b s g a t.0 t.1 z ∙ cond-false (leb (suc (length s)) 4) _ _ (lt-leb (suc (length s)) 4 m)

-- From the scan to the relation

-- what the relation asks of a scan
abbrev Says : List ℕ → ℕ → Scan → Type 0
Says f p end = Every blank (drop p f)
Says f p (found w q m) = NextToken f p (token w q) × (m ≡ length (written w))
Says f p (wrong k q n) = NoToken f p k q n

scan_only : (f : List ℕ) (p : ℕ) (s : Scan) → Says f p s → scan f p ≡ s
scan_only f p end a = means_end f p a
scan_only f p (found w q m) h = means_found f p (token w q) h.0 ∙ ap (found w q) (sym h.1)
scan_only f p (wrong k q n) h = means_wrong f p k q n h

either : {X : Type 0} (t : Bool) → (t ≡ true → X) → (t ≡ false → X) → X
either t x y = ⊎_elim x y (cases_Bool t)

-- at every place the relation has a scan
module _ (f : List ℕ) (p : ℕ) where
  abbrev Some : Type 0
  Some = (s : Scan) × Says f p s

  some_found : (w : Word) (q : ℕ) → NextToken f p (token w q) → Some
  some_found w q h = (found w q (length (written w)), (h, refl))

  module _ (q b : ℕ) (g : List ℕ) (a : AfterBlanks f p q (b ∷ g)) where
    some_mark : (w : Word) (k : ℕ) → written w ≡ k ∷ [] → Proper w → EndsBefore w g → eqb b k ≡ true → Some
    some_mark w k e h z t = some_found w q (record { rest = g; stands = subst (λ xs. AfterBlanks f p q (xs ++ g)) (ap (λ c. c ∷ []) (eqb-true b k t) ∙ sym e) a; proper = h; ends = z })

    some_literal : eqb b 0x22 ≡ true → Some
    some_literal t =
        let here = subst (λ c. AfterBlanks f p q (c ∷ g)) (eqb-true b 0x22 t) a in
        either (closes g) (
        λ e.
        let c = closed g e in
        some_found (literal c.text) q (record {
          rest = c.rest;
          stands = subst (λ xs. AfterBlanks f p q (0x22 ∷ xs)) (c.bytes ∙ sym (append_assoc c.text (0x22 ∷ []) c.rest)) here;
          proper = (c.all_plain, c.short);
          ends = tt;
        })
        )
        (λ e. (wrong 4 q 1, bad_literal g here (λ s h w t l. both_ways (closes g) e (closing g (record { text = s; rest = h; bytes = w; all_plain = t; short = l })))))

    -- the run that goes on behind b, and whether it has at most m bytes
    some_run : (test : ℕ → Bool) (m : ℕ) → ((s h : List ℕ) → AfterBlanks f p q (b ∷ (s ++ h)) → Every test s → Stops test h → suc (length s) ≤ m → Some) →
        ((s h : List ℕ) → AfterBlanks f p q (b ∷ (s ++ h)) → Every test s → Stops test h → m < suc (length s) → Some) → Some
    some_run test m x y =
        let s = split test g in
        let n = suc (length s.front) in
        let here = subst (λ xs. AfterBlanks f p q (b ∷ xs)) s.whole a in
        either (leb n m) (λ e. x s.front s.back here s.passes s.stops (leb-true n m e)) (λ e. y s.front s.back here s.passes s.stops (leb-false n m e))

    some_name : letter b ≡ true → Some
    some_name l =
        some_run name_byte 24
        (λ s h w t z n. some_found (name (b ∷ s)) q (record { rest = h; stands = w; proper = ((l, t), n); ends = z }))
        (λ s h w t z n. (wrong 3 q (suc (length s)), long_name (b ∷ s) h w (l, t) z n))

    some_digits : digit b ≡ true → Some
    some_digits d =
        some_run digit 4
        (λ s h w t z n. some_found (digits (b ∷ s)) q (record { rest = h; stands = w; proper = ((d, t), n); ends = z }))
        (λ s h w t z n. (wrong 5 q (suc (length s)), long_digits (b ∷ s) h w (d, t) z n))

    some_token : blank b ≡ false → Some
    some_token z =
        either (eqb b 0x3d) (some_mark equals 0x3d refl tt tt) λ e₁.
        either (eqb b 0x7c) (some_mark bar 0x7c refl tt tt) λ e₂.
        either (eqb b 0x3b) (some_mark semicolon 0x3b refl tt tt) λ e₃.
        either (eqb b 0x3a) (some_mark colon 0x3a refl tt tt) λ e₄.
        either (eqb b 0x40) (some_mark at 0x40 refl tt tt) λ e₅.
        either (eqb b 0x22) some_literal λ e₆.
        either (letter b) some_name λ l.
        either (digit b) some_digits λ d.
        let unlike : Among b marks → ⊥ = ⊎_elim (eqb-false b 0x3d e₁) (⊎_elim (eqb-false b 0x7c e₂) (⊎_elim (eqb-false b 0x3b e₃) (⊎_elim (eqb-false b 0x3a e₄) (⊎_elim (eqb-false b 0x40 e₅) (⊎_elim (eqb-false b 0x22 e₆) absurd))))) in
        (wrong 2 q 1, stray_byte b g a z l d unlike)

  some : Some
  some = let s = split blank (drop p f) in go s.front s.back s.whole s.passes s.stops
    where
      go : (s g : List ℕ) → drop p f ≡ s ++ g → Every blank s → Stops blank g → Some
      go s [] w a z = (end, subst (Every blank) (sym (w ∙ append-nil s)) a)
      go s (b ∷ g) w a z = some_token (p + length s) b g (record { blanks = s; bytes = w; all_blank = a; place = refl }) z

  says : Says f p (scan f p)
  says = subst (Says f p) (sym (scan_only f p some.0 some.1)) some.1

pub found_means : (f : List ℕ) (p q m : ℕ) (w : Word) → scan f p ≡ found w q m → NextToken f p (token w q) × (m ≡ length (written w))
found_means f p q m w e = subst (Says f p) e (says f p)

pub end_means : (f : List ℕ) (p : ℕ) → scan f p ≡ end → Every blank (drop p f)
end_means f p e = subst (Says f p) e (says f p)

pub wrong_means : (f : List ℕ) (p k q n : ℕ) → scan f p ≡ wrong k q n → NoToken f p k q n
wrong_means f p k q n e = subst (Says f p) e (says f p)

-- Where a token ends

written_some : (w : Word) → Proper w → 0 < length (written w)
written_some (name []) h = absurd h.0
written_some (name (b ∷ s)) h = omega arith
written_some (literal s) h = omega arith
written_some (digits []) h = absurd h.0
written_some (digits (b ∷ s)) h = omega arith
written_some equals h = omega arith
written_some bar h = omega arith
written_some semicolon h = omega arith
written_some colon h = omega arith
written_some at h = omega arith

pub token_inside : (f : List ℕ) (p : ℕ) (t : Token) → p ≤ length f → NextToken f p t → (p < t.place + width t) × (t.place + width t ≤ length f)
token_inside f p t l h =
    let a = h.stands in
    let some = written_some t.word h.proper in
    let n : length f - p ≡ length a.blanks + (width t + length h.rest) = omega (arith, length-drop p f, ap length a.bytes, length-append a.blanks (written t.word ++ h.rest), length-append (written t.word) h.rest) in
    (omega (arith, a.place), omega (arith, a.place))

-- the scan looks at the first byte behind the blanks
pub scan_at : (f : List ℕ) (p q : ℕ) → q ≡ p + prefix_len blank (drop p f) → q < length f → scan f p ≡ token_at f q
scan_at f p q e l = ap (λ k. cond (ltb k (length f)) (token_at f k) end) (sym e) ∙ cond-true (ltb q (length f)) _ _ (lt-ltb q (length f) l)

-- a token that was found lies in the file
pub found_inside : (f : List ℕ) (p q m : ℕ) (w : Word) → p ≤ length f → scan f p ≡ found w q m → (p < q + m) × (q + m ≤ length f)
found_inside f p q m w l e =
    let t = found_means f p q m w e in
    subst (λ (n : ℕ). (p < q + n) × (q + n ≤ length f)) (sym t.1) (token_inside f p (token w q) l t.0)
