use Rattle.std.proofs.Common.{◌≡◌, ℕ, ◌≤◌, true, false, ltb, List, length, Some, None, MatchBool, Option, sym, refl, ap, ◌∙◌, subst, arith}
use Rattle.std.proofs.lemmas.Result.{err_from_is_err_and}
use Rattle.std.proofs.lemmas.Bool.{le-leb, lt-leb, ltb-true, ltb-false}
use Rattle.files.specs.Faults.{Answer, granted, refused}
use Rattle.files.specs.Scans.{scan, end, found, word_of, scan_step, next_place}
use Rattle.files.specs.Grammars.{Lists}
use Rattle.files.specs.Steps.{fresh, reading_of}
use Rattle.files.specs.Meanings.{Means}
use Rattle.files.specs.Files.{read_file, Reads, ends, goes, stops, fails, ReadsFile}
use Rattle.files.specs.declared.token.Spanned.{Spanned}
use Rattle.files.specs.Models.{Formed, NamesDiffer}
use Rattle.files.proofs.Drafts.{draft_formed, draft_differs}
use Rattle.files.proofs.Computed.{file_read}
use Rattle.files.proofs.Spelling.{found_inside}
use Rattle.files.proofs.Means.{file_means}
use Rattle.files.proofs.Exact.{only_meaning}
use Rattle.files.proofs.draft.Draft.read.Goals as goal

-- a file that is not too long
short : (f : List ℕ) (a : Answer Lists) → false ≡ ltb 16384 (length f) → Reads f 0 fresh a → ReadsFile f a
short f a e r = subst (λ b. MatchBool b (Reads f 0 fresh a) (a ≡ refused 1 0 0)) (sym (le-leb (length f) 16384 (ltb-false 16384 (length f) (sym e)))) r

-- a file that is too long
long : (f : List ℕ) (a : Answer Lists) → true ≡ ltb 16384 (length f) → a ≡ refused 1 0 0 → ReadsFile f a
long f a e r = subst (λ b. MatchBool b (Reads f 0 fresh a) (a ≡ refused 1 0 0)) (sym (lt-leb (length f) 16384 (ltb-true 16384 (length f) (sym e)))) r

-- the token that the lexer answered is the one that stands in the file
seen : (f g : List ℕ) (p : ℕ) (o : Option Spanned) (t : Spanned) → f ≡ g → scan_step o ≡ scan f p → o ≡ Some t → scan g p ≡ found (word_of t.token) t.at.place t.at.length
seen f g p o t e v s = ap (λ h. scan h p) (sym e) ∙ sym v ∙ ap scan_step s

-- the lexer answered that there is no more
none : (f g : List ℕ) (p : ℕ) (o : Option Spanned) → f ≡ g → scan_step o ≡ scan f p → o ≡ None → scan g p ≡ end
none f g p o e v s = ap (λ h. scan h p) (sym e) ∙ sym v ∙ ap scan_step s

-- what is promised of an answer, once it is read
all_told : (f : List ℕ) (a : Answer Lists) (S : Type 0) → ReadsFile f a → S → record { answer : a ≡ read_file f; reads : ReadsFile f a; means : Means f a; only : (b : Answer Lists) → Means f b → b ≡ a; same : S }
all_told f a S told s = record { answer = file_read f a told; reads = told; means = file_means f a told; only = λ b h. only_meaning f a b told h; same = s }

pub returns-then-too_long : goal.returns-then-too_long
returns-then-too_long c =
    all_told _ _ _ (long c.args.file.now (refused 1 0 0) c.if-too_long.ensures refl) (λ _. refl)

pub returns-in_err-t : goal.returns-in_err-t
returns-in_err-t c =
    let p = err_from_is_err_and c.from_residual.result c.from_residual.ensures.1 in
    let i = c.loop-t.invariant in
    rw (p.1, p.2)
    (all_told _ _ _ (short _ _ c.if-too_long.ensures (i.1 _ (fails (ap (λ f. scan f c.loop-t.lexer.at) (sym i.0) ∙ sym c.in_err-t.ensures.value)))) (λ _. i.2))

pub loop-t-preserved : goal.loop-t-preserved
loop-t-preserved c =
    let told = c.in_ok-t.ensures in
    let i = c.loop-t.invariant in
    let at = told.moved ∙ ap (λ o. next_place c.loop-t.lexer.at (length c.loop-t.lexer.file.now) (scan_step o)) c.in-Some.is in
    let here = seen _ _ _ _ _ i.0 told.value c.in-Some.is in
    let inside = found_inside _ _ _ _ _ (subst (λ (f : List ℕ). c.loop-t.lexer.at ≤ length f) i.0 c.loop-t.lexer.within) here in
    (c.next_token.ensures.same ∙ i.0, λ a rest. i.1 a (goes _ _ _ here inside.0 inside.1 (sym c.in_ok-step.ensures) (subst (λ n. Reads c.args.file.now n (reading_of c.step.new.self) a) at rest)), i.2)

pub loop-t-smaller : goal.loop-t-smaller
loop-t-smaller c =
    let told = c.in_ok-t.ensures in
    let i = c.loop-t.invariant in
    let at = told.moved ∙ ap (λ o. next_place c.loop-t.lexer.at (length c.loop-t.lexer.file.now) (scan_step o)) c.in-Some.is in
    let inside = found_inside _ _ _ _ _ (subst (λ (f : List ℕ). c.loop-t.lexer.at ≤ length f) i.0 c.loop-t.lexer.within) (seen _ _ _ _ _ i.0 told.value c.in-Some.is) in
    omega arith

pub returns-in_err-step : goal.returns-in_err-step
returns-in_err-step c =
    let p = err_from_is_err_and c.from_residual-in_err-step.result c.from_residual-in_err-step.ensures.1 in
    let i = c.loop-t.invariant in
    rw (p.1, p.2)
    (all_told _ _ _ (short _ _ c.if-too_long.ensures (i.1 _ (stops _ _ _ (seen _ _ _ _ _ i.0 c.in_ok-t.ensures.value c.in-Some.is) (sym c.in_err-step.ensures.0)))) (λ _. i.2))

pub returns-in_err-finish : goal.returns-in_err-finish
returns-in_err-finish c =
    let p = err_from_is_err_and c.from_residual-in_err-finish.result c.from_residual-in_err-finish.ensures.1 in
    let i = c.loop-t.invariant in
    rw (p.1, p.2)
    (all_told _ _ _ (short _ _ c.if-too_long.ensures (i.1 _ (ends (none _ _ _ _ i.0 c.in_ok-t.ensures.value c.in_default.is) (sym c.in_err-finish.ensures)))) (λ _. i.2))

pub returns : goal.returns
returns c =
    let i = c.loop-t.invariant in
    let whole = i.1 _ (ends (none _ _ _ _ i.0 c.in_ok-t.ensures.value c.in_default.is) (sym c.in_ok-finish.ensures)) in
    all_told _ _ _ (subst (λ l. ReadsFile c.args.file.now (granted l)) (sym c.copy_from.ensures) (short _ _ c.if-too_long.ensures whole)) (λ h. cc)

pub invariant_of-self-3 : goal.invariant_of-self-3
invariant_of-self-3 c =
    let i = c.loop-t.invariant in
    let whole = i.1 _ (ends (none _ _ _ _ i.0 c.in_ok-t.ensures.value c.in_default.is) (sym c.in_ok-finish.ensures)) in
    let file = file_means _ _ (short _ _ c.if-too_long.ensures whole) in
    record {
      formed = ∣ subst Formed (sym c.copy_from.ensures) (draft_formed _ _ file) ∣₁;
      names_differ = ∣ subst NamesDiffer (sym c.copy_from.ensures) (draft_differs _ _ file) ∣₁;
    }
