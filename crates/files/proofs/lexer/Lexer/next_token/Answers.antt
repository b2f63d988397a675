use Rattle.std.proofs.Common.{◌≡◌, ◌≢◌, ℕ, ◌+◌, ◌-◌, ◌≤◌, List, length, take, drop, rules, sym, ap, ◌∙◌, arith, length-drop, take_all}
use Rattle.std.proofs.lemmas.Result.{err_from_is_err_and}
use Rattle.std.specs.List.{prefix_len}
use Rattle.files.specs.Bytes.{blank}
use Rattle.files.specs.Scans.{scan, token_at}
use Rattle.files.proofs.Spelling.{scan_at, found_inside}
use Rattle.files.proofs.lexer.Lexer.next_token.Goals as goal

-- the scan behind the blanks
here : (f : List ℕ) (p n : ℕ) → p ≤ length f → n ≡ prefix_len blank (take (length f - p) (drop p f)) → n ≤ length (take (length f - p) (drop p f)) → p + n ≢ length f → scan f p ≡ token_at f (p + n)
here f p n h e w d =
    let all : take (length f - p) (drop p f) ≡ drop p f = take_all (length f - p) (drop p f) (omega (arith, length-drop p f)) in
    scan_at f p (p + n) (ap (λ k. p + k) (e ∙ ap (prefix_len blank) all)) (omega (arith, ap length all, length-drop p f))

pub returns-in_err-token-clause-value : goal.returns-in_err-token-clause-value
returns-in_err-token-clause-value c =
    let p = err_from_is_err_and c.from_residual.result c.from_residual.ensures.1 in
    let l = c.args.self.now in
    let run = c.run_length.ensures in
    rw (p.1, p.2) (c.in_err-token.ensures ∙ sym (here l.file.now l.at c.run_length.result l.within (run.value blank (λ b r k. search rules)) run.within c.if-at-self.false))

pub invariant_of-self-2 : goal.invariant_of-self-2
invariant_of-self-2 c =
    let l = c.args.self.now in
    let run = c.run_length.ensures in
    let at = here l.file.now l.at c.run_length.result l.within (run.value blank (λ b r k. search rules)) run.within c.if-at-self.false in
    let inside = found_inside l.file.now l.at _ _ _ l.within (at ∙ sym c.in_ok-token.ensures) in
    record { within = omega arith }
