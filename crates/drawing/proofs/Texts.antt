-- What continuing a text keeps. Assumes nothing.
use Rattle.std.proofs.Common.{◌≡◌, ℕ, List, length, take, sym, ap, ◌∙◌, arith}
use Rattle.std.proofs.lemmas.List.{take-take}
use Rattle.drawing.specs.Pages.{Kept}
use Rattle.drawing.specs.Texts.{Continues}
use Rattle.drawing.specs.declared.guard.MarkGuard.{MarkGuard}

kept_trans : (p q r : List ℕ) (m n k : ℕ) → length q ≡ length p → Kept p q m n → Kept q r n k → Kept p r m k
kept_trans p q r m n k e a b = record {
  front = sym (take-take m n r a.forward) ∙ ap (take m) b.front ∙ take-take m n q a.forward ∙ a.front;
  forward = omega (arith, a.forward, b.forward);
  within = omega (arith, e, b.within);
}

pub continues_trans : (f g h : MarkGuard) → Continues f g → Continues g h → Continues f h
continues_trans f g h a b = record {
  mark = b.mark ∙ a.mark;
  page = b.page ∙ a.page;
  size = b.size ∙ a.size;
  start = b.start ∙ a.start;
  finished = b.finished ∙ a.finished;
  kept = kept_trans _ _ _ _ _ _ a.size a.kept b.kept;
}
