-- Texts that are put on a page. Assumes nothing.
use Rattle.std.specs.Prelude.{◌≡◌, length}
use Rattle.drawing.specs.Pages.{Kept}
use Rattle.drawing.specs.declared.guard.MarkGuard.{MarkGuard}

-- g is the text f, continued: the same page and mark, and the same beginning
pub record Continues (f g : MarkGuard) : Type 0 where
  pub mark : g.mark.ghost_name ≡ f.mark.ghost_name
  pub page : g.page.ghost_name ≡ f.page.ghost_name
  pub size : length g.page.now ≡ length f.page.now
  pub start : g.start ≡ f.start
  pub finished : g.finished ≡ f.finished
  pub kept : Kept f.page.now g.page.now f.mark.now g.mark.now
