use Rattle.std.proofs.Common.{◌∙◌, append_assoc, refl}
use Rattle.sheets.proofs.lines.push_refusal.Goals as goal

pub returns : goal.returns
returns c =
    c.in_ok-extend_from_slice-2.ensures.items ∙ rw (c.in_ok-extend_from_slice.ensures.items, c.as_bytes.ensures.value, c.in_ok-values.ensures.ok) (simp append_assoc refl)
