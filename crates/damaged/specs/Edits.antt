-- What an edit makes of a file, and how it is written. Assumes nothing.
use Rattle.std.specs.Prelude.{ℕ, List, [], ◌∷◌, ◌++◌, codes, decimal}
use Rattle.damaged.specs.declared.edit.Edit.{Edit}
use Rattle.damaged.specs.declared.edit.Edit.TheVariants.{Whole, Cut, Removed, Doubled, Replaced}

-- the bytes from the edit's place on; at the end of the file there is none to edit
abbrev pub edited : Edit → List ℕ → List ℕ
edited e [] = []
edited Whole (b ∷ bs) = b ∷ bs
edited Cut (b ∷ bs) = []
edited Removed (b ∷ bs) = bs
edited Doubled (b ∷ bs) = b ∷ (b ∷ bs)
edited (Replaced new) (b ∷ bs) = new ∷ bs

-- the edit and its byte, or a dash
abbrev pub edit_text : Edit → List ℕ
edit_text Whole = codes "whole -"
edit_text Cut = codes "cut -"
edit_text Removed = codes "removed -"
edit_text Doubled = codes "doubled -"
edit_text (Replaced new) = codes "replaced " ++ decimal new
