use Rattle.std.proofs.Common.{refl}
use Rattle.theory.specs.Sequence.{layouts, layouts_within}
use Rattle.files.specs.Files.{read_on, read_file}
use Rattle.worked.proofs.Letters.{counted, at_cap}
use Rattle.worked.proofs.Looped.{refused_by}
use Rattle.worked.proofs.worked_cases.Goals as goal

pub returns : goal.returns
unfolding layouts layouts_within read_on read_file
returns c = record {
  lines_are_read = refl;
  lines_counted = refl;
  twos_counted = refl;
  cheapest_line = refl;
  no_line = refl;
  from_both_ends = refl;
  third_rising = refl;
  third_to_and_fro = refl;
  fourth_rising = refl;
  first_rising = refl;
  looped_is_read = refl;
  looped_reaches = refl;
  looped_label = refl;
  looped_refused = refused_by;
  letters_are_read = refl;
  letters_counted = counted;
  letters_capped = at_cap;
  empty_is_read = refl;
  both_empty = refl;
}
