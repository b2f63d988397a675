use Rattle.std.proofs.Common.{◌≡◌, ◌≤◌, take}
use Rattle.files.specs.Items.{decimal}
use Rattle.files.proofs.Digits.{most}
use Rattle.files.proofs.item.decimal_value.Given as goal

abbrev pub invariant-loop-b : goal.invariant-loop-b
invariant-loop-b l = (l.value ≡ decimal (take l.b-index l.bytes)) × (l.value ≤ most l.b-index)
