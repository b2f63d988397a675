-- Why rules with an empty cycle are refused. Assumes nothing.
use Rattle.std.proofs.Common.{◌≡◌, ℕ, zero, suc, ◌<◌, Ok, Err, Result, refl, ap, arith}
use Rattle.theory.specs.Nullable.{last}
use Rattle.files.specs.Grammars.{rule_at}
use Rattle.files.specs.Files.{read_on, read_file}
use Rattle.families.specs.Adopts.{Cyclic, Adopts}
use Rattle.files.specs.declared.fault.Fault.{Fault}
use Rattle.files.specs.declared.fault.Fault.TheVariants.{EmptyCycle}
use Rattle.families.specs.declared.family.Family.{Family}
use Rattle.worked.specs.Worked.{lists_read, looped_file}

on_cycle : Cyclic (lists_read looped_file) 0
unfolding read_on read_file
on_cycle = last refl

pub refused_by : (r : Result (Unit {0}) Fault) (f g : Family) → Adopts r f g (lists_read looped_file) → r ≡ Err (EmptyCycle (record { place = 0; length = 1 }))
unfolding read_on read_file
refused_by (Ok x) f g h = absurd (h.1 0 on_cycle)
refused_by (Err e) f g h = ap Err (first h.3.name h.3.is h.3.first)
  where
    first : (y : ℕ) → e ≡ EmptyCycle (record { place = (rule_at (lists_read looped_file).rules y).label.place; length = (rule_at (lists_read looped_file).rules y).label.length }) →
        ((z : ℕ) → z < y → Cyclic (lists_read looped_file) z → ⊥) → e ≡ EmptyCycle (record { place = 0; length = 1 })
    first zero i k = i
    first (suc y) i k = absurd (k 0 (omega arith) on_cycle)
