use Rattle.std.proofs.Common.{◌≡◌, take}
use Rattle.tce_spec.specs.Numbers.{value_of}
use Rattle.tce_spec.proofs.numbers.value_of.Given as goal

abbrev pub invariant-loop-digit : goal.invariant-loop-digit
invariant-loop-digit l = l.number ≡ value_of (take l.digit-index l.digits)
