use Rattle.std.proofs.Common.{◌≡◌, ◌++◌, length}
use Rattle.tce_fields.specs.Reading.{texts}
use Rattle.tce_fields.proofs.Splitting.{parts_at}
use Rattle.tce_fields.proofs.parts.split_parts.Given as goal

abbrev pub invariant-loop-part : goal.invariant-loop-part
invariant-loop-part g l = parts_at l.separator l.text ≡ texts l.parts.items ++ parts_at l.separator l.rest

abbrev pub decreases-loop-part : goal.decreases-loop-part
decreases-loop-part g l = length l.rest
