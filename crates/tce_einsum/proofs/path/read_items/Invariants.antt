use Rattle.std.proofs.Common.{take}
use Rattle.tce_fields.specs.Reading.{texts}
use Rattle.tce_einsum.specs.Code.{items}
use Rattle.tce_einsum.specs.Path.{AreItems}
use Rattle.tce_einsum.proofs.path.read_items.Given as goal

abbrev pub invariant-loop-number : goal.invariant-loop-number
invariant-loop-number l = AreItems l.count (take l.number (texts l.parts)) (items l.found.items) l.left
