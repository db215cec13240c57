use Rattle.tce_fields.specs.Reading.{texts}
use Rattle.tce_cert.proofs.StatedRows.{AreRead}
use Rattle.tce_cert.proofs.rows.read_parts.Given as goal

abbrev pub invariant-loop-part : goal.invariant-loop-part
invariant-loop-part l = AreRead l.space l.dims (texts l.parts) l.part-index l.nesting
