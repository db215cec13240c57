use Rattle.tce_fields.proofs.Named.{AreFound}
use Rattle.tce_fields.proofs.indexes.indexes_named.Given as goal

abbrev pub invariant-loop-name : goal.invariant-loop-name
invariant-loop-name g l = AreFound l.space l.names l.name-index l.indexes.items
