use Rattle.tce_job.proofs.ArrayLists.{AreListed}
use Rattle.tce_job.proofs.arrays.arrays_of.Given as goal

abbrev pub invariant-loop-t : goal.invariant-loop-t
invariant-loop-t l = AreListed l.spec l.forms.0 l.arrays.items l.t
