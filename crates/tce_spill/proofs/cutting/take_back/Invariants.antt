use Rattle.tce_spill.specs.Planned.{ArePlanned}
use Rattle.tce_spill.proofs.cutting.take_back.Given as goal

abbrev pub invariant-loop-v : goal.invariant-loop-v
invariant-loop-v l = ArePlanned l.spec l.limit l.planned l.v
