use Rattle.std.proofs.Common.{◌≡◌, length}
use Rattle.tce_walk.specs.Machine.{assignment_of}
use Rattle.tce_walk.proofs.TermBlocks.{AreTermBlocksLeft}
use Rattle.tce_walk.proofs.term_runs.run_terms_of_band.Given as goal

abbrev pub invariant-loop-sum : goal.invariant-loop-sum
invariant-loop-sum g l = record {
  setting : g.M.Machine.setting l.machine ≡ g.M.Machine.setting l.fn.machine;
  space : g.M.Machine.space l.machine ≡ g.M.Machine.space l.fn.machine;
  ready : g.M.Machine.ready l.machine;
  kept : g.M.Machine.keeps l.fn.machine l.machine;
  counted : g.M.Machine.faults l.machine ≡ g.M.Machine.faults l.fn.machine;
  left : AreTermBlocksLeft l.walk.space.now (g.M.Machine.setting l.fn.machine) l.band.carrier l.band.loops.0.items l.terms.terms.items (assignment_of l.numbers)
      l.parts (g.M.Machine.state l.fn.machine) (g.M.Machine.state l.machine) (g.M.Machine.touches l.fn.machine) (g.M.Machine.touches l.machine);
}

abbrev pub decreases-loop-sum : goal.decreases-loop-sum
decreases-loop-sum g l = length l.parts
