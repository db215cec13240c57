use Rattle.std.proofs.Common.{◌≡◌, ◌+◌, ◌-◌, ◌*◌, ◌≤◌, length, set}
use Rattle.tce_walk.specs.Machine.{assignment_of}
use Rattle.tce_walk.specs.Positions.{program_at}
use Rattle.tce_walk.specs.Run.{IsPart, IsEnd}
use Rattle.tce_walk.proofs.Positions.{IsLeft}
use Rattle.tce_block.specs.Cuts.{part_of}
use Rattle.tce_walk.proofs.BandRuns.{AreBlocksLeft}
use Rattle.tce_walk.proofs.BandTurns.{ArePartTurns}
use Rattle.tce_walk.proofs.Turns.{AreTurns}
use Rattle.tce_walk.proofs.running.+walking.Given as goal

abbrev pub decreases-run_part : goal.decreases-run_part
decreases-run_part g l = 20 * (length l.walk.now.ops.now - l.start) + 2

abbrev pub decreases-run_loop : goal.decreases-run_loop
decreases-run_loop g l = 20 * (length l.walk.now.ops.now - l.head.at) + 1

abbrev pub decreases-run_turns : goal.decreases-run_turns
decreases-run_turns g l = 20 * (length l.walk.now.ops.now - l.head.at)

abbrev pub decreases-run_band : goal.decreases-run_band
decreases-run_band g l = 20 * (length l.walk.now.ops.now - l.band.now.at) + 15

abbrev pub decreases-run_block_of_band : goal.decreases-run_block_of_band
decreases-run_block_of_band g l = 20 * (length l.walk.now.ops.now - l.band.now.at) + 14

abbrev pub decreases-run_along : goal.decreases-run_along
decreases-run_along g l = 20 * (length l.walk.now.ops.now - l.band.now.at) + 3 + (length l.band.now.loops.0.items - l.d)

abbrev pub invariant-run_part-loop-at : goal.invariant-run_part-loop-at
invariant-run_part-loop-at g l = record {
  setting : g.M.Machine.setting l.machine ≡ g.M.Machine.setting l.fn.machine;
  space : g.M.Machine.space l.machine ≡ g.M.Machine.space l.fn.machine;
  ready : g.M.Machine.ready l.machine;
  kept : g.M.Machine.keeps l.fn.machine l.machine;
  counted : g.M.Machine.faults l.machine ≡ g.M.Machine.faults l.fn.machine;
  left : IsLeft l.walk.space.now l.walk.tree.now (g.M.Machine.setting l.fn.machine) l.walk.ops.now l.start l.at (assignment_of l.fn.numbers)
      (g.M.Machine.state l.fn.machine) (g.M.Machine.state l.machine) (g.M.Machine.touches l.fn.machine) (g.M.Machine.touches l.machine);
  part : IsPart l.walk.space.now l.walk.tree.now (program_at l.walk.ops.now l.at) (assignment_of l.fn.numbers);
  numbers_same : l.numbers ≡ l.fn.numbers;
  behind : l.start ≤ l.at;
  within : l.at ≤ length l.walk.ops.now;
}

abbrev pub decreases-run_part-loop-at : goal.decreases-run_part-loop-at
decreases-run_part-loop-at g l = length l.walk.ops.now - l.at

abbrev pub invariant-run_turns-loop-x : goal.invariant-run_turns-loop-x
invariant-run_turns-loop-x g l = record {
  setting : g.M.Machine.setting l.machine ≡ g.M.Machine.setting l.fn.machine;
  space : g.M.Machine.space l.machine ≡ g.M.Machine.space l.fn.machine;
  ready : g.M.Machine.ready l.machine;
  kept : g.M.Machine.keeps l.fn.machine l.machine;
  counted : g.M.Machine.faults l.machine ≡ g.M.Machine.faults l.fn.machine;
  turns : AreTurns l.walk.space.now l.walk.tree.now (g.M.Machine.setting l.fn.machine) l.head.index (program_at l.walk.ops.now (l.head.at + 1)) (assignment_of l.fn.numbers) l.x
      (g.M.Machine.state l.fn.machine) (g.M.Machine.state l.machine) (g.M.Machine.touches l.fn.machine) (g.M.Machine.touches l.machine);
  numbers_set : l.numbers ≡ set l.fn.numbers l.head.index (l.x - 1);
  end : IsEnd l.walk.ops.now (l.head.at + 1) l.close;
}

abbrev pub invariant-run_band-loop-parts : goal.invariant-run_band-loop-parts
invariant-run_band-loop-parts g l = record {
  setting : g.M.Machine.setting l.machine ≡ g.M.Machine.setting l.fn.machine;
  space : g.M.Machine.space l.machine ≡ g.M.Machine.space l.fn.machine;
  ready : g.M.Machine.ready l.machine;
  kept : g.M.Machine.keeps l.fn.machine l.machine;
  counted : g.M.Machine.faults l.machine ≡ g.M.Machine.faults l.fn.machine;
  left : AreBlocksLeft l.walk.space.now l.walk.tree.now (g.M.Machine.setting l.fn.machine) (program_at l.walk.ops.now l.band.at) l.band.loops.0.items (assignment_of l.fn.numbers)
      l.parts (g.M.Machine.state l.fn.machine) (g.M.Machine.state l.machine) (g.M.Machine.touches l.fn.machine) (g.M.Machine.touches l.machine);
  numbers_same : l.numbers ≡ l.fn.numbers;
}

abbrev pub decreases-run_band-loop-parts : goal.decreases-run_band-loop-parts
decreases-run_band-loop-parts g l = length l.parts

abbrev pub invariant-run_along-loop-x : goal.invariant-run_along-loop-x
invariant-run_along-loop-x g l = record {
  setting : g.M.Machine.setting l.machine ≡ g.M.Machine.setting l.fn.machine;
  space : g.M.Machine.space l.machine ≡ g.M.Machine.space l.fn.machine;
  ready : g.M.Machine.ready l.machine;
  kept : g.M.Machine.keeps l.fn.machine l.machine;
  counted : g.M.Machine.faults l.machine ≡ g.M.Machine.faults l.fn.machine;
  turns : ArePartTurns l.walk.space.now l.walk.tree.now (g.M.Machine.setting l.fn.machine) (program_at l.walk.ops.now l.band.at) l.band.loops.0.items (part_of l.block) l.d
      (assignment_of l.fn.numbers) l.x (g.M.Machine.state l.fn.machine) (g.M.Machine.state l.machine) (g.M.Machine.touches l.fn.machine) (g.M.Machine.touches l.machine);
  numbers_set : set l.numbers l.i 0 ≡ set l.fn.numbers l.i 0;
}
