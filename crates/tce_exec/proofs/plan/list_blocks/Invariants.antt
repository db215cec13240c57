use Rattle.std.proofs.Common.{◌≡◌, ◌-◌, ◌≤◌, ◌++◌, map, length}
use Rattle.tce_block.specs.Cuts.{extents_of, edges_of, part_of}
use Rattle.tce_block.specs.Parts.{blocks}
use Rattle.tce_exec.proofs.plan.list_blocks.Given as goal

abbrev pub invariant-loop-rest : goal.invariant-loop-rest
invariant-loop-rest l = record {
  all : map part_of l.list.items ++ l.rest ≡ blocks (extents_of l.cuts.items) (edges_of l.cuts.items);
  few : length l.list.items ≤ 16;
}

abbrev pub decreases-loop-rest : goal.decreases-loop-rest
decreases-loop-rest l = 16 - length l.list.items
