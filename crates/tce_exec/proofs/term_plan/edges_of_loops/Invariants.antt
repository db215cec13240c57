use Rattle.std.proofs.Common.{◌≡◌, map, take}
use Rattle.arrayvec.specs.ArrayVec.{array_vec_len}
use Rattle.tce_space.specs.Space.{edge_at}
use Rattle.tce_exec.proofs.term_plan.edges_of_loops.Given as goal

abbrev pub invariant-loop-index : goal.invariant-loop-index
invariant-loop-index l = record {
  edges_are : l.edges.items ≡ map (edge_at l.space) (take l.index-index l.loops);
  count : array_vec_len l.edges ≡ l.index-index;
}
