use Rattle.std.proofs.Common.{◌≡◌, take, All}
use Rattle.arrayvec.specs.ArrayVec.{array_vec_len}
use Rattle.tce_exec.specs.Nests.{IsPlaced, indexes_of}
use Rattle.tce_exec.proofs.nest.axes_of.Given as goal

abbrev pub invariant-loop-d : goal.invariant-loop-d
invariant-loop-d l = record {
  indexes : indexes_of l.axes.items ≡ take l.d l.loops;
  placed : All (IsPlaced l.loops) l.axes.items;
  count : array_vec_len l.axes ≡ l.d;
}
