use Rattle.std.proofs.Common.{◌≡◌, take}
use Rattle.tce_block.specs.Cuts.{extents_of, edges_of}
use Rattle.tce_block.proofs.blocks.are_cut_so.Given as goal

abbrev pub invariant-loop-d : goal.invariant-loop-d
invariant-loop-d l = record {
  extents : take l.d l.extents ≡ extents_of (take l.d l.cuts);
  edges : take l.d l.edges ≡ edges_of (take l.d l.cuts);
}
