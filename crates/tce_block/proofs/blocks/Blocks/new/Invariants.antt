use Rattle.std.proofs.Common.{◌≡◌, take}
use Rattle.arrayvec.specs.ArrayVec.{array_vec_len}
use Rattle.tce_block.specs.Cuts.{extents_of, edges_of}
use Rattle.tce_block.proofs.Beginning.{counts_of, zeros_of}
use Rattle.tce_block.proofs.blocks.Blocks.new.Given as goal

abbrev pub invariant-loop-cut : goal.invariant-loop-cut
invariant-loop-cut l =
    (l.extents.items ≡ extents_of (take l.cut-index l.cut-items)) × (l.edges.items ≡ edges_of (take l.cut-index l.cut-items))
    × (l.counts.items ≡ counts_of (take l.cut-index l.cut-items)) × (l.numbers.items ≡ zeros_of (take l.cut-index l.cut-items))
    × (array_vec_len l.extents ≡ l.cut-index) × (array_vec_len l.edges ≡ l.cut-index) × (array_vec_len l.counts ≡ l.cut-index) × (array_vec_len l.numbers ≡ l.cut-index)
