use Rattle.std.proofs.Common.{◌≡◌, ◌∙◌, drop, take, ap, arith}
use Rattle.std.proofs.lemmas.List.{take_all}
use Rattle.tce_block.specs.Cuts.{extents_of, edges_of, part_of}
use Rattle.tce_block.specs.Parts.{blocks}
use Rattle.tce_block.proofs.Grouped.{AreBegun, after_point, begun}
use Rattle.tce_block.proofs.groups.GroupedBlocks.new.Goals as goal
use Rattle.tce_block.proofs.groups.GroupedBlocks.new.Goals.{After-default}

all_begun : (c : After-default) → AreBegun c.args.cuts.now.items c.args.sizes.now.items c.loop-cut.extents.items c.loop-cut.edges.items (part_of c.default.result) c.next-point.new.self c.new.result
all_begun c =
    let whole : take c.loop-cut.cut-index c.as_slice-cut-items.result.now ≡ c.args.cuts.now.items =
    take_all c.loop-cut.cut-index c.as_slice-cut-items.result.now (omega arith) ∙ c.as_slice-cut-items.ensures.value in
    begun c.args.cuts.now.items c.args.sizes.now.items c.loop-cut.extents.items c.loop-cut.edges.items (part_of c.default.result) c.next-point.new.self c.new.result c.requires.cuts c.requires.sizes
    c.requires.counts (c.loop-cut.invariant.extents ∙ ap extents_of whole) (c.loop-cut.invariant.edges ∙ ap edges_of whole)
    (c.next-point.ensures.rest ∙ ap (drop 1) (c.new-numbers.ensures ∙ ap (λ cuts. blocks (extents_of cuts) (edges_of cuts)) c.new-point.ensures) ∙ after_point) c.new.ensures

pub invariant_of-result : goal.invariant_of-result
invariant_of-result c = let b = all_begun c in record { within = b.within; groups = b.lengths; pairs = b.pairs }

pub returns : goal.returns
returns c = (all_begun c).first
