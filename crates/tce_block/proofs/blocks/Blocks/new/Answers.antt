use Rattle.std.proofs.Common.{◌≡◌, ◌∙◌, ℕ, List, take, ap, refl, arith}
use Rattle.std.specs.Int.{div_ceil}
use Rattle.std.proofs.lemmas.List.{take_all}
use Rattle.tce_block.specs.Cuts.{extents_of, edges_of}
use Rattle.tce_block.specs.declared.cut.Cut.{Cut}
use Rattle.tce_block.proofs.Beginning.{IsBegun, counts_of, zeros_of, one_cut_more, rightly_begun}
use Rattle.tce_block.proofs.blocks.Blocks.new.Goals as goal
use Rattle.tce_block.proofs.blocks.Blocks.new.Goals.{After-loop-cut}

pub loop-cut-preserved : goal.loop-cut-preserved
loop-cut-preserved c =
    let cuts : List Cut = c.as_slice-cut-items.result.now in
    let i : ℕ = c.loop-cut.cut-index in (
      c.push.ensures.items ∙ one_cut_more (λ (k : Cut). k.extent) cuts _ i _ _ c.loop-cut.invariant.0 (omega arith) refl,
      c.push-in-loop-cut.ensures.items ∙ one_cut_more (λ (k : Cut). k.edge) cuts _ i _ _ c.loop-cut.invariant.1 (omega arith) refl,
      c.push-in-loop-cut-2.ensures.items ∙ one_cut_more (λ (k : Cut). div_ceil k.extent k.edge) cuts _ i _ _ c.loop-cut.invariant.2 (omega arith) c.div_ceil.ensures,
      c.push-in-loop-cut-3.ensures.items ∙ one_cut_more (λ (k : Cut). 0) cuts _ i _ (record { index = 0; extent = 0; edge = 0 }) c.loop-cut.invariant.3 (omega arith) refl,
      omega arith,
      omega arith,
      omega arith,
      omega arith,
    )

-- after the last cut
begun : (c : After-loop-cut) → IsBegun c.args.cuts.now.items c.loop-cut.extents.items c.loop-cut.edges.items c.loop-cut.counts.items c.loop-cut.numbers.items
begun c =
    let cuts : List Cut = c.as_slice-cut-items.result.now in
    let whole : take c.loop-cut.cut-index cuts ≡ c.args.cuts.now.items = take_all c.loop-cut.cut-index cuts (omega arith) ∙ c.as_slice-cut-items.ensures.value in
    rightly_begun c.args.cuts.now.items _ _ _ _ c.requires
    (c.loop-cut.invariant.0 ∙ ap extents_of whole)
    (c.loop-cut.invariant.1 ∙ ap edges_of whole)
    (c.loop-cut.invariant.2 ∙ ap counts_of whole)
    (c.loop-cut.invariant.3 ∙ ap zeros_of whole)

pub invariant_of-result : goal.invariant_of-result
invariant_of-result c = let b = begun c in record { counts = b.counts_is; inside = b.inside; within = b.within }

pub returns : goal.returns
returns c = (begun c).first
