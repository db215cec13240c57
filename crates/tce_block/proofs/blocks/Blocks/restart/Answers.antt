use Rattle.std.proofs.Common.{◌∙◌, sym, ap}
use Rattle.tce_block.specs.Cuts.{extents_of, edges_of}
use Rattle.tce_block.proofs.Beginning.{begun_anew}
use Rattle.tce_block.proofs.blocks.Blocks.restart.Goals as goal

pub invariant_of-self : goal.invariant_of-self
invariant_of-self c =
    let b =
    begun_anew c.args.cuts.now.items c.self.inside.extents.items c.self.inside.edges.items c.self.inside.counts.items c.deref_mut.result.now c.clear.new.numbers c.self.inside.numbers c.requires
    (sym c.deref-2.ensures.0 ∙ (c.are_cut_so.ensures c.if-are_cut_so.true).0 ∙ ap extents_of c.deref.ensures.0)
    (sym c.deref-3.ensures.0 ∙ (c.are_cut_so.ensures c.if-are_cut_so.true).1 ∙ ap edges_of c.deref.ensures.0)
    c.self.invariant.counts c.self.invariant.inside c.deref_mut.ensures.value c.clear.ensures in
    record { counts = b.counts_is; inside = b.inside; within = b.within }

pub returns-then-are_cut_so : goal.returns-then-are_cut_so
returns-then-are_cut_so c =
    let b =
    begun_anew c.args.cuts.now.items c.self.inside.extents.items c.self.inside.edges.items c.self.inside.counts.items c.deref_mut.result.now c.clear.new.numbers c.self.inside.numbers c.requires
    (sym c.deref-2.ensures.0 ∙ (c.are_cut_so.ensures c.if-are_cut_so.true).0 ∙ ap extents_of c.deref.ensures.0)
    (sym c.deref-3.ensures.0 ∙ (c.are_cut_so.ensures c.if-are_cut_so.true).1 ∙ ap edges_of c.deref.ensures.0)
    c.self.invariant.counts c.self.invariant.inside c.deref_mut.ensures.value c.clear.ensures in
    b.first
