use Rattle.std.proofs.Common.{get_or, arith, sym, ap, ◌∙◌}
use Rattle.std.proofs.lemmas.List.{get_or_default}
use Rattle.tce_tree.proofs.Lists.{index-among}
use Rattle.tce_exec.specs.Nests.{indexes_of}
use Rattle.tce_exec.specs.declared.nest.Axis.{Axis}
use Rattle.tce_exec.proofs.Nests.{one_more, placed_more}
use Rattle.tce_exec.proofs.nest.axes_of.Goals as goal

pub ranked-requires : goal.ranked-requires
ranked-requires c =
    c.requires.loops.below (get_or c.args.loops.now c.loop-d.d 0)
    (index-among c.args.loops.now c.loop-d.d (get_or c.args.loops.now c.loop-d.d 0) (omega arith) (sym (get_or_default c.args.loops.now c.loop-d.d 0 _ (omega arith))))

pub loop-d-preserved : goal.loop-d-preserved
loop-d-preserved c = record {
  indexes = ap indexes_of c.push.ensures.items
      ∙ one_more (λ (x : Axis). x.index) c.loop-d.axes.items c.args.loops.now c.loop-d.d c.ranked.result c.loop-d.invariant.indexes c.loop-d-test.true c.ranked.ensures.index;
  placed = placed_more c.args.loops.now c.loop-d.axes.items c.push.new.self.items c.loop-d.d c.ranked.result c.loop-d-test.true c.push.ensures.items c.ranked.ensures.place c.ranked.ensures.index
      c.loop-d.invariant.placed;
  count = omega (arith, c.push.ensures.len, c.loop-d.invariant.count);
}
