use Rattle.std.proofs.Common.{sym, ◌∙◌, eqb-true}
use Rattle.tce_walk.proofs.SummedLoops as loops
use Rattle.tce_walk.proofs.indexes.are_summed.Goals as goal

pub returns-then-are_distinct : goal.returns-then-are_distinct
returns-then-are_distinct c = λ t.
    loops.are_summed c.args.tree.now c.args.v c.in-Some.set c.loops.result c.dims.result c.args.loops.now c.count-nodes.ensures.kept c.requires
    (c.are_distinct.ensures c.if-are_distinct.true) c.in-Some.ensures c.loops.ensures.value c.dims.ensures (eqb-true c.in-Some.set c.minus.result (sym c.eq.ensures ∙ t) ∙ c.minus.ensures.value)
