use Rattle.std.proofs.Common.{arith, ◌<◌, length, All, ap, ◌∙◌, sym, subst, slice_index}
use Rattle.tce_space.specs.IndexSet.{count, members}
use Rattle.tce_tree.specs.Orders.{lists_of}
use Rattle.tce_tree.proofs.Conditions.{fused_fits_low}
use Rattle.tce_report.specs.NodeLine.{stated}
use Rattle.tce_report.proofs.NodeLines.{root_line, inner_line}
use Rattle.tce_report.proofs.Declared.{order_declared, fused_declared}
use Rattle.tce_report.proofs.node_lines.node_line.Goals as goal

pub loops_text-line-requires-clause-declared : goal.loops_text-line-requires-clause-declared
loops_text-line-requires-clause-declared c =
    subst (All (λ i. i < length c.args.space.now.indexes)) (sym c.order_of.ensures.value)
    (order_declared c.args.space.now c.args.tree.now (lists_of c.args.plan.now.orders.0.items) c.args.v c.index_count-declared.ensures.limits.index_limit
    c.requires.declared c.requires.fits.orders c.requires.inside)

pub push_array-requires-clause-declared : goal.push_array-requires-clause-declared
push_array-requires-clause-declared c =
    subst (λ set. All (λ i. i < length c.args.space.now.indexes) (members set)) (sym c.fused_of.ensures)
    (fused_declared c.args.space.now c.args.tree.now c.args.plan.now.fusion.0.items c.args.v c.index_count-declared.ensures.limits.index_limit
    c.requires.declared c.requires.fits.fusion c.requires.inside)

pub push_array-requires-clause-few : goal.push_array-requires-clause-few
push_array-requires-clause-few c =
    omega (
      arith,
      c.order_of.ensures.few,
      ap length c.order_of.ensures.value,
      ap count c.fused_of.ensures,
      fused_fits_low c.args.tree.now c.args.plan.now.fusion.0.items (lists_of c.args.plan.now.orders.0.items) c.requires.fits.fusion c.requires.fits.orders c.args.v c.requires.inside,
    )

pub returns-then-v-count : goal.returns-then-v-count
returns-then-v-count c =
    root_line c.args.space.now c.args.tree.now (stated c.args.plan.now) c.args.v c.kind.result c.order_of.result.now c.loops_text-line.result.bytes _
    (c.if-v-count.true ∙ c.count-count.ensures.value) c.kind.ensures c.order_of.ensures.value c.loops_text-line.ensures.text c.push_str.ensures.bytes

pub returns-else-v-count : goal.returns-else-v-count
returns-else-v-count c =
    inner_line c.args.space.now c.args.tree.now (stated c.args.plan.now) c.args.v c.kind.result c.order_of.result.now c.fused_of.result (slice_index c.deref.result.now c.args.v)
    c.loops_text-line.result.bytes _ (λ is. c.if-v-count.false (is ∙ sym c.count-count.ensures.value)) c.kind.ensures c.order_of.ensures.value c.fused_of.ensures
    (ap (λ sizes. slice_index sizes c.args.v) c.deref.ensures.0) c.loops_text-line.ensures.text c.push_array.ensures
