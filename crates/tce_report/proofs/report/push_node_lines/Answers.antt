use Rattle.std.proofs.Common.{◌≡◌, ◌++◌, ap, ◌∙◌, arith, ◌∷◌, []}
use Rattle.std.specs.List.{flat_map, range_with_len}
use Rattle.tce_tree.specs.ContractionTree.{operations}
use Rattle.tce_report.specs.NodeLine.{node_line, stated}
use Rattle.tce_report.specs.Report.{node_lines}
use Rattle.tce_report.proofs.NodeLines.{lines_more}
use Rattle.tce_report.proofs.report.push_node_lines.Goals as goal

pub loop-v-preserved : goal.loop-v-preserved
loop-v-preserved c =
    lines_more (node_line c.args.space.now c.args.tree.now (stated c.args.plan.now)) c.args.text.now.items c.loop-v.text.items _ _ _ c.loop-v.v c.loop-v.invariant
    (c.as_bytes.ensures.value ∙ c.as_str.ensures.value ∙ c.node_line.ensures) c.in_ok-extend_from_slice.ensures.items c.in_ok-push.ensures.items

pub returns : goal.returns
unfolding node_lines
returns c =
    let all : c.loop-v.v ≡ operations c.args.tree.now = omega (arith, c.count-v-end.ensures.value) in
    c.loop-v.invariant
    ∙ ap (λ n. c.args.text.now.items ++ flat_map (λ v. node_line c.args.space.now c.args.tree.now (stated c.args.plan.now) v ++ 10 ∷ []) (range_with_len 0 n)) all
