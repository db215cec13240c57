use Rattle.tce_report.specs.NodeLine.{stated}
use Rattle.tce_report.specs.Report.{node_lines}
use Rattle.tce_report.proofs.Joined.{report_pushed}
use Rattle.tce_report.proofs.report.text_between.Goals as goal

pub returns : goal.returns
returns c =
    report_pushed _ _ _ _ _ c.args.head.now (node_lines c.args.space.now c.args.tree.now (stated c.args.plan.now)) c.args.end.now
    c.new-text.ensures.items c.in_ok-extend_from_slice.ensures.items c.in_ok-push_node_lines.ensures c.as_bytes.ensures.value c.in_ok-extend_from_slice-2.ensures.items
