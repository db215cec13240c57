use Rattle.std.proofs.lemmas.Result.{err_from_is_err_and}
use Rattle.std.proofs.Common.{◌≡◌, ◌++◌, ap, ◌∙◌, arith}
use Rattle.tce_tree.specs.ContractionTree.{operations}
use Rattle.tce_report.specs.NodeLine.{node_line, stated}
use Rattle.tce_cert.specs.Certificate.{text_of, nodes_lines}
use Rattle.tce_cert.proofs.Texts.{node_pushed}
use Rattle.tce_cert.proofs.write.push_nodes.Goals as goal

pub loop-v-preserved : goal.loop-v-preserved
loop-v-preserved c =
    node_pushed (node_line c.args.space.now c.args.tree.now (stated c.args.plan.now)) c.args.text.now.items c.loop-v.text.items _ _ _ c.loop-v.v c.loop-v.invariant
    (c.as_bytes.ensures.value ∙ c.as_str.ensures.value ∙ c.node_line.ensures) c.in_ok-extend_from_slice.ensures.items c.in_ok-push.ensures.items

pub returns : goal.returns
returns c =
    let all : c.loop-v.v ≡ operations c.args.tree.now = omega (arith, c.count-v-end.ensures.value) in
    c.loop-v.invariant ∙ ap (λ n. c.args.text.now.items ++ text_of (nodes_lines c.args.space.now c.args.tree.now c.args.plan.now n)) all

pub returns-in_err-extend_from_slice : goal.returns-in_err-extend_from_slice
returns-in_err-extend_from_slice c =
    let p = err_from_is_err_and c.from_residual.result c.from_residual.ensures.1 in
    rw p.1 tt

pub returns-in_err-push : goal.returns-in_err-push
returns-in_err-push c =
    let p = err_from_is_err_and c.from_residual-in_err-push.result c.from_residual-in_err-push.ensures.1 in
    rw p.1 tt
