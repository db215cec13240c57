use Rattle.std.proofs.Common.{ℕ, List, ◌++◌, ap, ◌∙◌, codes}
use Rattle.std.proofs.lemmas.Result.{IfOk-weaker}
use Rattle.tce_report.specs.NodeLine.{stated}
use Rattle.tce_report.specs.Report.{plan_text, node_lines}
use Rattle.tce_report.proofs.report.plan_text.Goals as goal

pub returns : goal.returns
unfolding plan_text
returns c =
    IfOk-weaker c.text_between-text.result _ _
    (λ text is.
    is ∙ ap (λ (end : List ℕ). codes "tce plan 1\n" ++ (node_lines c.args.space.now c.args.tree.now (stated c.args.plan.now) ++ end)) (c.as_str.ensures.value ∙ c.in_ok-end.ensures.ok))
    c.text_between-text.ensures
