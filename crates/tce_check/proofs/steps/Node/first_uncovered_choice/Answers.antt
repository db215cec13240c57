use Rattle.tce_check.specs.Joint.{ChoiceCovered}
use Rattle.tce_check.proofs.Firsts.{one_more}
use Rattle.tce_check.proofs.steps.Node.first_uncovered_choice.Goals as goal

pub loop-choice-preserved : goal.loop-choice-preserved
loop-choice-preserved c =
    let node = c.args.self.now in
    one_more (ChoiceCovered node.outer node.rows.now c.args.joint.now)
    node.choices.now c.loop-choice.choice-index c.choice-item.result c.loop-choice-test.true c.choice-item.is c.loop-choice.invariant (c.is_covered.ensures.yes c.if-not-is_covered.false)
