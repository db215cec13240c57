use Rattle.tce_nesting.proofs.StretchParts.{stretches_together}
use Rattle.tce_nesting.proofs.stretches.together.Goals as goal

pub returns-clause-whole : goal.returns-clause-whole
returns-clause-whole c =
    stretches_together c.args.first.now c.args.next.now c.meet.result c.union.result c.meet.ensures.members c.union.ensures.members
