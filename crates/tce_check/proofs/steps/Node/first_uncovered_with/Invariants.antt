use Rattle.std.specs.List.{AllWithin}
use Rattle.tce_fusion.specs.Cover.{StepsCovered}
use Rattle.tce_check.specs.Verdict.{WhereJoined}
use Rattle.tce_check.proofs.steps.Node.first_uncovered_with.Given as goal

abbrev pub invariant-loop-right : goal.invariant-loop-right
invariant-loop-right l =
    AllWithin (WhereJoined l.self.tree.now l.self.number (StepsCovered l.self.space.now l.self.tree.now l.self.outer l.self.number l.self.rows.now) l.left) l.rights 0 l.right-index
