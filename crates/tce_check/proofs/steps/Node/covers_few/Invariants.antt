use Rattle.std.specs.List.{All, AllWithin}
use Rattle.tce_fusion.specs.Cover.{StepsCovered}
use Rattle.tce_check.specs.Verdict.{WhereJoined}
use Rattle.tce_check.proofs.steps.Node.covers_few.Given as goal

abbrev pub invariant-loop-left : goal.invariant-loop-left
invariant-loop-left l =
    AllWithin (λ left. All (WhereJoined l.self.tree.now l.self.number (StepsCovered l.self.space.now l.self.tree.now l.self.outer l.self.number l.self.rows.now) left) l.rights) l.lefts 0 l.left-index
