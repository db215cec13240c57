use Rattle.std.proofs.Common.{◌-◌, length}
use Rattle.std.specs.List.{AllWithin}
use Rattle.tce_fusion.specs.Cover.{StepsCovered}
use Rattle.tce_check.specs.Verdict.{WhereJoined}
use Rattle.tce_check.proofs.steps.Node.covers_with.Given as goal

abbrev pub invariant-loop-place : goal.invariant-loop-place
invariant-loop-place l = AllWithin (WhereJoined l.self.tree.now l.self.number (StepsCovered l.self.space.now l.self.tree.now l.self.outer l.self.number l.self.rows.now) l.left) l.rights 0 l.place

abbrev pub decreases-loop-place : goal.decreases-loop-place
decreases-loop-place l = length l.rights - l.place
