use Rattle.std.proofs.Common.{◌-◌, length}
use Rattle.std.specs.List.{AllWithin}
use Rattle.tce_check.specs.Joint.{ChoiceCovered}
use Rattle.tce_check.proofs.steps.Node.covers_choices.Given as goal

abbrev pub invariant-loop-place : goal.invariant-loop-place
invariant-loop-place l = AllWithin (ChoiceCovered l.self.outer l.self.rows.now l.joint) l.self.choices.now 0 l.place

abbrev pub decreases-loop-place : goal.decreases-loop-place
decreases-loop-place l = length l.self.choices.now - l.place
