use Rattle.std.specs.List.{AllWithin}
use Rattle.tce_check.specs.Joint.{ChoiceCovered}
use Rattle.tce_check.proofs.steps.Node.first_uncovered_choice.Given as goal

abbrev pub invariant-loop-choice : goal.invariant-loop-choice
invariant-loop-choice l = AllWithin (ChoiceCovered l.self.outer l.self.rows.now l.joint) l.self.choices.now 0 l.choice-index
