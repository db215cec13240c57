use Rattle.std.specs.List.{AllWithin}
use Rattle.tce_fusion.specs.Relation.{above}
use Rattle.tce_search.specs.Groups.{StandsAt}
use Rattle.tce_search.proofs.candidate_list.group_covers.Given as goal

abbrev pub invariant-loop-entry : goal.invariant-loop-entry
invariant-loop-entry l =
    AllWithin (λ entry. StandsAt l.sought.outer (above l.sought.state.now.classes) l.sought.state.now.cost l.sought.marks l.candidates entry → ⊥) l.group 0 l.entry-index
