use Rattle.std.specs.List.{AllWithin}
use Rattle.tce_fusion.specs.Relation.{above}
use Rattle.tce_search.specs.Groups.{PartStands}
use Rattle.tce_search.proofs.candidate_list.some_group_covers.Given as goal

abbrev pub invariant-loop-part : goal.invariant-loop-part
invariant-loop-part l =
    AllWithin (λ part. PartStands l.sought.outer (above l.sought.state.now.classes) l.sought.state.now.cost l.sought.marks l.groups l.candidates l.sought.parts.now part → ⊥) l.parts 0 l.part-index
