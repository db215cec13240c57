use Rattle.std.specs.List.{AllWithin}
use Rattle.tce_fusion.specs.Relation.{above}
use Rattle.tce_search.specs.Groups.{PairStands}
use Rattle.tce_search.proofs.candidate_list.some_pair_covers.Given as goal

abbrev pub invariant-loop-under : goal.invariant-loop-under
invariant-loop-under l =
    AllWithin (λ under. PairStands l.sought.outer (above l.sought.state.now.classes) l.sought.state.now.cost l.sought.marks l.groups l.candidates l.sought.parts.now l.part under → ⊥) l.parts 0 l.under-index
