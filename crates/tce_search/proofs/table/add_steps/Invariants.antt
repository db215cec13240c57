use Rattle.std.proofs.Common.{◌⊎◌, ◌-◌, length}
use Rattle.std.specs.List.{All, AllWithin, Any, Contains}
use Rattle.tce_fusion.specs.Relation.{none}
use Rattle.tce_search.specs.Candidates.{Stands, ChoiceCovered}
use Rattle.tce_search.specs.Joins.{IsSomeStepFrom, Grows}
use Rattle.tce_search.proofs.table.add_steps.Given as goal

abbrev pub invariant-loop-place : goal.invariant-loop-place
invariant-loop-place l = record {
  covered : AllWithin (ChoiceCovered l.fn.list.outer l.join.row l.list.candidates) l.choices 0 l.place;
  grows : Grows l.fn.list l.list;
  limit : Any (Stands l.list.outer none l.choosing.limit) l.list.candidates;
  origin : All (λ x. Contains l.fn.list.candidates x ⊎ IsSomeStepFrom l.choosing l.join x) l.list.candidates;
}

abbrev pub decreases-loop-place : goal.decreases-loop-place
decreases-loop-place l = length l.choices - l.place
