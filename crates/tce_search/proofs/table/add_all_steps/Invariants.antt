use Rattle.std.proofs.Common.{◌⊎◌}
use Rattle.std.specs.List.{All, AllWithin, Any, Contains}
use Rattle.tce_fusion.specs.Relation.{none}
use Rattle.tce_search.specs.Candidates.{Stands, ChoiceCovered}
use Rattle.tce_search.specs.Joins.{IsSomeStepFrom, Grows}
use Rattle.tce_search.proofs.table.add_all_steps.Given as goal

abbrev pub invariant-loop-join : goal.invariant-loop-join
invariant-loop-join l = record {
  covered : AllWithin (λ join. All (ChoiceCovered l.fn.list.outer join.row l.list.candidates) l.choosing.choices.now) l.joins 0 l.join-index;
  grows : Grows l.fn.list l.list;
  limit : Any (Stands l.list.outer none l.choosing.limit) l.list.candidates;
  origin : All (λ x. Contains l.fn.list.candidates x ⊎ Any (λ join. IsSomeStepFrom l.choosing join x) l.joins) l.list.candidates;
}
