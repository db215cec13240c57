use Rattle.std.specs.List.{AllWithin}
use Rattle.tce_search.specs.Joins.{HasGrownBy}
use Rattle.tce_search.proofs.StartParts.{IsRunCovered}
use Rattle.tce_search.proofs.joins.add_joins.Given as goal

abbrev pub invariant-loop-start : goal.invariant-loop-start
invariant-loop-start l = record {
  covered : AllWithin (IsRunCovered l.fn.list.outer l.list.candidates l.left l.rights) l.starts.places.items 0 l.start-index;
  grown : HasGrownBy l.left l.rights l.fn.list l.list;
}
