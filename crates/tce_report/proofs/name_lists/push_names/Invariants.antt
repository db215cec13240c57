use Rattle.std.proofs.Common.{◌≡◌, ◌≤◌, ◌+◌, ◌*◌, ◌++◌, ◌∷◌, length, get_or, take}
use Rattle.tce_report.specs.Names.{index_list}
use Rattle.tce_report.proofs.name_lists.push_names.Given as goal

abbrev pub invariant-loop-index : goal.invariant-loop-index
invariant-loop-index l = record {
  names : l.line.bytes ≡ l.fn.line.bytes ++ index_list l.space (get_or l.indexes 0 0 ∷ take l.index-index l.rest);
  length : length l.line.bytes ≤ length l.fn.line.bytes + 17 * l.index-index + 16;
}
