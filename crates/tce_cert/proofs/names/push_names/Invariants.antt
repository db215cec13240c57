use Rattle.std.proofs.Common.{◌≡◌, ◌++◌, ◌∷◌, get_or, take}
use Rattle.tce_report.specs.Names.{index_list}
use Rattle.tce_cert.proofs.names.push_names.Given as goal

abbrev pub invariant-loop-index : goal.invariant-loop-index
invariant-loop-index l = l.text.items ≡ l.fn.text.items ++ index_list l.space (get_or l.indexes 0 0 ∷ take l.index-index l.rest)
