use Rattle.std.proofs.Common.{◌≡◌, ◌≤◌, length}
use Rattle.std.specs.List.{filter, range_with_len}
use Rattle.tce_space.specs.IndexSet.{has}
use Rattle.tce_fields.proofs.indexes.members_of.Given as goal

abbrev pub invariant-loop-index : goal.invariant-loop-index
invariant-loop-index l = record { items : l.all.items ≡ filter (has l.set) (range_with_len 0 l.index); room : length l.all.items ≤ l.index }
