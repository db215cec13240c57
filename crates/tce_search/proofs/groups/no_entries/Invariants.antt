use Rattle.std.proofs.Common.{◌≡◌, [], length, map, replicate}
use Rattle.tce_search.proofs.groups.no_entries.Given as goal

abbrev pub invariant-loop : goal.invariant-loop
invariant-loop l = record { empty : map (λ list. list.items) l.lists.items ≡ replicate l.counter []; count : length l.lists.items ≡ l.counter }
