use Rattle.std.proofs.Common.{◌≡◌, [], length, map, replicate}
use Rattle.tce_nesting.proofs.tables.Tables.new.Given as goal

abbrev pub invariant-loop : goal.invariant-loop
invariant-loop l = record { empty : map (λ list. list.items) l.all.items ≡ replicate l.counter []; count : length l.all.items ≡ l.counter }
