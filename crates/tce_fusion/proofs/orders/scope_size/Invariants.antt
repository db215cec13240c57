use Rattle.std.proofs.Common.{◌≡◌, ◌≤◌, count_by}
use Rattle.std.specs.List.{range_with_len}
use Rattle.tce_fusion.specs.Tops.{joined}
use Rattle.tce_fusion.proofs.orders.scope_size.Given as goal

abbrev pub invariant-loop-w : goal.invariant-loop-w
invariant-loop-w l = record { value : l.size ≡ count_by (joined l.tops l.v) (range_with_len 0 l.w); limit : l.size ≤ l.w }
