use Rattle.std.proofs.Common.{◌≡◌, ◌++◌, ◌∷◌, []}
use Rattle.std.specs.List.{flat_map, range_with_len}
use Rattle.tce_report.specs.NodeLine.{node_line, stated}
use Rattle.tce_report.proofs.report.push_node_lines.Given as goal

abbrev pub invariant-loop-v : goal.invariant-loop-v
invariant-loop-v l = l.text.items ≡ l.fn.text.items ++ flat_map (λ v. node_line l.space l.tree (stated l.plan) v ++ 10 ∷ []) (range_with_len 0 l.v)
