use Rattle.std.proofs.Common.{◌≡◌, ◌++◌, map, take, drop}
use Rattle.tce_exec.specs.ChainRows.{link_along}
use Rattle.tce_exec.proofs.row.advance.Given as goal

abbrev pub invariant-loop-k : goal.invariant-loop-k
invariant-loop-k l = l.links ≡ map (link_along l.step.index l.step.by) (take l.k l.fn.links) ++ drop l.k l.fn.links
