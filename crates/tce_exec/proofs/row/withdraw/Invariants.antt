use Rattle.std.proofs.Common.{◌≡◌, ◌++◌, map, take, drop}
use Rattle.tce_exec.specs.ChainRows.{link_before}
use Rattle.tce_exec.proofs.row.withdraw.Given as goal

abbrev pub invariant-loop-k : goal.invariant-loop-k
invariant-loop-k l = l.links ≡ map (link_before l.step.index l.step.by) (take l.k l.fn.links) ++ drop l.k l.fn.links
