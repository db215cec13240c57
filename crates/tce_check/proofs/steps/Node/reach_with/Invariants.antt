use Rattle.tce_check.specs.Node.{IsReachWith}
use Rattle.tce_check.proofs.steps.Node.reach_with.Given as goal

abbrev pub invariant-loop-top : goal.invariant-loop-top
invariant-loop-top l = IsReachWith l.self l.tops l.least
