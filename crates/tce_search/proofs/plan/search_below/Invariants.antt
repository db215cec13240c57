use Rattle.std.proofs.Common.{◌≡◌, ◌+◌, ◌-◌, ◌≤◌, cond, false}
use Rattle.tce_search.specs.LeastPlan.{IsBelowFusions}
use Rattle.tce_search.proofs.plan.search_below.Given as goal

abbrev pub invariant-loop-least : goal.invariant-loop-least
invariant-loop-least l = record {
  below : IsBelowFusions l.space l.tree l.least;
  most : l.bounds.ceiling ≤ l.end;
  last : l.bounds.learns ≡ false → l.end ≤ l.least;
}

abbrev pub decreases-loop-least : goal.decreases-loop-least
decreases-loop-least l = cond l.bounds.learns (l.end - l.bounds.ceiling + 1) 0
