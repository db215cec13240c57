use Rattle.std.proofs.Common.{ℕ, ◌+◌, ◌-◌, ◌*◌, ◌<◌, length}
use Rattle.tce_space.specs.IndexSet.{count}
use Rattle.tce_check.specs.Pairs.{SettlesRows}
use Rattle.tce_check.proofs.Gathered.{SettlesBy}
use Rattle.tce_check.proofs.pairs.Pairs.+branches.Given as goal

-- the branch itself comes before its parts
abbrev pub decreases-settles_branch : goal.decreases-settles_branch
decreases-settles_branch l = count l.branch.now.rest * 2 + 1

abbrev pub decreases-settles_branches : goal.decreases-settles_branches
decreases-settles_branches l = count l.branch.now.rest * 2

abbrev pub invariant-settles_branch-loop-at : goal.invariant-settles_branch-loop-at
invariant-settles_branch-loop-at l = SettlesRows l.self l.branch l.at

abbrev pub decreases-settles_branch-loop-at : goal.decreases-settles_branch-loop-at
decreases-settles_branch-loop-at l = length l.self.lefts.now - l.at

abbrev pub invariant-settles_branches-loop-index : goal.invariant-settles_branches-loop-index
invariant-settles_branches-loop-index l = (i : ℕ) → i < l.index → SettlesBy l.self l.branch i
