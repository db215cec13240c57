use Rattle.std.proofs.Common.{ℕ, ◌<◌}
use Rattle.tce_space.specs.IndexSet.{count}
use Rattle.tce_check.specs.Kept.{StayKept}
use Rattle.tce_check.proofs.Settled.{SettledBy}
use Rattle.tce_check.proofs.pairs.Pairs.+settles.Given as goal

abbrev pub decreases-settles : goal.decreases-settles
decreases-settles l = count l.rest

abbrev pub invariant-loop-index : goal.invariant-loop-index
invariant-loop-index l = record {
  left : StayKept l.left_count l.fn.lefts l.lefts;
  right : StayKept l.right_count l.fn.rights l.rights;
  done : (i : ℕ) → i < l.index → SettledBy l.self l.rest i l.fn.lefts l.left_count l.fn.rights l.right_count;
}
