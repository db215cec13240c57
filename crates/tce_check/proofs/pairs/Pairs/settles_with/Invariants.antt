use Rattle.std.proofs.Common.{◌-◌, length}
use Rattle.tce_check.specs.Kept.{StayKept}
use Rattle.tce_check.specs.Pairs.{SettlesKept}
use Rattle.tce_check.proofs.pairs.Pairs.settles_with.Given as goal

abbrev pub invariant-loop-at : goal.invariant-loop-at
invariant-loop-at l = record {
  left : StayKept l.count l.fn.lefts l.lefts;
  settled : SettlesKept l.self l.branch l.fn.lefts l.count l.at;
}

abbrev pub decreases-loop-at : goal.decreases-loop-at
decreases-loop-at l = length l.self.rights.now - l.at
