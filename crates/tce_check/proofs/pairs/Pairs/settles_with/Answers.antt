use Rattle.std.proofs.Common.{arith}
use Rattle.tce_check.proofs.Settling.{stay_more}
use Rattle.tce_check.proofs.Gathered.{kept_more}
use Rattle.tce_check.proofs.pairs.Pairs.settles_with.Goals as goal

pub loop-at-preserved : goal.loop-at-preserved
loop-at-preserved c = record {
  left = stay_more c.args.count c.args.count c.args.lefts.now c.loop-at.lefts c.settles.new.lefts (omega arith) c.loop-at.auto.lefts c.loop-at.invariant.left c.settles.ensures.left;
  settled = kept_more c.args.self.now c.args.branch.now c.args.lefts.now c.loop-at.lefts c.gather-few.new.places c.args.count c.gather-few.result.0 c.loop-at.at c.gather-few.result.1
      c.requires.limits c.requires.lefts c.loop-at.invariant.left c.loop-at.invariant.settled c.gather-few.ensures.gathered (c.settles.ensures.settled c.if-not-settles.false);
}
