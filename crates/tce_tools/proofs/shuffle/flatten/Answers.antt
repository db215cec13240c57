use Rattle.std.proofs.Common.{arith}
use Rattle.tce_tools.proofs.Shuffles.{flat_more}
use Rattle.tce_tools.proofs.shuffle.flatten.Goals as goal

pub loop-done-preserved : goal.loop-done-preserved
loop-done-preserved c = record {
  done = omega (arith, c.part_at-part.ensures.inside);
  elements = flat_more c.args.shape.now c.args.band c.args.tiled.now c.loop-done.words c.copy_from_slice.new.self c.loop-done.done c.part_at-part.result c.requires.band c.part_at-part.ensures
      c.requires.tiled (omega (arith, c.loop-done.auto.words, c.requires.words)) c.copy_from_slice.ensures.after c.loop-done.invariant.elements;
}

pub returns : goal.returns
returns c = λ element values k lt xs h placed. c.loop-done.invariant.elements element values k (omega (arith, c.loop-done.auto.words, c.requires.words, c.loop-done-test.false)) xs h placed
