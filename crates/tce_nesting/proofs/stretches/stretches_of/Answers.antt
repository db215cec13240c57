use Rattle.std.proofs.Common.{◌-◌, ◌∙◌, arith}
use Rattle.std.proofs.lemmas.List.{length-set}
use Rattle.tce_nesting.proofs.StretchParts.{stretches_earlier}
use Rattle.tce_nesting.proofs.stretches.stretches_of.Goals as goal

pub loop-place-preserved : goal.loop-place-preserved
loop-place-preserved c =
    let k = c.loop-place.place - 1 in
    let choices = c.args.choices.now in
    let stretches = c.loop-place.stretches in
    let stretch = c.stretch_from-stretch.result in
    record {
      count = length-set stretches k stretch ∙ c.loop-place.invariant.count;
      inside = omega (arith, c.loop-place.invariant.inside);
      later = stretches_earlier k c.loop-place.place choices stretches stretch (omega (arith, c.loop-place-test.true)) (omega (arith, c.loop-place-test.true, c.loop-place.invariant.inside, c.loop-place.invariant.count, c.requires)) c.stretch_from-stretch.ensures c.loop-place.invariant.later;
    }
