use Rattle.std.proofs.Common.{◌-◌, ◌∙◌, arith}
use Rattle.std.proofs.lemmas.List.{length-set}
use Rattle.tce_check.proofs.RunParts.{runs_earlier}
use Rattle.tce_check.proofs.runs.runs_of.Goals as goal

pub loop-place-preserved : goal.loop-place-preserved
loop-place-preserved c =
    let k = c.loop-place.place - 1 in
    let rows = c.args.rows.now in
    let runs = c.loop-place.runs in
    let run = c.run_from-run.result in
    record {
      count = length-set runs k run ∙ c.loop-place.invariant.count;
      inside = omega (arith, c.loop-place.invariant.inside);
      later = runs_earlier c.args.loops k c.loop-place.place rows runs run (omega (arith, c.loop-place-test.true)) (omega (arith, c.loop-place-test.true, c.loop-place.invariant.inside, c.loop-place.invariant.count, c.requires)) c.run_from-run.ensures c.loop-place.invariant.later;
    }
