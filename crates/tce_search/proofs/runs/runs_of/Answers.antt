use Rattle.std.proofs.Common.{◌≡◌, ◌+◌, ◌-◌, ◌<◌, length, arith, subst}
use Rattle.tce_nesting.specs.Ends.{IsRun}
use Rattle.tce_nesting.proofs.RunParts.{run_at}
use Rattle.tce_search.specs.Laws.{rows_of}
use Rattle.tce_search.proofs.RunParts.{rows_count, runs_set}
use Rattle.tce_search.proofs.runs.runs_of.Goals as goal

pub loop-place-preserved : goal.loop-place-preserved
loop-place-preserved c =
    let place = c.loop-place.place in
    let loops = c.args.loops in
    let rows = rows_of c.args.candidates.now in
    let count = rows_count c.args.candidates.now in
    let runs = c.loop-place.runs.items in
    let all = c.loop-place.invariant.runs in
    let next : place - 1 ≡ place - 1 - 1 + 1 = omega (arith, c.loop-place-test.true) in
    let low : place - 1 < length rows = omega (arith, c.loop-place-test.true, c.loop-place.invariant.inside, count) in
    let here = run_at loops (place - 1 - 1) rows runs c.index.result.now all (omega (arith, low)) c.index.ensures in
    let there = subst (λ n. IsRun loops rows n c.index-in-loop-place.result.now) next
    (run_at loops (place - 1) rows runs c.index-in-loop-place.result.now all low c.index-in-loop-place.ensures) in
    record {
      inside = omega (arith, c.loop-place.invariant.inside);
      runs = runs_set loops (place - 1 - 1) rows runs c.and_next-longer.result (omega (arith, low, all.count)) (c.and_next-longer.ensures loops (place - 1 - 1) rows here there) all;
    }
