use Rattle.std.proofs.Common.{◌+◌, ◌<◌, length, arith, sym, subst}
use Rattle.tce_nesting.specs.Ends.{IsRun}
use Rattle.tce_nesting.proofs.RunParts.{run_alone}
use Rattle.tce_check.proofs.runs.run_from.Goals as goal

pub returns-then-place-rows : goal.returns-then-place-rows
returns-then-place-rows c = run_alone c.args.loops c.args.place c.args.rows.now c.index-rows-place.result c.alone-alone.result c.requires.inside c.index-rows-place.is c.alone-alone.ensures

pub returns : goal.returns
returns c =
    let loops = c.args.loops in
    let place = c.args.place in
    let rows = c.args.rows.now in
    let next : place + 1 < length rows = omega (arith, c.requires.inside) in
    c.and_next.ensures loops place rows
    (run_alone loops place rows c.index-rows-place.result c.alone-alone.result c.requires.inside c.index-rows-place.is c.alone-alone.ensures)
    (subst (IsRun loops rows (place + 1)) (sym c.index-runs-place.is) (c.requires.later (place + 1) c.index-runs-place.result (omega arith) next))
