use Rattle.std.proofs.Common.{◌+◌, arith}
use Rattle.tce_check.proofs.Settling.{kept_here}
use Rattle.tce_check.proofs.gather.keep.Goals as goal

pub returns-then-stands_for-2-clause-row : goal.returns-then-stands_for-2-clause-row
returns-then-stands_for-2-clause-row c row stands =
    kept_here c.args.rest c.args.rows.now c.args.places.now c.args.place c.args.count c.args.at row c.if-place-count.true (omega (arith, c.if-place-count.true, c.requires.room)) stands

pub returns-clause-row : goal.returns-clause-row
returns-clause-row c row stands =
    kept_here c.args.rest c.args.rows.now c.args.places.now c.args.count (c.args.count + 1) c.args.at row (omega arith) c.requires.room stands
