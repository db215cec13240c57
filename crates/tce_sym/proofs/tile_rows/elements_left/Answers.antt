use Rattle.std.proofs.Common.{arith}
use Rattle.tce_tools.proofs.Coords.{coordinate_below}
use Rattle.tce_sym.proofs.WordCoords.{inside_by_each}
use Rattle.tce_sym.proofs.tile_rows.elements_left.Goals as goal

pub returns-then-extents-d-clause-outside : goal.returns-then-extents-d-clause-outside
returns-then-extents-d-clause-outside c = λ e inside.
    omega (arith, coordinate_below c.args.extents.now c.args.coords.now c.loop-d.d inside c.loop-d-test.true, c.if-extents-d.true)

pub returns-clause-inside : goal.returns-clause-inside
returns-clause-inside c = λ some. inside_by_each c.args.extents.now c.args.coords.now c.requires.rank (λ d l. c.loop-d.invariant d (omega (arith, l, c.loop-d-test.false)))
