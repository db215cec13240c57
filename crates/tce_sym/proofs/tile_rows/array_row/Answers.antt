use Rattle.std.proofs.Common.{refl, arith}
use Rattle.tce_sym.proofs.WordCoords.{array_end, array_row_is}
use Rattle.tce_sym.proofs.tile_rows.array_row.Goals as goal

pub bounds-deref-last : goal.bounds-deref-last
bounds-deref-last c =
    (array_end c.args.shape.now c.coords_at-coords.result.items c.extents.result.now c.extents-2.result.now c.deref.result.now c.requires.rank c.coords_at-coords.ensures.inside c.extents.ensures.items c.extents-2.ensures.items c.deref.ensures.0).bound

pub overflow_sub-len : goal.overflow_sub-len
overflow_sub-len c =
    let e = array_end c.args.shape.now c.coords_at-coords.result.items c.extents.result.now c.extents-2.result.now c.deref.result.now c.requires.rank c.coords_at-coords.ensures.inside c.extents.ensures.items c.extents-2.ensures.items c.deref.ensures.0 in
    omega (arith, e.below)

pub returns : goal.returns
returns c =
    let e = array_end c.args.shape.now c.coords_at-coords.result.items c.extents.result.now c.extents-2.result.now c.deref.result.now c.requires.rank c.coords_at-coords.ensures.inside c.extents.ensures.items c.extents-2.ensures.items c.deref.ensures.0 in
    array_row_is c.args.shape.now c.args.word _ c.requires.rank c.requires.order c.coords_at-coords.ensures.inside c.coords_at-coords.ensures.place (omega (arith, e.below, e.coord, e.extent)) refl
