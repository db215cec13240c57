use Rattle.std.proofs.Common.{ℕ, List, length, sym, ap, subst, arith}
use Rattle.tce_space.specs.Tiling.{tile_number, place_in_tile}
use Rattle.tce_space.proofs.Tilings.{tile_number-lt, place_in_tile-lt}
use Rattle.tce_space.proofs.Boxes.{length_inside}
use Rattle.tce_array.specs.OnWay.{IsOnWay}
use Rattle.tce_array.proofs.Way.{start, next, bounded, small, ended}
use Rattle.tce_exec.proofs.element.place_of_element.Goals as goal

pub overflow_mul-tile : goal.overflow_mul-tile
overflow_mul-tile c =
    let b = bounded _ _ _ _ _ _ _ _ c.div_ceil.result c.loop-d-test.true c.loop-d.invariant c.div_ceil.ensures in
    let s = small c.args.shape.now c.args.coordinates.now c.extents-extents.ensures.limits c.requires in
    omega (arith, b.0, s.0, s.2)

pub overflow_add-tile : goal.overflow_add-tile
overflow_add-tile c =
    let b = bounded _ _ _ _ _ _ _ _ c.div_ceil.result c.loop-d-test.true c.loop-d.invariant c.div_ceil.ensures in
    let s = small c.args.shape.now c.args.coordinates.now c.extents-extents.ensures.limits c.requires in
    omega (arith, b.0, s.0, s.2)

pub overflow_mul-place : goal.overflow_mul-place
overflow_mul-place c =
    let b = bounded _ _ _ _ _ _ _ _ c.div_ceil.result c.loop-d-test.true c.loop-d.invariant c.div_ceil.ensures in
    let s = small c.args.shape.now c.args.coordinates.now c.extents-extents.ensures.limits c.requires in
    omega (arith, b.1, s.1, s.2)

pub overflow_add-place : goal.overflow_add-place
overflow_add-place c =
    let b = bounded _ _ _ _ _ _ _ _ c.div_ceil.result c.loop-d-test.true c.loop-d.invariant c.div_ceil.ensures in
    let s = small c.args.shape.now c.args.coordinates.now c.extents-extents.ensures.limits c.requires in
    omega (arith, b.1, s.1, s.2)

pub loop-d-preserved : goal.loop-d-preserved
loop-d-preserved c = next _ _ _ _ _ _ _ _ c.div_ceil.result c.loop-d-test.true c.loop-d.invariant c.div_ceil.ensures

pub returns-clause-tile : goal.returns-clause-tile
returns-clause-tile c = (ended _ _ _ _ _ _ _ _ c.loop-d-test.false c.loop-d.invariant).0

pub returns-clause-place : goal.returns-clause-place
returns-clause-place c = (ended _ _ _ _ _ _ _ _ c.loop-d-test.false c.loop-d.invariant).1

pub returns-clause-tile_exists : goal.returns-clause-tile_exists
returns-clause-tile_exists c =
    let s = c.extents-extents.ensures.limits in
    omega (arith, returns-clause-tile c, tile_number-lt c.args.shape.now c.args.coordinates.now s.same_rank s.positive c.requires)

pub returns-clause-in_tile : goal.returns-clause-in_tile
returns-clause-in_tile c =
    let s = c.extents-extents.ensures.limits in
    omega (arith, returns-clause-place c, place_in_tile-lt c.args.shape.now c.args.coordinates.now s.same_rank s.positive c.requires)

pub loop-d-init : goal.loop-d-init
loop-d-init c =
    let shape = c.args.shape.now in
    let coordinates = c.args.coordinates.now in
    let tile = tile_number shape coordinates in
    let place = place_in_tile shape coordinates in
    subst (λ (es : List ℕ). IsOnWay c.extents-extents.result.now es coordinates 0 0 tile place) (sym c.edges-edges.ensures.items)
    (subst (λ (ns : List ℕ). IsOnWay ns shape.edges coordinates 0 0 tile place) (sym c.extents-extents.ensures.items)
    (start shape coordinates c.extents-extents.ensures.limits c.requires))

pub bounds-edges-d : goal.bounds-edges-d
bounds-edges-d c =
    omega (
      arith,
      c.loop-d-test.true,
      ap length c.edges-edges.ensures.items,
      ap length c.extents-extents.ensures.items,
      c.extents-extents.ensures.limits.same_rank,
    )

pub bounds-coordinates-d : goal.bounds-coordinates-d
bounds-coordinates-d c =
    omega (arith, c.loop-d-test.true, ap length c.extents-extents.ensures.items, length_inside c.args.shape.now.extents c.args.coordinates.now c.requires)

pub bounds-coordinates-d-in-loop-d : goal.bounds-coordinates-d-in-loop-d
bounds-coordinates-d-in-loop-d c =
    omega (arith, c.loop-d-test.true, ap length c.extents-extents.ensures.items, length_inside c.args.shape.now.extents c.args.coordinates.now c.requires)
