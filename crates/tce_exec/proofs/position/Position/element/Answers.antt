use Rattle.std.proofs.Common.{◌≤◌, map, length, slice_index, arith}
use Rattle.std.proofs.lemmas.List.{length-map}
use Rattle.tce_space.specs.Space.{extent_at}
use Rattle.tce_space.specs.Tiling.{Tiling}
use Rattle.tce_space.proofs.Tilings.{tile_number-lt, place_in_tile-lt}
use Rattle.tce_array.proofs.Way.{no_larger, small, ended}
use Rattle.tce_exec.specs.Workspace.{shape_over}
use Rattle.tce_exec.proofs.Positions.{along}
use Rattle.tce_exec.proofs.position.Position.element.Goals as goal

pub overflow_mul-tile : goal.overflow_mul-tile
overflow_mul-tile c =
    let shape : Tiling = shape_over c.args._space.now c.args.indexes.now in
    let way = along c.args._space.now c.args.self.now c.args.indexes.now c.loop-d.d _ _ _ _ c.requires.position (c.requires.known c.loop-d.d 0 c.loop-d-test.true) c.loop-d-test.true c.loop-d.invariant in
    let b = no_larger _ _ _ _ _ _ _ way in
    let s = small shape (map (slice_index c.args.self.now.numbers) c.args.indexes.now) c.requires.tiling c.requires.inside in
    omega (arith, b.0, s.0, s.2)

pub overflow_add-tile : goal.overflow_add-tile
overflow_add-tile c =
    let shape : Tiling = shape_over c.args._space.now c.args.indexes.now in
    let way = along c.args._space.now c.args.self.now c.args.indexes.now c.loop-d.d _ _ _ _ c.requires.position (c.requires.known c.loop-d.d 0 c.loop-d-test.true) c.loop-d-test.true c.loop-d.invariant in
    let b = no_larger _ _ _ _ _ _ _ way in
    let s = small shape (map (slice_index c.args.self.now.numbers) c.args.indexes.now) c.requires.tiling c.requires.inside in
    omega (arith, b.0, s.0, s.2)

pub overflow_mul-place : goal.overflow_mul-place
overflow_mul-place c =
    let shape : Tiling = shape_over c.args._space.now c.args.indexes.now in
    let way = along c.args._space.now c.args.self.now c.args.indexes.now c.loop-d.d _ _ _ _ c.requires.position (c.requires.known c.loop-d.d 0 c.loop-d-test.true) c.loop-d-test.true c.loop-d.invariant in
    let b = no_larger _ _ _ _ _ _ _ way in
    let s = small shape (map (slice_index c.args.self.now.numbers) c.args.indexes.now) c.requires.tiling c.requires.inside in
    omega (arith, b.1, s.1, s.2)

pub overflow_add-place : goal.overflow_add-place
overflow_add-place c =
    let shape : Tiling = shape_over c.args._space.now c.args.indexes.now in
    let way = along c.args._space.now c.args.self.now c.args.indexes.now c.loop-d.d _ _ _ _ c.requires.position (c.requires.known c.loop-d.d 0 c.loop-d-test.true) c.loop-d-test.true c.loop-d.invariant in
    let b = no_larger _ _ _ _ _ _ _ way in
    let s = small shape (map (slice_index c.args.self.now.numbers) c.args.indexes.now) c.requires.tiling c.requires.inside in
    omega (arith, b.1, s.1, s.2)

pub loop-d-preserved : goal.loop-d-preserved
loop-d-preserved c =
    along c.args._space.now c.args.self.now c.args.indexes.now c.loop-d.d _ _ _ _ c.requires.position (c.requires.known c.loop-d.d 0 c.loop-d-test.true) c.loop-d-test.true c.loop-d.invariant

pub returns : goal.returns
returns c =
    let shape : Tiling = shape_over c.args._space.now c.args.indexes.now in
    let s = c.requires.tiling in
    let past : length (map (extent_at c.args._space.now) c.args.indexes.now) ≤ c.loop-d.d = omega (arith, c.loop-d-test.false, length-map c.args.indexes.now (extent_at c.args._space.now)) in
    let e = ended _ _ _ _ _ _ _ _ past c.loop-d.invariant in
    let xs = map (slice_index c.args.self.now.numbers) c.args.indexes.now in
    record {
      tile_is = e.0;
      place_is = e.1;
      exists = omega (arith, e.0, tile_number-lt shape xs s.same_rank s.positive c.requires.inside);
      within = omega (arith, e.1, place_in_tile-lt shape xs s.same_rank s.positive c.requires.inside);
    }
