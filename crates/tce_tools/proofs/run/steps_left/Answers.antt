use Rattle.std.proofs.Common.{◌≡◌, ◌%◌, ◌<◌, ℕ, List, length, get_or, ap, arith}
use Rattle.std.proofs.lemmas.Nat.{mod_below}
use Rattle.tce_space.specs.Box.{IsInside}
use Rattle.tce_space.specs.Tiling.{Tiling, IsTiling}
use Rattle.tce_space.proofs.Boxes.{length_inside}
use Rattle.tce_space.proofs.Counts.{positive_at}
use Rattle.tce_tools.proofs.Coords.{coordinate_below}
use Rattle.tce_tools.proofs.run.steps_left.Goals as goal

-- a coordinate, by the lists in which the code finds it
record IsCoordinate (s : Tiling) (coords edges extents : List ℕ) (d : ℕ) : Type 0 where
  pub short : d < 8
  pub there : d < length coords
  pub edges_are : get_or edges d 0 ≡ get_or s.edges d 0
  pub extents_are : get_or extents d 0 ≡ get_or s.extents d 0
  pub below : get_or coords d 0 < get_or extents d 0
  pub some : 0 < get_or edges d 0
  pub in_tile : get_or coords d 0 % get_or edges d 0 < get_or edges d 0

coordinate : (s : Tiling) (coords edges extents : List ℕ) (d : ℕ) → IsTiling s → IsInside s.extents coords → d < length s.extents → edges ≡ s.edges → extents ≡ s.extents → IsCoordinate s coords edges extents d
coordinate s coords edges extents d t h l edges_is extents_is =
    let edge : get_or edges d 0 ≡ get_or s.edges d 0 = ap (λ es. get_or es d 0) edges_is in
    let extent : get_or extents d 0 ≡ get_or s.extents d 0 = ap (λ ns. get_or ns d 0) extents_is in
    let some : 0 < get_or edges d 0 = omega (arith, edge, positive_at s.edges d t.positive (omega (arith, t.same_rank))) in
    record {
      short = omega (arith, t.rank);
      there = omega (arith, length_inside s.extents coords h);
      edges_are = edge;
      extents_are = extent;
      below = omega (arith, extent, coordinate_below s.extents coords d h l);
      some = some;
      in_tile = mod_below (get_or coords d 0) (get_or edges d 0) some;
    }

pub bounds-coords-dimension : goal.bounds-coords-dimension
bounds-coords-dimension c = (coordinate c.args.shape.now c.args.coords.now c.edges.result.now c.extents.result.now c.args.dimension c.extents.ensures.limits c.requires.coords c.requires.dimension c.edges.ensures.items c.extents.ensures.items).there

pub overflow_sub-extent : goal.overflow_sub-extent
overflow_sub-extent c =
    let d = coordinate c.args.shape.now c.args.coords.now c.edges.result.now c.extents.result.now c.args.dimension c.extents.ensures.limits c.requires.coords c.requires.dimension c.edges.ensures.items c.extents.ensures.items in
    omega (arith, d.below)

pub nonzero_rem-x : goal.nonzero_rem-x
nonzero_rem-x c =
    let d = coordinate c.args.shape.now c.args.coords.now c.edges.result.now c.extents.result.now c.args.dimension c.extents.ensures.limits c.requires.coords c.requires.dimension c.edges.ensures.items c.extents.ensures.items in
    d.some

pub overflow_sub-edge : goal.overflow_sub-edge
overflow_sub-edge c =
    let d = coordinate c.args.shape.now c.args.coords.now c.edges.result.now c.extents.result.now c.args.dimension c.extents.ensures.limits c.requires.coords c.requires.dimension c.edges.ensures.items c.extents.ensures.items in
    omega (arith, d.in_tile)

pub returns-clause-some : goal.returns-clause-some
returns-clause-some c =
    let d = coordinate c.args.shape.now c.args.coords.now c.edges.result.now c.extents.result.now c.args.dimension c.extents.ensures.limits c.requires.coords c.requires.dimension c.edges.ensures.items c.extents.ensures.items in
    omega (arith, c.min.ensures, d.below, d.in_tile)

pub returns-clause-in_array : goal.returns-clause-in_array
returns-clause-in_array c =
    let d = coordinate c.args.shape.now c.args.coords.now c.edges.result.now c.extents.result.now c.args.dimension c.extents.ensures.limits c.requires.coords c.requires.dimension c.edges.ensures.items c.extents.ensures.items in
    omega (arith, c.min.ensures, d.below, d.extents_are)

pub returns-clause-in_tile : goal.returns-clause-in_tile
returns-clause-in_tile c =
    let d = coordinate c.args.shape.now c.args.coords.now c.edges.result.now c.extents.result.now c.args.dimension c.extents.ensures.limits c.requires.coords c.requires.dimension c.edges.ensures.items c.extents.ensures.items in
    let same : get_or c.args.coords.now c.args.dimension 0 % get_or c.edges.result.now c.args.dimension 0 ≡ get_or c.args.coords.now c.args.dimension 0 % get_or c.args.shape.now.edges c.args.dimension 0 = ap (λ e. get_or c.args.coords.now c.args.dimension 0 % e) d.edges_are in
    omega (arith, c.min.ensures, d.in_tile, d.edges_are, same)
