use Rattle.std.proofs.Common.{◌∙◌, List, ℕ, length, sym, ap, arith}
use Rattle.tce_space.specs.Tiling.{Tiling}
use Rattle.tce_sym.proofs.WordCoords.{word_length, row_end, are_left, tile_row_is}
use Rattle.tce_sym.proofs.tile_rows.tile_row.Goals as goal

pub bounds-deref-last : goal.bounds-deref-last
bounds-deref-last c =
    let l = word_length c.args.shape.now c.args.word c.coords_of-coords.result.items c.edges.ensures.limits c.coords_of-coords.ensures in
    (row_end c.args.shape.now c.coords_of-coords.result.items c.edges.result.now c.edges-2.result.now c.deref.result.now c.edges.ensures.limits c.requires.rank l c.edges.ensures.items c.edges-2.ensures.items c.deref.ensures.0).bound

pub nonzero_rem-len : goal.nonzero_rem-len
nonzero_rem-len c =
    let l = word_length c.args.shape.now c.args.word c.coords_of-coords.result.items c.edges.ensures.limits c.coords_of-coords.ensures in
    (row_end c.args.shape.now c.coords_of-coords.result.items c.edges.result.now c.edges-2.result.now c.deref.result.now c.edges.ensures.limits c.requires.rank l c.edges.ensures.items c.edges-2.ensures.items c.deref.ensures.0).positive

pub overflow_sub-len : goal.overflow_sub-len
overflow_sub-len c =
    let l = word_length c.args.shape.now c.args.word c.coords_of-coords.result.items c.edges.ensures.limits c.coords_of-coords.ensures in
    let e = row_end c.args.shape.now c.coords_of-coords.result.items c.edges.result.now c.edges-2.result.now c.deref.result.now c.edges.ensures.limits c.requires.rank l c.edges.ensures.items c.edges-2.ensures.items c.deref.ensures.0 in
    omega (arith, e.below)

pub elements_left-requires-clause-rank : goal.elements_left-requires-clause-rank
elements_left-requires-clause-rank c =
    let l = word_length c.args.shape.now c.args.word c.coords_of-coords.result.items c.edges.ensures.limits c.coords_of-coords.ensures in
    ap length c.as_slice.ensures.value ∙ l ∙ c.edges.ensures.limits.same_rank ∙ sym (ap length c.extents.ensures.items)

pub returns : goal.returns
returns c =
    let s : Tiling = c.args.shape.now in
    let xs : List ℕ = c.coords_of-coords.result.items in
    let l = word_length c.args.shape.now c.args.word c.coords_of-coords.result.items c.edges.ensures.limits c.coords_of-coords.ensures in
    let e = row_end c.args.shape.now c.coords_of-coords.result.items c.edges.result.now c.edges-2.result.now c.deref.result.now c.edges.ensures.limits c.requires.rank l c.edges.ensures.items c.edges-2.ensures.items c.deref.ensures.0 in
    let left = are_left s xs c.extents.result.now c.as_slice.result.now c.elements_left.result (l ∙ c.edges.ensures.limits.same_rank) c.requires.rank c.extents.ensures.items c.as_slice.ensures.value
    c.elements_left.ensures.inside c.elements_left.ensures.row c.elements_left.ensures.outside in
    tile_row_is s c.args.word _ c.elements_left.result c.edges.ensures.limits c.requires.rank c.coords_of-coords.ensures (omega (arith, e.below, e.remainder, e.edge)) (omega (arith, e.below, e.remainder, e.edge))
    left.inside left.end left.outside (omega (arith, c.min-used.ensures)) (omega (arith, c.min-used.ensures)) (λ k h u. omega (arith, c.min-used.ensures, h, u))
