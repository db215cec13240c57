use Rattle.std.proofs.Common.{◌*◌, ◌/◌, ◌≤◌, ℕ, get_or, length, ap, arith}
use Rattle.tce_space.proofs.Products.{within_quotient}
use Rattle.tce_tools.proofs.Bands.{next_dimension, edge_at}
use Rattle.tce_tools.proofs.band.first_short.Goals as goal

pub div_ceil-tiles-requires : goal.div_ceil-tiles-requires
div_ceil-tiles-requires c = edge_at c.args.shape.now c.edges-edges.result.now c.loop-dimension.dimension (length c.extents-extents.result.now) c.edges-edges.ensures.limits c.edges-edges.ensures.items (ap length c.extents-extents.ensures.items) c.loop-dimension-test.true

pub nonzero_div-words : goal.nonzero_div-words
nonzero_div-words c = edge_at c.args.shape.now c.edges-edges.result.now c.loop-dimension.dimension (length c.extents-extents.result.now) c.edges-edges.ensures.limits c.edges-edges.ensures.items (ap length c.extents-extents.ensures.items) c.loop-dimension-test.true

pub nonzero_div-words-in-loop-dimension : goal.nonzero_div-words-in-loop-dimension
nonzero_div-words-in-loop-dimension c =
    let n = next_dimension c.args.shape.now c.extents-extents.result.now c.edges-edges.result.now c.loop-dimension.dimension c.loop-dimension.elements c.loop-dimension.tiles c.loop-dimension.words c.div_ceil-tiles.result
    c.extents-extents.ensures.limits c.extents-extents.ensures.items c.edges-edges.ensures.items c.loop-dimension-test.true c.loop-dimension.invariant.elements c.loop-dimension.invariant.tiles c.loop-dimension.invariant.words c.div_ceil-tiles.ensures in
    n.some_words

pub returns-then-tiles-words : goal.returns-then-tiles-words
returns-then-tiles-words c =
    let n = next_dimension c.args.shape.now c.extents-extents.result.now c.edges-edges.result.now c.loop-dimension.dimension c.loop-dimension.elements c.loop-dimension.tiles c.loop-dimension.words c.div_ceil-tiles.result
    c.extents-extents.ensures.limits c.extents-extents.ensures.items c.edges-edges.ensures.items c.loop-dimension-test.true c.loop-dimension.invariant.elements c.loop-dimension.invariant.tiles c.loop-dimension.invariant.words c.div_ceil-tiles.ensures in
    let words : ℕ = c.loop-dimension.words / get_or c.edges-edges.result.now c.loop-dimension.dimension 0 in
    let tiles : ℕ = c.loop-dimension.tiles / c.div_ceil-tiles.result in
    let fits : words * tiles ≤ 32768 = (within_quotient words tiles 32768 n.some_words).0 c.if-tiles-words.true in
    record {
      dimension = omega (arith, c.loop-dimension-test.true, ap length c.extents-extents.ensures.items);
      elements = n.elements_are;
      tiles = n.tiles_are;
      words = n.words_are;
      fits = omega (arith, fits);
    }

pub loop-dimension-preserved : goal.loop-dimension-preserved
loop-dimension-preserved c =
    let n = next_dimension c.args.shape.now c.extents-extents.result.now c.edges-edges.result.now c.loop-dimension.dimension c.loop-dimension.elements c.loop-dimension.tiles c.loop-dimension.words c.div_ceil-tiles.result
    c.extents-extents.ensures.limits c.extents-extents.ensures.items c.edges-edges.ensures.items c.loop-dimension-test.true c.loop-dimension.invariant.elements c.loop-dimension.invariant.tiles c.loop-dimension.invariant.words c.div_ceil-tiles.ensures in
    record { elements = n.elements_are; tiles = n.tiles_are; words = n.words_are }
