use Rattle.std.proofs.Common.{◌<◌, ◌≤◌, ◌∷◌, [], ◌++◌, length, take, ap, sym, ◌∙◌, arith}
use Rattle.std.proofs.lemmas.List.{take_more, take_all}
use Rattle.tce_space.specs.Tiling.{counts_along}
use Rattle.tce_space.proofs.Counts.{positive_at, count_at, length-counts_along}
use Rattle.tce_space.proofs.shape.tile_counts_of.Goals as goal

pub div_ceil-requires : goal.div_ceil-requires
div_ceil-requires c = positive_at c.args.edges.now c.loop-d.d c.requires.positive (omega (arith, c.loop-d-test.true, c.requires.same_rank))

pub loop-d-preserved : goal.loop-d-preserved
loop-d-preserved c =
    let within : c.loop-d.d < length (counts_along c.args.extents.now c.args.edges.now) =
    omega (arith, c.loop-d-test.true, length-counts_along c.args.extents.now c.args.edges.now c.requires.same_rank) in
    c.push.ensures.items
    ∙ ap (λ xs. xs ++ c.div_ceil.result ∷ []) c.loop-d.invariant
    ∙ ap (λ n. take c.loop-d.d (counts_along c.args.extents.now c.args.edges.now) ++ n ∷ [])
    (c.div_ceil.ensures ∙ sym (count_at c.args.extents.now c.args.edges.now c.loop-d.d c.requires.same_rank c.loop-d-test.true))
    ∙ sym (take_more (counts_along c.args.extents.now c.args.edges.now) c.loop-d.d 0 within)

pub returns : goal.returns
returns c =
    let past : length (counts_along c.args.extents.now c.args.edges.now) ≤ c.loop-d.d =
    omega (arith, c.loop-d-test.false, length-counts_along c.args.extents.now c.args.edges.now c.requires.same_rank) in
    c.loop-d.invariant ∙ take_all c.loop-d.d _ past
