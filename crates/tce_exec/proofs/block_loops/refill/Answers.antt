use Rattle.std.proofs.Common.{◌≡◌, ◌∙◌, map, subst, sym, ap}
use Rattle.tce_exec.specs.Nests.{IsNest, with_len}
use Rattle.tce_exec.proofs.Nests.{nest_now}
use Rattle.tce_exec.proofs.block_loops.refill.Goals as goal

pub returns-then-have_lens-clause-nest : goal.returns-then-have_lens-clause-nest
returns-then-have_lens-clause-nest c =
    let axes = c.args.sequence.now.axes.items in
    let kept = c.have_lens.ensures c.if-have_lens.true in
    let is : axes ≡ map (with_len c.args.loops.now.lens.now) axes = sym c.as_slice.ensures.value ∙ kept ∙ ap (map (with_len c.args.loops.now.lens.now)) c.as_slice.ensures.value in
    subst (IsNest c.args.loops.now.indexes.now c.args.loops.now.lens.now) (sym is)
    (nest_now c.args.loops.now.indexes.now c.args.loops.now.lens.now axes c.requires.loops c.requires.sequence)
