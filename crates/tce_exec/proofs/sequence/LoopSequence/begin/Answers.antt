use Rattle.std.proofs.Common.{◌≡◌, ◌∙◌, length, map, subst, sym, ap}
use Rattle.std.proofs.lemmas.List.{length-map}
use Rattle.tce_exec.specs.Nests.{IsNest, ArePlaced, with_len}
use Rattle.tce_exec.proofs.Nests.{nest_now, placed_now, refill_whole}
use Rattle.tce_exec.proofs.sequence.LoopSequence.begin.Goals as goal

pub returns-clause-nest : goal.returns-clause-nest
returns-clause-nest c =
    let items = c.args.self.now.axes.items in
    let now = c.set_lens.new.axes in
    let is : now ≡ map (with_len c.args.lens.now) items = c.set_lens.ensures ∙ ap (map (with_len c.args.lens.now)) c.as_mut_slice.ensures.value in
    subst (IsNest c.args.loops.now c.args.lens.now) (sym (refill_whole (length items) items now (ap length is ∙ length-map items (with_len c.args.lens.now)) ∙ is))
    (nest_now c.args.loops.now c.args.lens.now items c.requires.loops c.requires.sequence)

pub returns-clause-sequence : goal.returns-clause-sequence
returns-clause-sequence c =
    let items = c.args.self.now.axes.items in
    let now = c.set_lens.new.axes in
    let is : now ≡ map (with_len c.args.lens.now) items = c.set_lens.ensures ∙ ap (map (with_len c.args.lens.now)) c.as_mut_slice.ensures.value in
    subst (ArePlaced c.args.loops.now) (sym (refill_whole (length items) items now (ap length is ∙ length-map items (with_len c.args.lens.now)) ∙ is))
    (placed_now c.args.loops.now c.args.lens.now items c.requires.sequence)
