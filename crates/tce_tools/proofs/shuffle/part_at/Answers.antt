use Rattle.std.proofs.Common.{◌∙◌, ◌-◌, ◌%◌, min, ap, refl, arith}
use Rattle.tce_tools.proofs.Shuffles.{start_in_band, part_is}
use Rattle.tce_tools.proofs.shuffle.part_at.Goals as goal

pub overflow_sub-before : goal.overflow_sub-before
overflow_sub-before c = (start_in_band c.args.shape.now c.args.band c.args.start c.run_at-run.result c.requires.band c.run_at-run.ensures.run c.run_at-run.ensures.start c.requires.from c.requires.to).low

pub nonzero_rem-offset : goal.nonzero_rem-offset
nonzero_rem-offset c = (start_in_band c.args.shape.now c.args.band c.args.start c.run_at-run.result c.requires.band c.run_at-run.ensures.run c.run_at-run.ensures.start c.requires.from c.requires.to).some

pub nonzero_div-result : goal.nonzero_div-result
nonzero_div-result c = (start_in_band c.args.shape.now c.args.band c.args.start c.run_at-run.result c.requires.band c.run_at-run.ensures.run c.run_at-run.ensures.start c.requires.from c.requires.to).some

pub overflow_mul-result : goal.overflow_mul-result
overflow_mul-result c =
    let at = start_in_band c.args.shape.now c.args.band c.args.start c.run_at-run.result c.requires.band c.run_at-run.ensures.run c.run_at-run.ensures.start c.requires.from c.requires.to in
    omega (arith, at.room, c.requires.band.small)

pub overflow_add-result : goal.overflow_add-result
overflow_add-result c =
    let at = start_in_band c.args.shape.now c.args.band c.args.start c.run_at-run.result c.requires.band c.run_at-run.ensures.run c.run_at-run.ensures.start c.requires.from c.requires.to in
    omega (arith, at.room, at.within, c.requires.band.small)

pub overflow_sub-band : goal.overflow_sub-band
overflow_sub-band c =
    let at = start_in_band c.args.shape.now c.args.band c.args.start c.run_at-run.result c.requires.band c.run_at-run.ensures.run c.run_at-run.ensures.start c.requires.from c.requires.to in
    omega (arith, at.within)

pub returns : goal.returns
returns c = part_is c.args.shape.now c.args.band c.args.start c.run_at-run.result _ c.requires.band c.run_at-run.ensures.run c.run_at-run.ensures.start c.requires.from c.requires.to refl (c.min-2.ensures ∙ ap (λ n. min n (c.args.band.piece_len - (c.run_at-run.result.word - c.args.band.word) % c.args.band.stride)) c.min.ensures)
