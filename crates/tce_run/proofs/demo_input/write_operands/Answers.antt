use Rattle.std.proofs.Common.{◌∙◌, refl, ap, arith}
use Rattle.tce_run.specs.DemoFiles.{number_after}
use Rattle.tce_run.proofs.NoHalfOperand.{none_left, one_more, operands_left}
use Rattle.tce_run.proofs.OtherFiles.{stay_twice}
use Rattle.tce_run.proofs.demo_input.write_operands.Goals as goal

pub returns-in_err-number-clause-others : goal.returns-in_err-number-clause-others
returns-in_err-number-clause-others g c = c.write_array.ensures.others

pub returns-in_err-number-2-clause-others : goal.returns-in_err-number-2-clause-others
returns-in_err-number-2-clause-others g c = stay_twice _ _ _ c.write_array.ensures.others c.write_array-2.ensures.others

pub returns-in_err-number-3-clause-others : goal.returns-in_err-number-3-clause-others
returns-in_err-number-3-clause-others g c = stay_twice _ _ _ c.write_array.ensures.others (stay_twice _ _ _ c.write_array-2.ensures.others c.write_array-3.ensures.others)

pub returns-in_err-write_array-clause-others : goal.returns-in_err-write_array-clause-others
returns-in_err-write_array-clause-others g c =
    stay_twice _ _ _ c.write_array.ensures.others (stay_twice _ _ _ c.write_array-2.ensures.others (stay_twice _ _ _ c.write_array-3.ensures.others c.write_array-4.ensures.others))

pub returns-clause-others : goal.returns-clause-others
returns-clause-others g c =
    stay_twice _ _ _ c.write_array.ensures.others (stay_twice _ _ _ c.write_array-2.ensures.others (stay_twice _ _ _ c.write_array-3.ensures.others c.write_array-4.ensures.others))

pub returns-in_err-number-clause-no_half : goal.returns-in_err-number-clause-no_half
returns-in_err-number-clause-no_half g c =
    operands_left c.args.spec.now c.requires.spec c.args.seed 1 (g.D.Disk.files c.args.disk.now) _ (omega arith)
    (one_more c.args.spec.now c.requires.spec c.args.seed 0 _ (g.D.Disk.files c.args.disk.now) _ _ (omega arith) refl (none_left c.args.spec.now c.args.seed _) c.write_array.ensures.alone c.write_array.ensures.no_half)

pub returns-in_err-number-2-clause-no_half : goal.returns-in_err-number-2-clause-no_half
returns-in_err-number-2-clause-no_half g c =
    operands_left c.args.spec.now c.requires.spec c.args.seed 2 (g.D.Disk.files c.args.disk.now) _ (omega arith)
    (one_more c.args.spec.now c.requires.spec c.args.seed 1 _ (g.D.Disk.files c.args.disk.now) _ _ (omega arith) c.in_ok-number.ensures.last (one_more c.args.spec.now c.requires.spec c.args.seed 0 _ (g.D.Disk.files c.args.disk.now) _ _ (omega arith) refl (none_left c.args.spec.now c.args.seed _) c.write_array.ensures.alone c.write_array.ensures.no_half) c.write_array-2.ensures.alone c.write_array-2.ensures.no_half)

pub returns-in_err-number-3-clause-no_half : goal.returns-in_err-number-3-clause-no_half
returns-in_err-number-3-clause-no_half g c =
    operands_left c.args.spec.now c.requires.spec c.args.seed 3 (g.D.Disk.files c.args.disk.now) _ (omega arith)
    (one_more c.args.spec.now c.requires.spec c.args.seed 2 _ (g.D.Disk.files c.args.disk.now) _ _ (omega arith) (c.in_ok-number-2.ensures.last ∙ ap (number_after c.args.spec.now 1) c.in_ok-number.ensures.last) (one_more c.args.spec.now c.requires.spec c.args.seed 1 _ (g.D.Disk.files c.args.disk.now) _ _ (omega arith) c.in_ok-number.ensures.last (one_more c.args.spec.now c.requires.spec c.args.seed 0 _ (g.D.Disk.files c.args.disk.now) _ _ (omega arith) refl (none_left c.args.spec.now c.args.seed _) c.write_array.ensures.alone c.write_array.ensures.no_half) c.write_array-2.ensures.alone c.write_array-2.ensures.no_half) c.write_array-3.ensures.alone c.write_array-3.ensures.no_half)

pub returns-in_err-write_array-clause-no_half : goal.returns-in_err-write_array-clause-no_half
returns-in_err-write_array-clause-no_half g c =
    operands_left c.args.spec.now c.requires.spec c.args.seed 4 (g.D.Disk.files c.args.disk.now) _ (omega arith)
    (one_more c.args.spec.now c.requires.spec c.args.seed 3 _ (g.D.Disk.files c.args.disk.now) _ _ (omega arith) (c.in_ok-number-3.ensures.last ∙ ap (number_after c.args.spec.now 2) (c.in_ok-number-2.ensures.last ∙ ap (number_after c.args.spec.now 1) c.in_ok-number.ensures.last)) (one_more c.args.spec.now c.requires.spec c.args.seed 2 _ (g.D.Disk.files c.args.disk.now) _ _ (omega arith) (c.in_ok-number-2.ensures.last ∙ ap (number_after c.args.spec.now 1) c.in_ok-number.ensures.last) (one_more c.args.spec.now c.requires.spec c.args.seed 1 _ (g.D.Disk.files c.args.disk.now) _ _ (omega arith) c.in_ok-number.ensures.last (one_more c.args.spec.now c.requires.spec c.args.seed 0 _ (g.D.Disk.files c.args.disk.now) _ _ (omega arith) refl (none_left c.args.spec.now c.args.seed _) c.write_array.ensures.alone c.write_array.ensures.no_half) c.write_array-2.ensures.alone c.write_array-2.ensures.no_half) c.write_array-3.ensures.alone c.write_array-3.ensures.no_half) c.write_array-4.ensures.alone c.write_array-4.ensures.no_half)

pub returns-clause-no_half : goal.returns-clause-no_half
returns-clause-no_half g c =
    operands_left c.args.spec.now c.requires.spec c.args.seed 4 (g.D.Disk.files c.args.disk.now) _ (omega arith)
    (one_more c.args.spec.now c.requires.spec c.args.seed 3 _ (g.D.Disk.files c.args.disk.now) _ _ (omega arith) (c.in_ok-number-3.ensures.last ∙ ap (number_after c.args.spec.now 2) (c.in_ok-number-2.ensures.last ∙ ap (number_after c.args.spec.now 1) c.in_ok-number.ensures.last)) (one_more c.args.spec.now c.requires.spec c.args.seed 2 _ (g.D.Disk.files c.args.disk.now) _ _ (omega arith) (c.in_ok-number-2.ensures.last ∙ ap (number_after c.args.spec.now 1) c.in_ok-number.ensures.last) (one_more c.args.spec.now c.requires.spec c.args.seed 1 _ (g.D.Disk.files c.args.disk.now) _ _ (omega arith) c.in_ok-number.ensures.last (one_more c.args.spec.now c.requires.spec c.args.seed 0 _ (g.D.Disk.files c.args.disk.now) _ _ (omega arith) refl (none_left c.args.spec.now c.args.seed _) c.write_array.ensures.alone c.write_array.ensures.no_half) c.write_array-2.ensures.alone c.write_array-2.ensures.no_half) c.write_array-3.ensures.alone c.write_array-3.ensures.no_half) c.write_array-4.ensures.alone c.write_array-4.ensures.no_half)
