use Rattle.tce_run.proofs.OtherFiles.{text_stays, stay_twice}
use Rattle.tce_run.proofs.NoHalfOperand.{text_left, left_behind_text}
use Rattle.tce_run.proofs.demo_input.write_input.Goals as goal

pub returns-in_err-write_file-clause-others : goal.returns-in_err-write_file-clause-others
returns-in_err-write_file-clause-others g c = text_stays _ _ c.write_file.ensures.others

pub returns-clause-others : goal.returns-clause-others
returns-clause-others g c = stay_twice _ _ _ (text_stays _ _ c.write_file.ensures.others) c.write_operands.ensures.others

pub returns-in_err-write_file-clause-no_half : goal.returns-in_err-write_file-clause-no_half
returns-in_err-write_file-clause-no_half g c = text_left c.args.example.now.spec c.requires.spec c.args.seed _ _ c.write_file.ensures.others

pub returns-clause-no_half : goal.returns-clause-no_half
returns-clause-no_half g c = left_behind_text c.args.example.now.spec c.requires.spec c.args.seed _ _ _ c.write_file.ensures.others c.write_operands.ensures.no_half
