use Rattle.tce_report.proofs.Written.{written_says}
use Rattle.tce_report.proofs.laws.written_lines_say_the_plan.Goals as goal

pub returns : goal.returns
returns c = written_says
