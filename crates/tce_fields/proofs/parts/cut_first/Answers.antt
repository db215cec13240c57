use Rattle.std.proofs.Common.{sym}
use Rattle.tce_fields.proofs.Splitting.{cut_at, last_part}
use Rattle.tce_fields.proofs.parts.cut_first.Goals as goal

pub returns-in-Some-clause-parts : goal.returns-in-Some-clause-parts
returns-in-Some-clause-parts c = cut_at c.args.separator c.args.text.now c.in-Some.end (sym c.in-Some.ensures)

pub returns-in-None-clause-parts : goal.returns-in-None-clause-parts
returns-in-None-clause-parts c = last_part c.args.separator c.args.text.now (sym c.in-None.ensures)
