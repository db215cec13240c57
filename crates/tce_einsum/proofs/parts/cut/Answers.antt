use Rattle.std.proofs.Common.{sym}
use Rattle.tce_fields.proofs.Splitting.{cut_at, last_part}
use Rattle.tce_einsum.proofs.Cuts.{cut_found, cut_missing}
use Rattle.tce_einsum.proofs.parts.cut.Goals as goal

pub returns-in-Some-clause-halves : goal.returns-in-Some-clause-halves
returns-in-Some-clause-halves c = cut_found c.args.byte c.args.text.now c.in-Some.end (sym c.in-Some.ensures)

pub returns-in-Some-clause-parts : goal.returns-in-Some-clause-parts
returns-in-Some-clause-parts c = cut_at c.args.byte c.args.text.now c.in-Some.end (sym c.in-Some.ensures)

pub returns-in-None-clause-halves : goal.returns-in-None-clause-halves
returns-in-None-clause-halves c = cut_missing c.args.byte c.args.text.now (sym c.in-None.ensures)

pub returns-in-None-clause-parts : goal.returns-in-None-clause-parts
returns-in-None-clause-parts c = last_part c.args.byte c.args.text.now (sym c.in-None.ensures)
