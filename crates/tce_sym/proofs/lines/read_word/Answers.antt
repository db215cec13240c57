use Rattle.std.proofs.Common.{arith}
use Rattle.tce_sym.proofs.lines.read_word.Goals as goal

pub read_few-requires-clause-grid : goal.read_few-requires-clause-grid
read_few-requires-clause-grid g c = c.requires.grid

pub read_few-requires-clause-wanted : goal.read_few-requires-clause-wanted
read_few-requires-clause-wanted g c = c.requires.wanted

pub read_few-requires-clause-span : goal.read_few-requires-clause-span
read_few-requires-clause-span g c = omega (arith, c.if-wanted-le-LONGEST_LINE.true)

pub read_few-requires-clause-file : goal.read_few-requires-clause-file
read_few-requires-clause-file g c = c.requires.file

pub read_few-requires-clause-lines : goal.read_few-requires-clause-lines
read_few-requires-clause-lines g c = c.requires.lines

pub returns-then-wanted-le-LONGEST_LINE-clause-word : goal.returns-then-wanted-le-LONGEST_LINE-clause-word
returns-then-wanted-le-LONGEST_LINE-clause-word g c = c.read_few.ensures.word

pub returns-then-wanted-le-LONGEST_LINE-clause-lines : goal.returns-then-wanted-le-LONGEST_LINE-clause-lines
returns-then-wanted-le-LONGEST_LINE-clause-lines g c = c.read_few.ensures.lines

pub returns-then-wanted-le-LONGEST_LINE-clause-same : goal.returns-then-wanted-le-LONGEST_LINE-clause-same
returns-then-wanted-le-LONGEST_LINE-clause-same g c = c.read_few.ensures.same

pub returns-then-wanted-le-LONGEST_LINE-clause-fault_reported : goal.returns-then-wanted-le-LONGEST_LINE-clause-fault_reported
returns-then-wanted-le-LONGEST_LINE-clause-fault_reported g c = c.read_few.ensures.fault_reported

pub read_many-requires-clause-grid : goal.read_many-requires-clause-grid
read_many-requires-clause-grid g c = c.requires.grid

pub read_many-requires-clause-wanted : goal.read_many-requires-clause-wanted
read_many-requires-clause-wanted g c = c.requires.wanted

pub read_many-requires-clause-span : goal.read_many-requires-clause-span
read_many-requires-clause-span g c = omega (arith, c.requires.wanted.short)

pub read_many-requires-clause-file : goal.read_many-requires-clause-file
read_many-requires-clause-file g c = c.requires.file

pub read_many-requires-clause-lines : goal.read_many-requires-clause-lines
read_many-requires-clause-lines g c = c.requires.lines

pub returns-else-wanted-le-LONGEST_LINE-clause-word : goal.returns-else-wanted-le-LONGEST_LINE-clause-word
returns-else-wanted-le-LONGEST_LINE-clause-word g c = c.read_many.ensures.word

pub returns-else-wanted-le-LONGEST_LINE-clause-lines : goal.returns-else-wanted-le-LONGEST_LINE-clause-lines
returns-else-wanted-le-LONGEST_LINE-clause-lines g c = c.read_many.ensures.lines

pub returns-else-wanted-le-LONGEST_LINE-clause-same : goal.returns-else-wanted-le-LONGEST_LINE-clause-same
returns-else-wanted-le-LONGEST_LINE-clause-same g c = c.read_many.ensures.same

pub returns-else-wanted-le-LONGEST_LINE-clause-fault_reported : goal.returns-else-wanted-le-LONGEST_LINE-clause-fault_reported
returns-else-wanted-le-LONGEST_LINE-clause-fault_reported g c = c.read_many.ensures.fault_reported
