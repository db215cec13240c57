use Rattle.tce_sym.proofs.lines.read_few.Goals as goal

pub read_through-requires-clause-grid : goal.read_through-requires-clause-grid
read_through-requires-clause-grid g c = c.requires.grid

pub read_through-requires-clause-wanted : goal.read_through-requires-clause-wanted
read_through-requires-clause-wanted g c = c.requires.wanted

pub read_through-requires-clause-file : goal.read_through-requires-clause-file
read_through-requires-clause-file g c = c.requires.file

pub read_through-requires-clause-lines : goal.read_through-requires-clause-lines
read_through-requires-clause-lines g c = c.requires.lines

pub returns-clause-word : goal.returns-clause-word
returns-clause-word g c = c.read_through.ensures.word

pub returns-clause-lines : goal.returns-clause-lines
returns-clause-lines g c = c.read_through.ensures.lines

pub returns-clause-same : goal.returns-clause-same
returns-clause-same g c = c.read_through.ensures.same

pub returns-clause-fault_reported : goal.returns-clause-fault_reported
returns-clause-fault_reported g c = c.read_through.ensures.fault_reported
