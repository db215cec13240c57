use Rattle.tce_flat.proofs.expanding.expand_file.Goals as goal

pub expand-requires-clause-names : goal.expand-requires-clause-names
expand-requires-clause-names g c = c.requires.names

pub expand-requires-clause-right : goal.expand-requires-clause-right
expand-requires-clause-right g c = c.requires.right

pub expand-requires-clause-file : goal.expand-requires-clause-file
expand-requires-clause-file g c = c.requires.file

pub returns-in_default-clause-expanded : goal.returns-in_default-clause-expanded
returns-in_default-clause-expanded g c = c.expand.ensures.expanded

pub returns-in_default-clause-memory : goal.returns-in_default-clause-memory
returns-in_default-clause-memory g c = c.expand.ensures.memory

pub returns-in_default-clause-no_half : goal.returns-in_default-clause-no_half
returns-in_default-clause-no_half g c = c.expand.ensures.no_half

pub returns-in_default-clause-others : goal.returns-in_default-clause-others
returns-in_default-clause-others g c = c.expand.ensures.others

pub returns-in_default-clause-fault_reported : goal.returns-in_default-clause-fault_reported
returns-in_default-clause-fault_reported g c = c.expand.ensures.fault_reported

pub expand_through-expanded-requires-clause-names : goal.expand_through-expanded-requires-clause-names
expand_through-expanded-requires-clause-names g c = c.requires.names

pub expand_through-expanded-requires-clause-right : goal.expand_through-expanded-requires-clause-right
expand_through-expanded-requires-clause-right g c = c.requires.right

pub expand_through-expanded-requires-clause-file : goal.expand_through-expanded-requires-clause-file
expand_through-expanded-requires-clause-file g c = c.requires.file

pub returns-clause-expanded : goal.returns-clause-expanded
returns-clause-expanded g c = c.expand_through-expanded.ensures.expanded

pub returns-clause-memory : goal.returns-clause-memory
returns-clause-memory g c = c.expand_through-expanded.ensures.memory

pub returns-clause-no_half : goal.returns-clause-no_half
returns-clause-no_half g c = c.expand_through-expanded.ensures.no_half

pub returns-clause-others : goal.returns-clause-others
returns-clause-others g c = c.expand_through-expanded.ensures.others

pub returns-clause-fault_reported : goal.returns-clause-fault_reported
returns-clause-fault_reported g c = c.expand_through-expanded.ensures.fault_reported
