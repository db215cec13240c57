use Rattle.tce_check.proofs.tables.first_uncovered_node.Goals as goal

pub first_uncovered_of_many-requires-clause-measured : goal.first_uncovered_of_many-requires-clause-measured
first_uncovered_of_many-requires-clause-measured c = c.requires.measured

pub first_uncovered_of_many-requires-clause-lists : goal.first_uncovered_of_many-requires-clause-lists
first_uncovered_of_many-requires-clause-lists c = c.requires.lists

pub first_uncovered_of_many-requires-clause-rows : goal.first_uncovered_of_many-requires-clause-rows
first_uncovered_of_many-requires-clause-rows c = c.requires.rows

pub first_uncovered_of-requires-clause-measured : goal.first_uncovered_of-requires-clause-measured
first_uncovered_of-requires-clause-measured c = c.requires.measured

pub first_uncovered_of-requires-clause-lists : goal.first_uncovered_of-requires-clause-lists
first_uncovered_of-requires-clause-lists c = c.requires.lists

pub first_uncovered_of-requires-clause-rows : goal.first_uncovered_of-requires-clause-rows
first_uncovered_of-requires-clause-rows c = c.requires.rows

pub returns-then-most-ge-MANY : goal.returns-then-most-ge-MANY
returns-then-most-ge-MANY c = c.first_uncovered_of_many.ensures

pub returns : goal.returns
returns c = c.first_uncovered_of.ensures
