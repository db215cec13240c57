use Rattle.tce_exec.proofs.turns.join_turns.Goals as goal

pub compute_and_grow-requires-clause-sequence : goal.compute_and_grow-requires-clause-sequence
compute_and_grow-requires-clause-sequence c = rw c.loops_in.ensures.indexes c.requires.sequence

pub compute_and_grow-requires-clause-fit : goal.compute_and_grow-requires-clause-fit
compute_and_grow-requires-clause-fit c = rw (c.operands_of.ensures.left, c.operands_of.ensures.right) c.requires.fit

pub compute_and_grow-requires-clause-loops : goal.compute_and_grow-requires-clause-loops
compute_and_grow-requires-clause-loops c = rw (c.loops_in.ensures.indexes, c.loops_in.ensures.lens) c.requires.loops

pub compute_and_grow-requires-clause-own : goal.compute_and_grow-requires-clause-own
compute_and_grow-requires-clause-own c = rw (c.loops_in.ensures.indexes, c.loops_in.ensures.lens, c.operands_of.ensures.left, c.operands_of.ensures.right) c.requires.own

pub compute_and_grow-requires-clause-out : goal.compute_and_grow-requires-clause-out
compute_and_grow-requires-clause-out c = rw (c.loops_in.ensures.indexes, c.loops_in.ensures.lens, c.operands_of.ensures.left, c.operands_of.ensures.right) c.requires.out

pub compute_and_grow-requires-clause-left : goal.compute_and_grow-requires-clause-left
compute_and_grow-requires-clause-left c = rw (c.loops_in.ensures.indexes, c.loops_in.ensures.lens, c.operands_of.ensures.left) c.requires.left

pub compute_and_grow-requires-clause-right : goal.compute_and_grow-requires-clause-right
compute_and_grow-requires-clause-right c = rw (c.loops_in.ensures.indexes, c.loops_in.ensures.lens, c.operands_of.ensures.right) c.requires.right

pub returns-clause-sequence : goal.returns-clause-sequence
returns-clause-sequence c = rw c.loops_in.ensures.indexes at c.compute_and_grow.ensures.sequence

pub returns-clause-fit : goal.returns-clause-fit
returns-clause-fit c = rw (c.operands_of.ensures.left, c.operands_of.ensures.right) at c.compute_and_grow.ensures.fit

pub returns-clause-made : goal.returns-clause-made
returns-clause-made c = rw (c.loops_in.ensures.indexes, c.loops_in.ensures.lens, c.operands_of.ensures.left, c.operands_of.ensures.right) at c.compute_and_grow.ensures.made
