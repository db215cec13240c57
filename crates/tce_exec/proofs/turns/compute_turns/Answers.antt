use Rattle.tce_exec.proofs.turns.compute_turns.Goals as goal

pub compute-requires-clause-sequence : goal.compute-requires-clause-sequence
compute-requires-clause-sequence c = rw c.loops_in.ensures.indexes c.requires.sequence

pub compute-requires-clause-loops : goal.compute-requires-clause-loops
compute-requires-clause-loops c = rw (c.loops_in.ensures.indexes, c.loops_in.ensures.lens) c.requires.loops

pub compute-requires-clause-out : goal.compute-requires-clause-out
compute-requires-clause-out c = rw (c.loops_in.ensures.indexes, c.loops_in.ensures.lens) c.requires.out

pub compute-requires-clause-left : goal.compute-requires-clause-left
compute-requires-clause-left c = rw (c.loops_in.ensures.indexes, c.loops_in.ensures.lens, c.operands_of.ensures.left) c.requires.left

pub compute-requires-clause-right : goal.compute-requires-clause-right
compute-requires-clause-right c = rw (c.loops_in.ensures.indexes, c.loops_in.ensures.lens, c.operands_of.ensures.right) c.requires.right

pub compute-requires-clause-apart_from_left : goal.compute-requires-clause-apart_from_left
compute-requires-clause-apart_from_left c = rw (c.loops_in.ensures.indexes, c.loops_in.ensures.lens, c.operands_of.ensures.left) c.requires.apart_from_left

pub compute-requires-clause-apart_from_right : goal.compute-requires-clause-apart_from_right
compute-requires-clause-apart_from_right c = rw (c.loops_in.ensures.indexes, c.loops_in.ensures.lens, c.operands_of.ensures.right) c.requires.apart_from_right

pub returns-clause-sequence : goal.returns-clause-sequence
returns-clause-sequence c = rw c.loops_in.ensures.indexes at c.compute.ensures.sequence

pub returns-clause-made : goal.returns-clause-made
returns-clause-made c = rw (c.loops_in.ensures.indexes, c.loops_in.ensures.lens, c.operands_of.ensures.left, c.operands_of.ensures.right) at c.compute.ensures.made
