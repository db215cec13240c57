use Rattle.tce_exec.proofs.steps.set_steps.Goals as goal

pub left-left-requires : goal.left-left-requires
left-left-requires c = c.requires.known

pub set_operand_steps-requires-clause-laid : goal.set_operand_steps-requires-clause-laid
set_operand_steps-requires-clause-laid c = c.requires.laid

pub set_operand_steps-requires-clause-known : goal.set_operand_steps-requires-clause-known
set_operand_steps-requires-clause-known c = rw c.left-left.ensures.value c.requires.left_has

pub right-requires : goal.right-requires
right-requires c = c.requires.known

pub set_place_steps-requires-clause-laid : goal.set_place_steps-requires-clause-laid
set_place_steps-requires-clause-laid c = c.requires.laid

pub set_place_steps-requires-clause-node : goal.set_place_steps-requires-clause-node
set_place_steps-requires-clause-node c = c.requires.known

pub set_place_steps-requires-clause-known : goal.set_place_steps-requires-clause-known
set_place_steps-requires-clause-known c = c.requires.indexes

pub set_place_steps-requires-clause-stored : goal.set_place_steps-requires-clause-stored
set_place_steps-requires-clause-stored c = c.requires.stored

pub set_place_steps-requires-in-None-clause-laid : goal.set_place_steps-requires-in-None-clause-laid
set_place_steps-requires-in-None-clause-laid c = c.requires.laid

pub set_place_steps-requires-in-None-clause-node : goal.set_place_steps-requires-in-None-clause-node
set_place_steps-requires-in-None-clause-node c = c.requires.known

pub set_place_steps-requires-in-None-clause-known : goal.set_place_steps-requires-in-None-clause-known
set_place_steps-requires-in-None-clause-known c = c.requires.indexes

pub set_place_steps-requires-in-None-clause-stored : goal.set_place_steps-requires-in-None-clause-stored
set_place_steps-requires-in-None-clause-stored c = c.requires.stored

pub set_place_steps-requires-in-Some-sum-clause-laid : goal.set_place_steps-requires-in-Some-sum-clause-laid
set_place_steps-requires-in-Some-sum-clause-laid c = c.requires.laid

pub set_place_steps-requires-in-Some-sum-clause-known : goal.set_place_steps-requires-in-Some-sum-clause-known
set_place_steps-requires-in-Some-sum-clause-known c = c.requires.indexes

pub set_place_steps-requires-in-Some-sum-clause-stored : goal.set_place_steps-requires-in-Some-sum-clause-stored
set_place_steps-requires-in-Some-sum-clause-stored c = c.requires.stored

pub set_operand_steps-requires-2-clause-laid : goal.set_operand_steps-requires-2-clause-laid
set_operand_steps-requires-2-clause-laid c = c.requires.laid

pub set_place_steps-requires-in-Some-sum-clause-node : goal.set_place_steps-requires-in-Some-sum-clause-node
set_place_steps-requires-in-Some-sum-clause-node c = (c.requires.sum_known _ c.in-Some-sum.is).0

pub set_node_steps-requires-clause-laid : goal.set_node_steps-requires-clause-laid
set_node_steps-requires-clause-laid c = c.requires.laid

pub set_node_steps-requires-clause-inner : goal.set_node_steps-requires-clause-inner
set_node_steps-requires-clause-inner c = (c.requires.sum_known _ c.in-Some-sum.is).1
