use Rattle.tce_walk.proofs.TermOperands.{left_tensor, right_tensor}
use Rattle.tce_walk.proofs.values.takes_tensors.Goals as goal

pub returns-then-is_tensor : goal.returns-then-is_tensor
returns-then-is_tensor c = λ t. record {
  left = left_tensor c.args.walk.now.tree.now c.args.v c.left.result.now c.requires c.left.ensures.value (c.is_tensor.ensures c.if-is_tensor.true);
  right = right_tensor c.args.walk.now.tree.now c.args.v c.in-Some.right.now c.in-Some.ensures.value (c.is_tensor-then-is_tensor.ensures t);
}
