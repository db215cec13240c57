use Rattle.std.proofs.Common.{ap, sym, ◌∙◌}
use Rattle.tce_tree.specs.FlatTree.{left_of}
use Rattle.tce_tree.specs.declared.node.Node.{Node}
use Rattle.tce_tree.proofs.Flat.{left_when_binary, left_when_sum}
use Rattle.tce_tree.proofs.Operands.{left_is_before}
use Rattle.tce_tree.proofs.tree.Tree.left.Goals as goal

pub returns-in-Binary-clause-value : goal.returns-in-Binary-clause-value
unfolding left_of
returns-in-Binary-clause-value c = left_when_binary _ _ c.in-Binary.field-0 _ c.in-Binary.field-2 (ap (λ (n : Node). n.operation) (sym c.node.ensures.value) ∙ c.in-Binary.is)

pub returns-in-Sum-clause-value : goal.returns-in-Sum-clause-value
unfolding left_of
returns-in-Sum-clause-value c = left_when_sum _ _ c.in-Sum.field-0 _ (ap (λ (n : Node). n.operation) (sym c.node.ensures.value) ∙ c.in-Sum.is)

pub returns-in-Binary-clause-before : goal.returns-in-Binary-clause-before
returns-in-Binary-clause-before c =
    left_is_before c.args.self.now c.args.v c.in-Binary.left c.requires (returns-in-Binary-clause-value c)

pub returns-in-Sum-clause-before : goal.returns-in-Sum-clause-before
returns-in-Sum-clause-before c =
    left_is_before c.args.self.now c.args.v c.in-Sum.operand c.requires (returns-in-Sum-clause-value c)
