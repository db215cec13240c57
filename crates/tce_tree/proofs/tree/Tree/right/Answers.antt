use Rattle.std.proofs.Common.{ap, sym, ◌∙◌, refl}
use Rattle.std.proofs.lemmas.Bool.{true≢false}
use Rattle.tce_tree.specs.FlatTree.{right_of}
use Rattle.tce_tree.specs.declared.node.Node.{Node}
use Rattle.tce_tree.proofs.Flat.{right_when_binary, right_when_sum, kind_when_sum, no_sum_when_binary}
use Rattle.tce_tree.proofs.Operands.{right_is_before}
use Rattle.tce_tree.proofs.tree.Tree.right.Goals as goal

pub returns-in-Binary-clause-value : goal.returns-in-Binary-clause-value
unfolding right_of
returns-in-Binary-clause-value c = right_when_binary _ _ c.in-Binary.field-0 c.in-Binary.field-1 _ (ap (λ (n : Node). n.operation) (sym c.node.ensures.value) ∙ c.in-Binary.is)

pub returns-in-Sum-clause-value : goal.returns-in-Sum-clause-value
unfolding right_of
returns-in-Sum-clause-value c = right_when_sum _ _ c.in-Sum.field-0 c.in-Sum.field-1 (ap (λ (n : Node). n.operation) (sym c.node.ensures.value) ∙ c.in-Sum.is)

pub returns-in-Binary-clause-before : goal.returns-in-Binary-clause-before
returns-in-Binary-clause-before c =
    right_is_before c.args.self.now c.args.v c.in-Binary.right c.requires (returns-in-Binary-clause-value c)

pub returns-in-Binary-clause-sum : goal.returns-in-Binary-clause-sum
returns-in-Binary-clause-sum c = (
  (λ h. absurd (true≢false h)),
  (λ h. absurd (no_sum_when_binary _ _ c.in-Binary.field-0 c.in-Binary.field-1 _ (ap (λ (n : Node). n.operation) (sym c.node.ensures.value) ∙ c.in-Binary.is) h)),
)

pub returns-in-Sum-clause-sum : goal.returns-in-Sum-clause-sum
returns-in-Sum-clause-sum c = (
  (λ h. sym (kind_when_sum _ _ c.in-Sum.field-0 c.in-Sum.field-1 (ap (λ (n : Node). n.operation) (sym c.node.ensures.value) ∙ c.in-Sum.is))),
  (λ h. refl),
)
