use Rattle.std.proofs.Common.{ap, sym, ◌∙◌}
use Rattle.tce_tree.specs.declared.node.Node.{Node}
use Rattle.tce_tree.proofs.Flat.{kind_when_binary, kind_when_sum}
use Rattle.tce_tree.proofs.tree.Tree.kind.Goals as goal

pub returns-in-Binary : goal.returns-in-Binary
returns-in-Binary c = c.kind_of.ensures ∙ kind_when_binary _ _ _ c.in-Binary.field-1 c.in-Binary.field-2 (ap (λ (n : Node). n.operation) (sym c.node.ensures.value) ∙ c.in-Binary.is)

pub returns-in-Sum : goal.returns-in-Sum
returns-in-Sum c = kind_when_sum _ _ c.in-Sum.field-0 c.in-Sum.field-1 (ap (λ (n : Node). n.operation) (sym c.node.ensures.value) ∙ c.in-Sum.is)
