use Rattle.std.proofs.Common.{◌≡◌, true, length, nat_lt, sym, subst, arith}
use Rattle.std.specs.List.{list_all}
use Rattle.tce_tree.specs.ContractionTree.{ContractionTree}
use Rattle.tce_spec.specs.Operands.{references}
use Rattle.tce_spec.proofs.Seen.{references_below, below_more, seen_none}
use Rattle.tce_spec.proofs.spec.Spec.operands.Goals as goal

pub add_operands-requires : goal.add_operands-requires
add_operands-requires c = (
  omega arith,
  (
    subst (λ (tree : ContractionTree). list_all (λ t. nat_lt t 32) (references tree) ≡ true) (sym c.self.invariant.expression)
        (below_more (length c.self.inside.declarations.tensors) 32 (references c.self.inside.contraction.tree) c.self.invariant.rules.declarations.tensor_limit
        (references_below c.self.inside.declarations c.self.inside.contraction.tree c.self.invariant.rules.contraction.leaves_fit)),
    seen_none 32 c.new-seen.result.items c.new-seen.ensures,
  ),
)
