-- What a `Spec` shows of its parts.
use Rattle.std.specs.Prelude.{◌≡◌}
use Rattle.tce_tree.specs.Expr.{tree_of}
use Rattle.tce_spec.specs.Declarations.{Declarations}
use Rattle.tce_spec.specs.declared.formula.Contraction.{Contraction}
use Rattle.tce_spec.specs.Specification.{Specification, IsSpecification}

abbrev pub specification_of : Declarations → Contraction → Specification
specification_of d c = record { declarations = d; result = c.result.tensor; indexes = c.result.indexes.items; tree = c.tree }

-- the rules of specifications, and the expression is that of the tree
pub record IsKept (d : Declarations) (c : Contraction) : Type 0 where
  pub rules : IsSpecification (specification_of d c)
  pub expression : tree_of c.expr ≡ c.tree
