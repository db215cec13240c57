-- What is printed of an expression of the program.
use Rattle.std.specs.Prelude.{ℕ, List}
use Rattle.tce_tree.specs.Expr.{tree_of}
use Rattle.tce_tree.specs.declared.expr.Expr.{Expr}
use Rattle.tce_tree.specs.declared.expr.Leaf.{Leaf}
use Rattle.tce_grammar.specs.Grammar.{Written, spelling}
use Rattle.tce_grammar.specs.Canonical.{written_of}
use Rattle.tce_grammar.specs.Printed.{Printing, with_tokens}
use Rattle.tce_spec.specs.Declarations.{Declarations}
use Rattle.tce_spec.specs.Contraction.{IsContraction}
use Rattle.tce_spec.specs.Statements.{formula_of, canonical}

-- the expression with names for its numbers, and no more parentheses than it needs
abbrev pub written_expr : Declarations → Expr → Written
written_expr d expr = written_of (formula_of d (tree_of expr))

-- its tokens behind what is printed
abbrev pub with_expr : Printing → Declarations → Expr → Printing
with_expr p d expr = with_tokens p (spelling (written_expr d expr))

-- the elements of a tensor with its indexes are the values of the expression
abbrev pub IsContractionTo : Declarations → Leaf → Expr → Type 0
IsContractionTo d computed expr = IsContraction d computed.tensor computed.indexes.items (tree_of expr)

-- the canonical text of declarations and of what is computed over them
abbrev pub canonical_to : Declarations → Leaf → Expr → List ℕ
canonical_to d computed expr = canonical d computed.tensor computed.indexes.items (tree_of expr)
