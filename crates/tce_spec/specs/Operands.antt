-- The tensors of a formula, and the tiles that a run moves.
use Rattle.std.specs.Prelude.{ℕ, eqb, nat_lt, IsTrue, if◌then◌else◌, max, List, [], ◌∷◌, ◌++◌}
use Rattle.std.specs.List.{fold, list_any, list_all, IsDistinct}
use Rattle.tce_space.specs.Space.{tiling_of}
use Rattle.tce_space.specs.Tiling.{Tiling, tile_words}
use Rattle.tce_tree.specs.ContractionTree.{ContractionTree, leaf, constant, binary, sum}
use Rattle.tce_spec.specs.Declarations.{tensor_at}
use Rattle.tce_spec.specs.Specification.{Specification}

-- the tensors that a tree refers to, from the left
abbrev pub references : ContractionTree → List ℕ
references (leaf tensor indexes) = tensor ∷ []
references (constant number) = []
references (binary op left right) = references left ++ references right
references (sum indexes operand) = references operand

-- a list with one more number, unless it has it
abbrev pub with_new : List ℕ → ℕ → List ℕ
with_new seen t = if list_any (eqb t) seen then seen else seen ++ t ∷ []

-- the numbers of a list, each once, in the order of their first places
abbrev pub each_once : List ℕ → List ℕ
each_once ts = fold with_new [] ts

-- the operands: the tensors of the formula, each once
abbrev pub operands : Specification → List ℕ
operands s = each_once (references s.tree)

-- the shape of a tensor
abbrev pub shape_of : Specification → ℕ → Tiling
shape_of s t = tiling_of s.declarations.space (tensor_at s.declarations t).ranges

-- the words of the largest tile of the operands and the result
abbrev pub largest_tile : Specification → ℕ
largest_tile s = fold (λ largest t. max largest (tile_words (shape_of s t))) (tile_words (shape_of s s.result)) (operands s)

-- different numbers below a limit
pub record AreSeen (limit : ℕ) (seen : List ℕ) : Type 0 where
  pub once : IsDistinct eqb seen
  pub below : IsTrue (list_all (λ t. nat_lt t limit) seen)
