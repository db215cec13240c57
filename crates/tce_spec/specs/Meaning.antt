-- What a formula means over its declarations.
use Rattle.std.specs.Prelude.{ℕ, List, map, unwrap_or}
use Rattle.tce_grammar.specs.Formula as formula
use Rattle.tce_tree.specs.ContractionTree.{ContractionTree, leaf, constant, binary, sum}
use Rattle.tce_space.specs.Space.{IndexSpace, index_number}
use Rattle.tce_spec.specs.Declarations.{Declarations, tensor_number}
use Rattle.tce_spec.specs.Numbers.{value_of}

-- the numbers of names
abbrev pub indexes_of : IndexSpace → List (List ℕ) → List ℕ
indexes_of space names = map (λ name. unwrap_or (index_number space name) 0) names

abbrev pub tensor_of : Declarations → List ℕ → ℕ
tensor_of d name = unwrap_or (tensor_number d.tensors name) 0

-- the tree of a formula whose names are declared
abbrev pub meaning : Declarations → formula.Formula → ContractionTree
meaning d (formula.tensor name indexes) = leaf (tensor_of d name) (indexes_of d.space indexes)
meaning d (formula.constant digits) = constant (value_of digits)
meaning d (formula.sum indexes operand) = sum (indexes_of d.space indexes) (meaning d operand)
meaning d (formula.binary operator left right) = binary operator (meaning d left) (meaning d right)
