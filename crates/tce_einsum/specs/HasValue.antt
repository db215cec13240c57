-- What the specification of an einsum has of it: its labels with their sizes, its operands and its result, and its value.
use Rattle.std.specs.Prelude.{◌≡◌, ℕ, ◌<◌, List, [], ◌∷◌, ◌++◌, length, map, slice_index_or}
use Rattle.std.specs.declared.result.Result.TheVariants.{Ok}
use Rattle.tce_space.specs.Space.{IndexSpace, index_at, extent_at, edge_at}
use Rattle.tce_tree.specs.Value.{Assignment, Elements, value}
use Rattle.tce_spec.specs.Declarations.{Tensor}
use Rattle.tce_spec.specs.Numbers.{value_of, edge_of}
use Rattle.tce_spec.specs.Specification.{Specification}
use Rattle.tce_einsum.specs.Text.{Size, Einsum}
use Rattle.tce_einsum.specs.Path.{Item}
use Rattle.tce_einsum.specs.Input.{IsInput}
use Rattle.tce_einsum.specs.Entries.{numbered}
use Rattle.tce_einsum.specs.Numbered.{numbers_of, value_of_einsum}
use Rattle.tce_einsum.specs.Produced.{operand_name, result_name}
use Rattle.tce_einsum.specs.Answer.{Produces}

-- an index is the label of a size, with its extent, and its edge, which is 1 where none is given
pub record IsLabel (space : IndexSpace) (i : ℕ) (s : Size) : Type 0 where
  pub name : (index_at space i).name ≡ s.label ∷ []
  pub extent : extent_at space i ≡ value_of s.extent
  pub edge : edge_at space i ≡ edge_of s.edge

-- the indexes are the labels, in order of the sizes
pub record AreLabels (space : IndexSpace) (sizes : List Size) : Type 0 where
  pub count : length space.indexes ≡ length sizes
  pub each : (i : ℕ) (d : Size) → i < length sizes → IsLabel space i (slice_index_or sizes i d)

-- `X0`, `X1` and so on for the operands, and `Y` for the result
abbrev pub tensor_names : Einsum → List (List ℕ)
tensor_names x = numbered (λ k labels. operand_name k) 0 x.operands ++ result_name ∷ []

-- the indexes are the labels; the tensors are the operands, and last the result, over the labels of the output; and the value of the tree is that of the einsum, at every assignment, for all contents of the tensors
pub record HasValueOfEinsum (text path : List ℕ) (s : Specification) : Type 0 where
  pub einsum : Einsum
  pub items : List Item
  pub input : IsInput text path einsum items
  pub labels : AreLabels s.declarations.space einsum.sizes
  pub tensors : map (λ (t : Tensor). t.name) s.declarations.tensors ≡ tensor_names einsum
  pub result : s.result ≡ length einsum.operands
  pub output : s.indexes ≡ numbers_of einsum.sizes einsum.output
  pub value : (e : Elements) (a : Assignment) → value e s.tree a ≡ value_of_einsum e einsum a

-- what the text specifies that is produced has the value of the einsum, whatever the path
abbrev pub SpecificationsHaveTheValue : Type 0
SpecificationsHaveTheValue = (text path : List ℕ) (s : Specification) → Produces text path (Ok s) → HasValueOfEinsum text path s
