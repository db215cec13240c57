-- Specifications: declared ranges, indexes and tensors, and what is computed over them.
use Rattle.std.specs.Prelude.{◌≡◌, ⊤, ℕ, ◌<◌, ◌≤◌, ◌^◌, None, IsTrue, List}
use Rattle.tce_space.specs.Limits.{max_nodes}
use Rattle.tce_tree.specs.ContractionTree.{ContractionTree, leaf, constant, binary, sum, operations}
use Rattle.tce_tree.specs.WellFormed.{sums_distinct}
use Rattle.tce_tree.specs.Faults.{fault_of}
use Rattle.tce_tree.specs.Measure.{IsMeasured}
use Rattle.tce_spec.specs.Declarations.{Declarations, IsDeclarations}
use Rattle.tce_spec.specs.Contraction.{IsContraction}

-- the result is a tensor with an index for each of its dimensions; its elements are the values of the tree
pub record Specification : Type 0 where
  pub declarations : Declarations
  pub result : ℕ
  pub indexes : List ℕ
  pub tree : ContractionTree

-- each constant is a word
abbrev pub ConstantsAreWords : ContractionTree → Type 0
ConstantsAreWords (leaf tensor indexes) = ⊤
ConstantsAreWords (constant number) = number < 2 ^ 64
ConstantsAreWords (binary op left right) = ConstantsAreWords left × ConstantsAreWords right
ConstantsAreWords (sum indexes operand) = ConstantsAreWords operand

-- what every specification keeps
pub record IsSpecification (s : Specification) : Type 0 where
  pub declarations : IsDeclarations s.declarations
  pub contraction : IsContraction s.declarations s.result s.indexes s.tree
  pub few : operations s.tree ≤ max_nodes
  pub distinct : IsTrue (sums_distinct s.tree)
  pub faultless : fault_of s.declarations.space s.tree ≡ None
  pub measured : IsMeasured s.declarations.space s.tree
  pub constants : ConstantsAreWords s.tree
