-- Operands that are tensors.
use Rattle.std.proofs.Common.{◌≡◌, ℕ, ◌+◌, ◌-◌, ◌<◌, Some, sym, subst, arith}
use Rattle.tce_tree.proofs.Nodes.{size_bounds}
use Rattle.tce_tree.specs.ContractionTree.{ContractionTree, leaf, constant, binary, sum, multiply, dims, operations, node, node_dims, left_tree, right_tree}
use Rattle.tce_tree.specs.FlatTree.{operand_of, left_operand, right_operand, left_of, right_of, first_number_of}
use Rattle.tce_tree.specs.declared.node.Operand.{Operand}
use Rattle.tce_tree.specs.declared.node.Operand.TheVariants.{Leaf as LeafOperand, Constant as ConstantOperand, Node as NodeOperand}
use Rattle.tce_code.specs.Shape.{IsBinary}
use Rattle.tce_walk.specs.FoundTerms.{IsDimsOfTensor, IsOperandOver, NamesTensor}
use Rattle.tce_walk.specs.Terms.{IsTensor}
use Rattle.tce_walk.specs.declared.terms.TermOperand.TheVariants.{Product, Left, Right}

-- what names a tensor is one
tensor_named : (first : ℕ) (c : ContractionTree) (operand : Operand) → operand ≡ operand_of first c → NamesTensor operand → IsTensor c
tensor_named first (leaf t is) operand e h = tt
tensor_named first (constant n) operand e h = subst NamesTensor e h
tensor_named first (binary op l r) operand e h = subst NamesTensor e h
tensor_named first (sum is x) operand e h = subst NamesTensor e h

left_tensor_in : (first : ℕ) (c : ContractionTree) (operand : Operand) → 0 < operations c → operand ≡ left_operand first c → NamesTensor operand → IsTensor (left_tree c)
left_tensor_in first (leaf t is) operand some e h = absurd (omega (arith, some))
left_tensor_in first (constant n) operand some e h = absurd (omega (arith, some))
left_tensor_in first (binary op l r) operand some e h = tensor_named first l operand e h
left_tensor_in first (sum is x) operand some e h = tensor_named first x operand e h

pub left_tensor : (tree : ContractionTree) (v : ℕ) (operand : Operand) → v < operations tree → operand ≡ left_of tree v → NamesTensor operand → IsTensor (left_tree (node tree v))
unfolding left_of first_number_of
left_tensor tree v operand l e h = left_tensor_in (v + 1 - operations (node tree v)) (node tree v) operand (size_bounds tree v l).0 e h

right_tensor_in : (first : ℕ) (c : ContractionTree) (operand : Operand) → Some operand ≡ right_operand first c → NamesTensor operand → IsTensor (right_tree c)
right_tensor_in first (leaf t is) operand e h = absurd (let k : ⊥ = cc in k)
right_tensor_in first (constant n) operand e h = absurd (let k : ⊥ = cc in k)
right_tensor_in first (binary op l r) operand e h =
    tensor_named (first + operations l) r operand (let q : operand ≡ operand_of (first + operations l) r = cc in q) h
right_tensor_in first (sum is x) operand e h = absurd (let k : ⊥ = cc in k)

pub right_tensor : (tree : ContractionTree) (v : ℕ) (operand : Operand) → Some operand ≡ right_of tree v → NamesTensor operand → IsTensor (right_tree (node tree v))
unfolding right_of first_number_of
right_tensor tree v operand e h = right_tensor_in (v + 1 - operations (node tree v)) (node tree v) operand e h

-- a tensor whose dims are known
pub names_tensor : (operand : Operand) (set : ℕ) → IsDimsOfTensor operand set → NamesTensor operand
names_tensor (LeafOperand l) set h = tt
names_tensor (ConstantOperand n) set h = h
names_tensor (NodeOperand v) set h = h

dims_named : (first : ℕ) (c : ContractionTree) (operand : Operand) (set : ℕ) → operand ≡ operand_of first c → IsDimsOfTensor operand set → dims c ≡ set
dims_named first (leaf t is) operand set e h = sym (subst (λ o. IsDimsOfTensor o set) e h)
dims_named first (constant n) operand set e h = absurd (subst (λ o. IsDimsOfTensor o set) e h)
dims_named first (binary op l r) operand set e h = absurd (subst (λ o. IsDimsOfTensor o set) e h)
dims_named first (sum is x) operand set e h = absurd (subst (λ o. IsDimsOfTensor o set) e h)

left_dims_in : (first : ℕ) (c : ContractionTree) (operand : Operand) (set : ℕ) → 0 < operations c → operand ≡ left_operand first c → IsDimsOfTensor operand set → dims (left_tree c) ≡ set
left_dims_in first (leaf t is) operand set some e h = absurd (omega (arith, some))
left_dims_in first (constant n) operand set some e h = absurd (omega (arith, some))
left_dims_in first (binary op l r) operand set some e h = dims_named first l operand set e h
left_dims_in first (sum is x) operand set some e h = dims_named first x operand set e h

pub left_over : (tree : ContractionTree) (v : ℕ) (operand : Operand) (set : ℕ) → v < operations tree → operand ≡ left_of tree v → IsDimsOfTensor operand set → IsOperandOver tree (Left v) set
unfolding left_of first_number_of
left_over tree v operand set l e h = record {
  operand_is = (l, left_tensor_in (v + 1 - operations (node tree v)) (node tree v) operand (size_bounds tree v l).0 e (names_tensor operand set h));
  dims_are = left_dims_in (v + 1 - operations (node tree v)) (node tree v) operand set (size_bounds tree v l).0 e h;
}

right_dims_in : (first : ℕ) (c : ContractionTree) (operand : Operand) (set : ℕ) → Some operand ≡ right_operand first c → IsDimsOfTensor operand set → dims (right_tree c) ≡ set
right_dims_in first (leaf t is) operand set e h = absurd (let k : ⊥ = cc in k)
right_dims_in first (constant n) operand set e h = absurd (let k : ⊥ = cc in k)
right_dims_in first (binary op l r) operand set e h =
    dims_named (first + operations l) r operand set (let q : operand ≡ operand_of (first + operations l) r = cc in q) h
right_dims_in first (sum is x) operand set e h = absurd (let k : ⊥ = cc in k)

pub right_over : (tree : ContractionTree) (v : ℕ) (operand : Operand) (set : ℕ) → v < operations tree → Some operand ≡ right_of tree v → IsDimsOfTensor operand set → IsOperandOver tree (Right v) set
unfolding right_of first_number_of
right_over tree v operand set l e h = record {
  operand_is = (l, right_tensor_in (v + 1 - operations (node tree v)) (node tree v) operand e (names_tensor operand set h));
  dims_are = right_dims_in (v + 1 - operations (node tree v)) (node tree v) operand set e h;
}

pub product_over : (tree : ContractionTree) (v : ℕ) (left right : Operand) (set x y : ℕ) → v < operations tree → IsBinary multiply (node tree v) → left ≡ left_of tree v → Some right ≡ right_of tree v
    → IsDimsOfTensor left x → IsDimsOfTensor right y → set ≡ node_dims tree v → IsOperandOver tree (Product v) set
unfolding node_dims
product_over tree v left right set x y l kind e q h k is = record {
  operand_is = (l, kind, left_tensor tree v left l e (names_tensor left x h), right_tensor tree v right q (names_tensor right y k));
  dims_are = sym is;
}
