-- The operands of a term, as nodes of the tree have them.
use Rattle.std.proofs.Common.{◌≡◌, ℕ, ◌<◌, ◌⊎◌, true, if◌then◌else◌, List, Some, None, ◌+◌, refl, sym, ap, ap₂, ◌∙◌, subst, ltb, ltb-true}
use Rattle.std.proofs.lemmas.Bool.{and_parts, or_left, or_right}
use Rattle.std.proofs.lemmas.List.Elements.{All-from_recursion}
use Rattle.tce_base.specs.Word.{wrapping_mul}
use Rattle.tce_space.specs.IndexSet.{has}
use Rattle.tce_space.specs.Space.{IndexSpace, extent_at}
use Rattle.tce_space.proofs.IndexSetLaws.{has-union}
use Rattle.tce_tree.specs.ContractionTree.{ContractionTree, leaf, constant, binary, sum, multiply, dims, operations, node, left_tree, right_tree}
use Rattle.tce_tree.specs.FlatTree.{IsTree, operand_of, left_operand, right_operand, first_number_of, left_of, right_of}
use Rattle.tce_tree.specs.Value.{Assignment, Elements, value}
use Rattle.tce_tree.specs.WellFormed.{among, indexes_below}
use Rattle.tce_tree.specs.declared.node.Operand.{Operand}
use Rattle.tce_tree.proofs.Lists.{among-all}
use Rattle.tce_tree.proofs.NamedIndexes.{has-set_of_list, indexes_below-node}
use Rattle.tce_code.specs.Shape.{IsBinary}
use Rattle.tce_walk.specs.Terms.{operand_tree, IsTermOperand, IsTensor as IsTensorTree}
use Rattle.tce_walk.specs.declared.terms.TermOperand.{TermOperand}
use Rattle.tce_walk.specs.declared.terms.TermOperand.TheVariants.{Product, Left, Right}
use Rattle.tce_exec.specs.NodeStates.{Places}
use Rattle.tce_exec.specs.Workspace.{Workspace}
use Rattle.tce_exec.specs.Prepared.{HasOperands, IsPrepared}
use Rattle.tce_exec.specs.TermWindows.{IsNameOf, AreOperandsOf, IsTensor, AreTensors, element_value, term_value}
use Rattle.tce_exec.specs.TermBlocks.{IsInReach}
use Rattle.tce_exec.specs.declared.term_windows.TermOperands.{TermOperands}
use Rattle.tce_exec.proofs.Operating.{operands_at}
use Rattle.tce_exec.proofs.Reading.{each_of}

-- ---- one operand

left_below : (n : ContractionTree) → indexes_below 24 n ≡ true → indexes_below 24 (left_tree n) ≡ true
left_below (leaf t is) h = refl
left_below (constant k) h = refl
left_below (binary op l r) h = (and_parts (indexes_below 24 l) (indexes_below 24 r) h).0
left_below (sum is e) h = (and_parts _ (indexes_below 24 e) h).1

right_below : (n : ContractionTree) → indexes_below 24 n ≡ true → indexes_below 24 (right_tree n) ≡ true
right_below (leaf t is) h = refl
right_below (constant k) h = refl
right_below (binary op l r) h = (and_parts (indexes_below 24 l) (indexes_below 24 r) h).1
right_below (sum is e) h = refl

left_has : (w : Workspace) (n : ContractionTree) → HasOperands w n → HasOperands w (left_tree n)
left_has w (leaf t is) h = tt
left_has w (constant k) h = tt
left_has w (binary op l r) h = h.0
left_has w (sum is e) h = h

right_has : (w : Workspace) (n : ContractionTree) → HasOperands w n → HasOperands w (right_tree n)
right_has w (leaf t is) h = tt
right_has w (constant k) h = tt
right_has w (binary op l r) h = h.1
right_has w (sum is e) h = tt

-- the operands of a prepared workspace with these places
at_node : (p : Places) (v : ℕ) (w : Workspace) → v < operations p.tree → w.places ≡ p → IsPrepared w → HasOperands w (node p.tree v)
at_node p v w known same is = operands_at w p.tree v known (subst (λ (q : Places). HasOperands w q.tree) same is.operands)

named_tensor : (p : Places) (side : ContractionTree) (o : Operand) → IsNameOf side o → indexes_below 24 side ≡ true → ((w : Workspace) → w.places ≡ p → IsPrepared w → HasOperands w side) → IsTensor p o
named_tensor p (leaf t is) o name below has_all = subst (IsTensor p) (sym name) (record {
  operand = λ w same prepared. has_all w same prepared;
  known = All-from_recursion (λ i. i < 24) is (each_of (λ i. i < 24) is (λ i m. ltb-true i 24 (among-all (λ j. ltb j 24) is i below m)));
})
named_tensor p (constant k) o name below has_all = absurd name
named_tensor p (binary op l r) o name below has_all = absurd name
named_tensor p (sum is e) o name below has_all = absurd name

named_reach : (space : IndexSpace) (loops : List ℕ) (a : Assignment) (side : ContractionTree) (o : Operand) → IsNameOf side o → indexes_below 24 side ≡ true
    → ((i : ℕ) → has (dims side) i ≡ true → (among loops i ≡ true) ⊎ (a i < extent_at space i)) → IsInReach space loops a o
named_reach space loops a (leaf t is) o name below inside = subst (IsInReach space loops a) (sym name) (λ i m. inside i (has-set_of_list is i below ∙ m))
named_reach space loops a (constant k) o name below inside = absurd name
named_reach space loops a (binary op l r) o name below inside = absurd name
named_reach space loops a (sum is e) o name below inside = absurd name

named_value : (e : Elements) (side : ContractionTree) (o : Operand) (a : Assignment) → IsNameOf side o → element_value e o a ≡ value e side a
named_value e (leaf t is) o a name = ap (λ q. element_value e q a) name
named_value e (constant k) o a name = absurd name
named_value e (binary op l r) o a name = absurd name
named_value e (sum is c) o a name = absurd name

-- ---- products

left_dims : (n : ContractionTree) → IsBinary multiply n → (i : ℕ) → has (dims (left_tree n)) i ≡ true → has (dims n) i ≡ true
left_dims (leaf t is) h i m = absurd h
left_dims (constant k) h i m = absurd h
left_dims (binary op l r) h i m = has-union (dims l) (dims r) i ∙ or_left (has (dims l) i) (has (dims r) i) m
left_dims (sum is e) h i m = absurd h

right_dims : (n : ContractionTree) → IsBinary multiply n → (i : ℕ) → has (dims (right_tree n)) i ≡ true → has (dims n) i ≡ true
right_dims (leaf t is) h i m = absurd h
right_dims (constant k) h i m = absurd h
right_dims (binary op l r) h i m = has-union (dims l) (dims r) i ∙ or_right (has (dims l) i) (has (dims r) i) m
right_dims (sum is e) h i m = absurd h

product_value : (e : Elements) (n : ContractionTree) (a : Assignment) → IsBinary multiply n → wrapping_mul (value e (left_tree n) a) (value e (right_tree n) a) ≡ value e n a
product_value e (leaf t is) a h = absurd h
product_value e (constant k) a h = absurd h
product_value e (binary op l r) a h = ap (λ o. value e (binary o l r) a) h
product_value e (sum is c) a h = absurd h

-- ---- the operands of a term

node_below : (tree : ContractionTree) (v : ℕ) → IsTree tree → v < operations tree → indexes_below 24 (node tree v) ≡ true
node_below tree v is known = indexes_below-node 24 tree v known is.well_formed.indexed

pub tensors_of : (p : Places) (t : TermOperand) (o : TermOperands) → IsTree p.tree → IsTermOperand p.tree t → AreOperandsOf p.tree t o → AreTensors p o
tensors_of p (Product v) o tree is are = record {
  left_is = named_tensor p (left_tree (node p.tree v)) o.left.now are.1 (left_below (node p.tree v) (node_below p.tree v tree is.0)) (λ w same prepared. left_has w (node p.tree v) (at_node p v w is.0 same prepared));
  right_is = named_tensor p (right_tree (node p.tree v)) o.right.now are.2 (right_below (node p.tree v) (node_below p.tree v tree is.0)) (λ w same prepared. right_has w (node p.tree v) (at_node p v w is.0 same prepared));
}
tensors_of p (Left v) o tree is are =
    let left = named_tensor p (left_tree (node p.tree v)) o.left.now are.1 (left_below (node p.tree v) (node_below p.tree v tree is.0)) (λ w same prepared. left_has w (node p.tree v) (at_node p v w is.0 same prepared)) in
    record { left_is = left; right_is = subst (IsTensor p) (sym are.2) left }
tensors_of p (Right v) o tree is are =
    let left = named_tensor p (right_tree (node p.tree v)) o.left.now are.1 (right_below (node p.tree v) (node_below p.tree v tree is.0)) (λ w same prepared. right_has w (node p.tree v) (at_node p v w is.0 same prepared)) in
    record { left_is = left; right_is = subst (IsTensor p) (sym are.2) left }

-- where the numbers of the operand's dims are
pub record AreInReach (space : IndexSpace) (loops : List ℕ) (a : Assignment) (o : TermOperands) : Type 0 where
  pub left_in : IsInReach space loops a o.left.now
  pub right_in : IsInReach space loops a o.right.now

pub reach_of : (p : Places) (loops : List ℕ) (a : Assignment) (t : TermOperand) (o : TermOperands) → IsTree p.tree → IsTermOperand p.tree t → AreOperandsOf p.tree t o
    → ((i : ℕ) → has (dims (operand_tree p.tree t)) i ≡ true → (among loops i ≡ true) ⊎ (a i < extent_at p.space i)) → AreInReach p.space loops a o
reach_of p loops a (Product v) o tree is are inside = record {
  left_in = named_reach p.space loops a (left_tree (node p.tree v)) o.left.now are.1 (left_below (node p.tree v) (node_below p.tree v tree is.0)) (λ i m. inside i (left_dims (node p.tree v) is.1 i m));
  right_in = named_reach p.space loops a (right_tree (node p.tree v)) o.right.now are.2 (right_below (node p.tree v) (node_below p.tree v tree is.0)) (λ i m. inside i (right_dims (node p.tree v) is.1 i m));
}
reach_of p loops a (Left v) o tree is are inside =
    let left = named_reach p.space loops a (left_tree (node p.tree v)) o.left.now are.1 (left_below (node p.tree v) (node_below p.tree v tree is.0)) inside in
    record { left_in = left; right_in = subst (IsInReach p.space loops a) (sym are.2) left }
reach_of p loops a (Right v) o tree is are inside =
    let left = named_reach p.space loops a (right_tree (node p.tree v)) o.left.now are.1 (right_below (node p.tree v) (node_below p.tree v tree is.0)) inside in
    record { left_in = left; right_in = subst (IsInReach p.space loops a) (sym are.2) left }

pub value_of : (e : Elements) (tree : ContractionTree) (t : TermOperand) (o : TermOperands) (a : Assignment) → IsTermOperand tree t → AreOperandsOf tree t o → term_value e o a ≡ value e (operand_tree tree t) a
value_of e tree (Product v) o a is are =
    ap (λ q. if q then wrapping_mul (element_value e o.left.now a) (element_value e o.right.now a) else element_value e o.left.now a) are.0
    ∙ ap₂ wrapping_mul (named_value e (left_tree (node tree v)) o.left.now a are.1) (named_value e (right_tree (node tree v)) o.right.now a are.2)
    ∙ product_value e (node tree v) a is.1
value_of e tree (Left v) o a is are =
    ap (λ q. if q then wrapping_mul (element_value e o.left.now a) (element_value e o.right.now a) else element_value e o.left.now a) are.0
    ∙ named_value e (left_tree (node tree v)) o.left.now a are.1
value_of e tree (Right v) o a is are =
    ap (λ q. if q then wrapping_mul (element_value e o.left.now a) (element_value e o.right.now a) else element_value e o.left.now a) are.0
    ∙ named_value e (right_tree (node tree v)) o.left.now a are.1

-- ---- the names of nodes' operands

name_of : (first : ℕ) (c : ContractionTree) (o : Operand) → IsTensorTree c → o ≡ operand_of first c → IsNameOf c o
name_of first (leaf t is) o tensor e = e
name_of first (constant k) o tensor e = absurd tensor
name_of first (binary op l r) o tensor e = absurd tensor
name_of first (sum is c) o tensor e = absurd tensor

left_named : (n : ContractionTree) (first : ℕ) (o : Operand) → IsTensorTree (left_tree n) → o ≡ left_operand first n → IsNameOf (left_tree n) o
left_named (leaf t is) first o tensor e = absurd tensor
left_named (constant k) first o tensor e = absurd tensor
left_named (binary op l r) first o tensor e = name_of first l o tensor e
left_named (sum is c) first o tensor e = name_of first c o tensor e

right_named : (n : ContractionTree) (first : ℕ) (o : Operand) → IsTensorTree (right_tree n) → right_operand first n ≡ Some o → IsNameOf (right_tree n) o
right_named (leaf t is) first o tensor e = absurd tensor
right_named (constant k) first o tensor e = absurd tensor
right_named (binary op l r) first o tensor e = let same : o ≡ operand_of (first + operations l) r = cc in name_of (first + operations l) r o tensor same
right_named (sum is c) first o tensor e = absurd tensor

pub left_name : (tree : ContractionTree) (v : ℕ) (o : Operand) → IsTensorTree (left_tree (node tree v)) → o ≡ left_of tree v → IsNameOf (left_tree (node tree v)) o
unfolding left_of
left_name tree v o tensor e = left_named (node tree v) (first_number_of tree v) o tensor e

pub right_name : (tree : ContractionTree) (v : ℕ) (o : Operand) → IsTensorTree (right_tree (node tree v)) → right_of tree v ≡ Some o → IsNameOf (right_tree (node tree v)) o
unfolding right_of
right_name tree v o tensor e = right_named (node tree v) (first_number_of tree v) o tensor e

-- a node whose right side is a tensor has a right operand
some_right : (n : ContractionTree) (first : ℕ) → IsTensorTree (right_tree n) → right_operand first n ≡ None → ⊥
some_right (leaf t is) first tensor none = tensor
some_right (constant k) first tensor none = tensor
some_right (binary op l r) first tensor none = cc
some_right (sum is c) first tensor none = tensor

pub right_is_some : (tree : ContractionTree) (v : ℕ) → IsTensorTree (right_tree (node tree v)) → right_of tree v ≡ None → ⊥
unfolding right_of
right_is_some tree v tensor none = some_right (node tree v) (first_number_of tree v) tensor none
