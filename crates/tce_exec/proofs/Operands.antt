-- Where the operands of a node and the places of nodes stand, at numbers of the node's loops.
use Rattle.std.proofs.Common.{◌≡◌, ℕ, ◌+◌, ◌<◌, true, false, not, ◌||◌, Some, refl, sym, ap, ◌∙◌, subst, arith}
use Rattle.std.proofs.lemmas.Bool.{and_parts, or_left, or_right, true≢false}
use Rattle.tce_space.specs.IndexSet.{has, set_of}
use Rattle.tce_space.proofs.IndexSetLaws.{has-minus}
use Rattle.tce_tree.specs.ContractionTree.{ContractionTree, leaf, constant, binary, sum, dims, is_leaf, operations, node, node_loops, left_tree, right_tree, parent}
use Rattle.tce_tree.specs.FlatTree.{IsTree, operand_of, left_operand, right_operand, first_number_of, left_of, right_of}
use Rattle.tce_tree.specs.Value.{Assignment}
use Rattle.tce_tree.specs.declared.node.Operand.{Operand}
use Rattle.tce_tree.specs.declared.node.Operand.TheVariants.{Leaf, Constant, Node}
use Rattle.tce_tree.proofs.Nodes.{size_bounds}
use Rattle.tce_tree.proofs.Operands.{left_is_before, right_is_before}
use Rattle.tce_tree.proofs.Parents.{dims_within_loops}
use Rattle.tce_code.specs.Generation.{computing}
use Rattle.tce_code.specs.Shape.{IsSum}
use Rattle.tce_code.proofs.Emitted.{node-not_leaf}
use Rattle.tce_exec.specs.NodeStates.{root}
use Rattle.tce_walk.specs.Tails.{is_constant, reads_constant}
use Rattle.tce_walk.specs.Machine.{operation_of_node, IsNodeAt}
use Rattle.tce_walk.proofs.Searching.{sum-node}
use Rattle.tce_walk.proofs.KnownTails.{child-is}
use Rattle.tce_exec.specs.Workspace.{Workspace, setting_in}
use Rattle.tce_exec.specs.Prepared.{IsPrepared}
use Rattle.tce_exec.specs.Operands.{IsPlaceOf, IsReadable}
use Rattle.tce_exec.proofs.Operating.{readable_left, readable_right, kept_in_dims}
use Rattle.tce_exec.specs.Windows.{HasPlace}

-- ---- operands but constants

constant_is : (first : ℕ) (c : ContractionTree) (k : ℕ) → operand_of first c ≡ Constant k → is_constant c ≡ true
constant_is first (leaf t is) k e = absurd (cc)
constant_is first (constant n) k e = refl
constant_is first (binary op l r) k e = absurd (cc)
constant_is first (sum is c) k e = absurd (cc)

left_constant : (first : ℕ) (n : ContractionTree) (k : ℕ) → is_leaf n ≡ false → left_operand first n ≡ Constant k → is_constant (left_tree n) ≡ true
left_constant first (leaf t is) k inner e = absurd (true≢false inner)
left_constant first (constant m) k inner e = absurd (true≢false inner)
left_constant first (binary op l r) k inner e = constant_is first l k e
left_constant first (sum is c) k inner e = constant_is first c k e

right_constant : (first : ℕ) (n : ContractionTree) (k : ℕ) → right_operand first n ≡ Some (Constant k) → is_constant (right_tree n) ≡ true
right_constant first (leaf t is) k e = absurd (cc)
right_constant first (constant m) k e = absurd (cc)
right_constant first (binary op l r) k e = constant_is (first + operations l) r k (cc)
right_constant first (sum is c) k e = absurd (cc)

-- which the operation of a node would read
left_read : (tree n : ContractionTree) (v : ℕ) → is_leaf n ≡ false → is_constant (left_tree (node tree v)) ≡ true → reads_constant tree (computing n v) ≡ true
left_read tree (leaf t is) v inner e = absurd (true≢false inner)
left_read tree (constant m) v inner e = absurd (true≢false inner)
left_read tree (binary op l r) v inner e =
    or_left (is_constant (left_tree (node tree v)) || is_constant (right_tree (node tree v))) false (or_left (is_constant (left_tree (node tree v))) (is_constant (right_tree (node tree v))) e)
left_read tree (sum is c) v inner e = or_left (is_constant (left_tree (node tree v))) false e

right_read : (tree n : ContractionTree) (v : ℕ) (o : Operand) (first : ℕ) → right_operand first n ≡ Some o → is_constant (right_tree (node tree v)) ≡ true → reads_constant tree (computing n v) ≡ true
right_read tree (leaf t is) v o first is_some e = absurd (cc)
right_read tree (constant m) v o first is_some e = absurd (cc)
right_read tree (binary op l r) v o first is_some e =
    or_left (is_constant (left_tree (node tree v)) || is_constant (right_tree (node tree v))) false (or_right (is_constant (left_tree (node tree v))) (is_constant (right_tree (node tree v))) e)
right_read tree (sum is c) v o first is_some e = absurd (cc)

placed : (x : Workspace) (v : ℕ) (o : Operand) (a : Assignment) → v < operations x.places.tree → ((u : ℕ) → o ≡ Node u → u < v) → ((k : ℕ) → o ≡ Constant k → ⊥) → IsReadable x o a → HasPlace x o a
placed x v (Leaf l) a known before free h = h
placed x v (Constant k) a known before free h = free k refl
placed x v (Node u) a known before free h =
    let low : u < v = before u refl in
    record { inner = omega (arith, low, known); inside = h.inside }

pub left_place : (x : Workspace) (v : ℕ) (a : Assignment) → IsTree x.places.tree → IsPrepared x → IsNodeAt (setting_in x) v a
    → reads_constant x.places.tree (operation_of_node x.places.tree v) ≡ false → HasPlace x (left_of x.places.tree v) a
unfolding left_of
left_place x v a tree is at free =
    placed x v (left_of x.places.tree v) a at.known
    (λ u e. left_is_before x.places.tree v (Node u) at.known (sym e))
    (λ k e. true≢false (sym (left_read x.places.tree (node x.places.tree v) v (node-not_leaf x.places.tree v at.known)
    (left_constant (first_number_of x.places.tree v) (node x.places.tree v) k (node-not_leaf x.places.tree v at.known) e)) ∙ free))
    (readable_left x v a tree is at)

pub right_place : (x : Workspace) (v : ℕ) (a : Assignment) (o : Operand) → IsTree x.places.tree → IsPrepared x → IsNodeAt (setting_in x) v a
    → reads_constant x.places.tree (operation_of_node x.places.tree v) ≡ false → right_of x.places.tree v ≡ Some o → HasPlace x o a
unfolding right_of
right_place x v a o tree is at free right =
    placed x v o a at.known
    (λ u e. right_is_before x.places.tree v (Node u) at.known (sym (right ∙ ap (λ p. Some p) e)))
    (λ k e. true≢false (sym (right_read x.places.tree (node x.places.tree v) v o (first_number_of x.places.tree v) right
    (right_constant (first_number_of x.places.tree v) (node x.places.tree v) k (right ∙ ap (λ p. Some p) e))) ∙ free))
    (readable_right x v a o tree is at right)

-- ---- the place of the root

pub place_at_root : (x : Workspace) (v : ℕ) (a : Assignment) → v + 1 ≡ operations x.places.tree → IsPlaceOf x v a → IsPlaceOf x (root x.places) a
place_at_root x v a last h = let same : v ≡ root x.places = omega (arith, last) in subst (λ u. IsPlaceOf x u a) same h

-- ---- the places of a sum and of its operand

sum_dims : (tree : ContractionTree) (u v i : ℕ) → u < operations tree → v < operations tree → parent tree u ≡ Some v → IsSum (node tree v)
    → has (dims (node tree v)) i ≡ true → has (dims (node tree u)) i ≡ true
sum_dims tree u v i u_in v_in up sums h =
    let s = sum-node (node tree v) sums in
    let within : has (dims (sum s.0 s.1)) i ≡ true = subst (λ c. has (dims c) i ≡ true) s.2 h in
    subst (λ c. has (dims c) i ≡ true) (sym (child-is tree u v s.0 s.1 s.2 u_in v_in up))
    (and_parts (has (dims s.1) i) (not (has (set_of s.0) i)) (sym (has-minus (dims s.1) (set_of s.0) i) ∙ within)).0

-- the place of a sum at numbers of the loops of its operand
pub sum_place : (x : Workspace) (u v : ℕ) (a : Assignment) → IsNodeAt (setting_in x) u a → v < operations x.places.tree → parent x.places.tree u ≡ Some v → IsSum (node x.places.tree v) → IsPlaceOf x v a
unfolding node_loops
sum_place x u v a at known up sums = record {
  known = known;
  inside = λ i h. at.inside i (dims_within_loops (node x.places.tree u) i (size_bounds x.places.tree u at.known).0
      (sum_dims x.places.tree u v i at.known known up sums (kept_in_dims x.places.tree x.places.fusion v i h)));
}
