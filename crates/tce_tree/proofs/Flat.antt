-- The program's list of nodes says of each node what the tree says.
use Rattle.std.proofs.Common.{◌≡◌, ℕ, ◌+◌, ◌-◌, ◌<◌, ◌≤◌, List, [], ◌∷◌, ◌++◌, length, get_or, refl, sym, ap, ◌∙◌, subst, inl, inr, arith, length-append, append_assoc, append-nil, zero-add}
use Rattle.std.proofs.lemmas.List.{get_or_append_left, get_or-append_right}
use Rattle.std.proofs.lemmas.Bool.{cases_lt}
use Rattle.tce_tree.specs.ContractionTree.{ContractionTree, Arithmetic, leaf, constant, binary, sum, multiply, add, subtract, operations, node}
use Rattle.tce_tree.specs.TreeCode.{top}
use Rattle.tce_tree.specs.FlatTree.{flat, node_of, operand_of, operand_tree, operand_rest, put_nodes, tree_of_nodes, first_number_of, operation_of, left_operand, right_operand, IsTree, AreNodes, kind_of, arithmetic_kind}
use Rattle.std.proofs.Common.{Some, None}
use Rattle.arrayvec.specs.ArrayVec.{ArrayVec}
use Rattle.tce_tree.specs.declared.node.Operand.{Operand}
use Rattle.tce_tree.specs.declared.node.Operation.TheVariants.{Binary, Sum}
use Rattle.tce_tree.specs.declared.node.Kind.TheVariants.{Sum as SumKind}
use Rattle.tce_tree.specs.declared.node.Node.{Node}
use Rattle.tce_tree.proofs.Nodes.{size, node-left, node-right_at, node-operand, node-root, in_left, in_right, at_root, part}

pub length-flat : (first : ℕ) (tree : ContractionTree) → length (flat first tree) ≡ operations tree
length-flat first (leaf t is) = refl
length-flat first (constant n) = refl
length-flat first (binary op l r) =
    omega (
      arith,
      length-append (flat first l) (flat (first + operations l) r ++ node_of first (binary op l r) ∷ []),
      length-append (flat (first + operations l) r) (node_of first (binary op l r) ∷ []),
      length-flat first l,
      length-flat (first + operations l) r,
    )
length-flat first (sum is e) = omega (arith, length-append (flat first e) (node_of first (sum is e) ∷ []), length-flat first e)

pub last_one : {A : Type 0} (xs : List A) (x d : A) (v : ℕ) → v ≡ length xs → get_or (xs ++ x ∷ []) v d ≡ x
last_one xs x d v e = get_or-append_right xs (x ∷ []) (length xs) v d refl (omega arith) ∙ ap (λ k. get_or (x ∷ []) k d) zero_left
  where
    zero_left : v - length xs ≡ 0
    zero_left = omega arith

-- what stands at a number
pub flat_at : (first : ℕ) (tree : ContractionTree) (v : ℕ) (d : Node) → v < operations tree
    → get_or (flat first tree) v d ≡ node_of (first + v + 1 - size tree v) (node tree v)
flat_at first (leaf t is) v d h = absurd (omega arith)
flat_at first (constant n) v d h = absurd (omega arith)
flat_at first (binary op l r) v d h =
    elim (part l r v h) [
      | in_left a ↦
          get_or_append_left (flat first l) (flat (first + operations l) r ++ node_of first (binary op l r) ∷ []) d v (omega (arith, length-flat first l))
          ∙ flat_at first l v d a
          ∙ ap (λ t. node_of (first + v + 1 - operations t) t) (sym (node-left op l r v a))
      | in_right a b ↦
          get_or-append_right (flat first l) (flat (first + operations l) r ++ node_of first (binary op l r) ∷ []) (operations l) v d (length-flat first l) a
          ∙ get_or_append_left (flat (first + operations l) r) (node_of first (binary op l r) ∷ []) d (v - operations l) (omega (arith, length-flat (first + operations l) r))
          ∙ flat_at (first + operations l) r (v - operations l) d (omega arith)
          ∙ ap (λ k. node_of (k - size r (v - operations l)) (node r (v - operations l))) (shift a)
          ∙ ap (λ t. node_of (first + v + 1 - operations t) t) (sym (node-right_at op l r v a b))
      | at_root e ↦
          ap (λ xs. get_or xs v d) (sym (append_assoc (flat first l) (flat (first + operations l) r) (node_of first (binary op l r) ∷ [])))
          ∙ last_one (flat first l ++ flat (first + operations l) r) (node_of first (binary op l r)) d v
          (omega (arith, length-append (flat first l) (flat (first + operations l) r), length-flat first l, length-flat (first + operations l) r))
          ∙ ap (λ k. node_of k (binary op l r)) (whole e)
          ∙ ap (λ t. node_of (first + v + 1 - operations t) t) (sym (node-root (binary op l r) v (omega arith)))
    ]
  where
    shift : operations l ≤ v → first + operations l + (v - operations l) + 1 ≡ first + v + 1
    shift a = omega arith

    whole : v ≡ operations l + operations r → first ≡ first + v + 1 - operations (binary op l r)
    whole e = omega arith
flat_at first (sum is e) v d h =
    elim (cases_lt v (operations e)) [
      | inl a ↦
          get_or_append_left (flat first e) (node_of first (sum is e) ∷ []) d v (omega (arith, length-flat first e))
          ∙ flat_at first e v d a
          ∙ ap (λ t. node_of (first + v + 1 - operations t) t) (sym (node-operand is e v a))
      | inr a ↦
          last_one (flat first e) (node_of first (sum is e)) d v (omega (arith, length-flat first e))
          ∙ ap (λ k. node_of k (sum is e)) (whole a)
          ∙ ap (λ t. node_of (first + v + 1 - operations t) t) (sym (node-root (sum is e) v (omega arith)))
    ]
  where
    whole : operations e ≤ v → first ≡ first + v + 1 - operations (sum is e)
    whole a = omega arith

-- the stack after the nodes of an operand
pushed : ContractionTree → List ContractionTree → List ContractionTree
pushed (leaf t is) stack = stack
pushed (constant n) stack = stack
pushed (binary op l r) stack = binary op l r ∷ stack
pushed (sum is e) stack = sum is e ∷ stack

operand_tree-pushed : (first : ℕ) (tree : ContractionTree) (stack : List ContractionTree) → operand_tree (operand_of first tree) (pushed tree stack) ≡ tree
unfolding pushed
operand_tree-pushed first (leaf t is) stack = refl
operand_tree-pushed first (constant n) stack = refl
operand_tree-pushed first (binary op l r) stack = refl
operand_tree-pushed first (sum is e) stack = refl

operand_rest-pushed : (first : ℕ) (tree : ContractionTree) (stack : List ContractionTree) → operand_rest (operand_of first tree) (pushed tree stack) ≡ stack
unfolding pushed
operand_rest-pushed first (leaf t is) stack = refl
operand_rest-pushed first (constant n) stack = refl
operand_rest-pushed first (binary op l r) stack = refl
operand_rest-pushed first (sum is e) stack = refl

put_nodes-flat : (first : ℕ) (tree : ContractionTree) (rest : List Node) (stack : List ContractionTree)
    → put_nodes (flat first tree ++ rest) stack ≡ put_nodes rest (pushed tree stack)
unfolding pushed
put_nodes-flat first (leaf t is) rest stack = refl
put_nodes-flat first (constant n) rest stack = refl
put_nodes-flat first (binary op l r) rest stack =
    ap (λ xs. put_nodes xs stack) (append_assoc (flat first l) (flat (first + operations l) r ++ node_of first (binary op l r) ∷ []) rest)
    ∙ put_nodes-flat first l ((flat (first + operations l) r ++ node_of first (binary op l r) ∷ []) ++ rest) stack
    ∙ ap (λ xs. put_nodes xs (pushed l stack)) (append_assoc (flat (first + operations l) r) (node_of first (binary op l r) ∷ []) rest)
    ∙ put_nodes-flat (first + operations l) r (node_of first (binary op l r) ∷ rest) (pushed l stack)
    ∙ ap (λ s. put_nodes rest s)
    (rw (operand_rest-pushed (first + operations l) r (pushed l stack), operand_tree-pushed (first + operations l) r (pushed l stack), operand_tree-pushed first l stack, operand_rest-pushed first l stack) refl)
put_nodes-flat first (sum is e) rest stack =
    ap (λ xs. put_nodes xs stack) (append_assoc (flat first e) (node_of first (sum is e) ∷ []) rest)
    ∙ put_nodes-flat first e (node_of first (sum is e) ∷ rest) stack
    ∙ ap (λ s. put_nodes rest s) (rw (operand_tree-pushed first e stack, operand_rest-pushed first e stack) refl)

-- the list gives the tree back
pub tree_of_nodes-flat : (tree : ContractionTree) → 0 < operations tree → tree_of_nodes (flat 0 tree) ≡ tree
unfolding pushed
tree_of_nodes-flat (leaf t is) h = absurd (omega arith)
tree_of_nodes-flat (constant n) h = absurd (omega arith)
tree_of_nodes-flat (binary op l r) h = ap (λ xs. tree_of_nodes xs) (sym (append-nil (flat 0 (binary op l r)))) ∙ ap top (put_nodes-flat 0 (binary op l r) [] [])
tree_of_nodes-flat (sum is e) h = ap (λ xs. tree_of_nodes xs) (sym (append-nil (flat 0 (sum is e)))) ∙ ap top (put_nodes-flat 0 (sum is e) [] [])

-- what the program's list says of the tree that it stands for
pub kept_length : (items : List Node) (tree : ContractionTree) → items ≡ flat 0 (tree_of_nodes items) → tree_of_nodes items ≡ tree
    → length items ≡ operations tree
kept_length items tree e is = ap length e ∙ length-flat 0 (tree_of_nodes items) ∙ ap operations is

pub kept_tree : (items : List Node) (tree : ContractionTree) → AreNodes items → tree_of_nodes items ≡ tree → IsTree tree
kept_tree items tree a is = subst IsTree is a.is_tree

pub kept_at : (items : List Node) (tree : ContractionTree) → items ≡ flat 0 (tree_of_nodes items) → tree_of_nodes items ≡ tree
    → (v : ℕ) (d : Node) → v < operations tree → get_or items v d ≡ node_of (first_number_of tree v) (node tree v)
unfolding first_number_of
kept_at items tree e is v d h =
    ap (λ xs. get_or xs v d) (e ∙ ap (flat 0) is) ∙ flat_at 0 tree v d h ∙ ap (λ k. node_of (k + 1 - size tree v) (node tree v)) (zero-add v)

-- what a node computes, and its operands, as the program's list says it
pub kind_when_binary : (first : ℕ) (tree : ContractionTree) (op : Arithmetic) (a b : Operand) → operation_of first tree ≡ Binary op a b
    → arithmetic_kind op ≡ kind_of tree
kind_when_binary first (leaf t is) op a b e = cc
kind_when_binary first (constant n) op a b e = cc
kind_when_binary first (binary kind l r) op a b e =
    let s : kind ≡ op = cc in ap arithmetic_kind (sym s)
kind_when_binary first (sum is x) op a b e = cc

pub no_sum_when_binary : (first : ℕ) (tree : ContractionTree) (op : Arithmetic) (a b : Operand) → operation_of first tree ≡ Binary op a b → kind_of tree ≡ SumKind → ⊥
no_sum_when_binary first (leaf t is) op a b e k = cc
no_sum_when_binary first (constant n) op a b e k = cc
no_sum_when_binary first (binary multiply l r) op a b e k = cc
no_sum_when_binary first (binary add l r) op a b e k = cc
no_sum_when_binary first (binary subtract l r) op a b e k = cc
no_sum_when_binary first (sum is x) op a b e k = cc

pub kind_when_sum : (first : ℕ) (tree : ContractionTree) (is : ArrayVec ℕ) (a : Operand) → operation_of first tree ≡ Sum is a → SumKind ≡ kind_of tree
kind_when_sum first (leaf t js) is a e = refl
kind_when_sum first (constant n) is a e = refl
kind_when_sum first (binary op l r) is a e = cc
kind_when_sum first (sum js x) is a e = refl

pub left_when_binary : (first : ℕ) (tree : ContractionTree) (op : Arithmetic) (a b : Operand) → operation_of first tree ≡ Binary op a b → a ≡ left_operand first tree
left_when_binary first (leaf t is) op a b e = cc
left_when_binary first (constant n) op a b e = cc
left_when_binary first (binary kind l r) op a b e = cc
left_when_binary first (sum is x) op a b e = cc

pub right_when_binary : (first : ℕ) (tree : ContractionTree) (op : Arithmetic) (a b : Operand) → operation_of first tree ≡ Binary op a b → Some b ≡ right_operand first tree
right_when_binary first (leaf t is) op a b e = cc
right_when_binary first (constant n) op a b e = cc
right_when_binary first (binary kind l r) op a b e = let s : operand_of (first + operations l) r ≡ b = cc in ap Some (sym s)
right_when_binary first (sum is x) op a b e = cc

pub left_when_sum : (first : ℕ) (tree : ContractionTree) (is : ArrayVec ℕ) (a : Operand) → operation_of first tree ≡ Sum is a → a ≡ left_operand first tree
left_when_sum first (leaf t js) is a e = cc
left_when_sum first (constant n) is a e = cc
left_when_sum first (binary op l r) is a e = cc
left_when_sum first (sum js x) is a e = cc

pub right_when_sum : (first : ℕ) (tree : ContractionTree) (is : ArrayVec ℕ) (a : Operand) → operation_of first tree ≡ Sum is a → None ≡ right_operand first tree
right_when_sum first (leaf t js) is a e = refl
right_when_sum first (constant n) is a e = refl
right_when_sum first (binary op l r) is a e = cc
right_when_sum first (sum js x) is a e = refl
