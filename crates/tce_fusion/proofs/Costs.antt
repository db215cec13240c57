-- The costs of states are the sizes of their subtrees' nodes, so those at the root add up to the memory.
use Rattle.std.proofs.Common.{◌≡◌, ℕ, zero, suc, ◌+◌, ◌-◌, ◌<◌, true, false, List, ◌∷◌, ◌++◌, sum_by, refl, sym, ap, ◌∙◌, inl, inr, arith}
use Rattle.std.specs.List.{range_with_len}
use Rattle.std.proofs.lemmas.Bool.{cases_Bool, false≢true, true≢false}
use Rattle.std.proofs.lemmas.List.Sums.{sum_by-append}
use Rattle.tce_space.specs.IndexSet.{minus}
use Rattle.tce_space.specs.Space.{IndexSpace, volume_of}
use Rattle.tce_tree.specs.ContractionTree.{ContractionTree, leaf, constant, binary, sum, is_leaf, left_tree, right_tree, dims, operations, node_dims}
use Rattle.tce_tree.proofs.Operands.{Stands, stands-whole}
use Rattle.tce_tree.specs.Fusion.{kept_dims}
use Rattle.tce_tree.specs.Memory.{memory, size_at, size_before}
use Rattle.tce_tree.proofs.Nodes.{operations-leaf}
use Rattle.tce_fusion.specs.State.{root_number, first_right, fused_at_root, size_left, cost, operands_cost}
use Rattle.tce_fusion.proofs.Operands.{by_operands, operations-node, node-at_root, left_operand_at, right_operand_at}

range-append : (a m n : ℕ) → range_with_len a (m + n) ≡ range_with_len a m ++ range_with_len (a + m) n
range-append a zero n =
    let start : 0 + n ≡ n = omega arith in
    let here : a + 0 ≡ a = omega arith in
    ap (range_with_len a) start ∙ sym (ap (λ k. range_with_len k n) here)
range-append a (suc m) n =
    let there : suc m + n ≡ suc (m + n) = omega arith in
    let here : a + 1 + m ≡ a + suc m = omega arith in
    ap (range_with_len a) there ∙ ap (λ xs. a ∷ xs) (range-append (a + 1) m n ∙ ap (λ k. range_with_len (a + 1) m ++ range_with_len k n) here)

sum-split : (f : ℕ → ℕ) (a m n : ℕ) → sum_by f (range_with_len a (m + n)) ≡ sum_by f (range_with_len a m) + sum_by f (range_with_len (a + m) n)
sum-split f a m n = ap (sum_by f) (range-append a m n) ∙ sum_by-append f (range_with_len a m) (range_with_len (a + m) n)

pub cost-leaf : (space : IndexSpace) (fusion : List ℕ) (first : ℕ) (c : ContractionTree) → is_leaf c ≡ true → cost space fusion first c ≡ 0
cost-leaf space fusion first (leaf tensor indexes) h = refl
cost-leaf space fusion first (constant number) h = refl
cost-leaf space fusion first (binary op l r) h = absurd (false≢true h)
cost-leaf space fusion first (sum indexes e) h = absurd (false≢true h)

pub cost-node : (space : IndexSpace) (fusion : List ℕ) (first : ℕ) (c : ContractionTree) → is_leaf c ≡ false
    → cost space fusion first c ≡ operands_cost space fusion first c + size_left space c (fused_at_root fusion first c)
cost-node space fusion first (leaf tensor indexes) h = absurd (true≢false h)
cost-node space fusion first (constant number) h = absurd (true≢false h)
cost-node space fusion first (binary op l r) h = refl
cost-node space fusion first (sum indexes e) h = omega arith

size-at_root : (space : IndexSpace) (tree : ContractionTree) (fusion : List ℕ) (first : ℕ) (c : ContractionTree) → Stands tree first c → 0 < operations c
    → size_at space tree fusion (root_number first c) ≡ size_left space c (fused_at_root fusion first c)
unfolding size_at kept_dims node_dims
size-at_root space tree fusion first c st some =
    ap (λ t. volume_of space (minus (dims t) (fused_at_root fusion first c))) (node-at_root tree first c st some)

-- the sum of the sizes of a subtree's nodes
abbrev IsSum : IndexSpace → ContractionTree → List ℕ → ContractionTree → Type 0
IsSum space tree fusion c = (first : ℕ) → Stands tree first c → cost space fusion first c ≡ sum_by (size_at space tree fusion) (range_with_len first (operations c))

operands_sum : (space : IndexSpace) (tree : ContractionTree) (fusion : List ℕ) (c : ContractionTree) → is_leaf c ≡ false → IsSum space tree fusion (left_tree c) → IsSum space tree fusion (right_tree c)
    → (first : ℕ) → Stands tree first c → operands_cost space fusion first c ≡ sum_by (size_at space tree fusion) (range_with_len first (operations (left_tree c) + operations (right_tree c)))
operands_sum space tree fusion c node_c left right first st =
    let at_left = left first (left_operand_at tree first c node_c st).stands in
    let at_right = right (first_right first c) (right_operand_at tree first c node_c st).stands in
    omega (arith, at_left, at_right, sum-split (size_at space tree fusion) first (operations (left_tree c)) (operations (right_tree c)))

cost-sum : (space : IndexSpace) (tree : ContractionTree) (fusion : List ℕ) (c : ContractionTree) → IsSum space tree fusion c
cost-sum space tree fusion c = by_operands (IsSum space tree fusion) at_leaf at_node c
  where
    at_leaf : (t : ContractionTree) → is_leaf t ≡ true → IsSum space tree fusion t
    at_leaf t leaf_t first st =
        cost-leaf space fusion first t leaf_t ∙ sym (ap (λ n. sum_by (size_at space tree fusion) (range_with_len first n)) (operations-leaf t leaf_t))

    at_node : (t : ContractionTree) → is_leaf t ≡ false → IsSum space tree fusion (left_tree t) → IsSum space tree fusion (right_tree t) → IsSum space tree fusion t
    at_node t node_t left right first st =
        let count = operations-node t node_t in
        let below = operations (left_tree t) + operations (right_tree t) in
        let number : first + (operations (left_tree t) + operations (right_tree t)) ≡ root_number first t = omega arith in
        let last : sum_by (size_at space tree fusion) (range_with_len (first + (operations (left_tree t) + operations (right_tree t))) 1) ≡ size_left space t (fused_at_root fusion first t) =
        ap (λ k. sum_by (size_at space tree fusion) (range_with_len k 1)) number ∙ one (root_number first t) ∙ size-at_root space tree fusion first t st (omega arith) in
        cost-node space fusion first t node_t
        ∙ sym (ap (λ n. sum_by (size_at space tree fusion) (range_with_len first n)) count
        ∙ sum-split (size_at space tree fusion) first (operations (left_tree t) + operations (right_tree t)) 1
        ∙ omega (arith, last, operands_sum space tree fusion t node_t left right first st))
      where
        one : (k : ℕ) → sum_by (size_at space tree fusion) (range_with_len k 1) ≡ size_at space tree fusion k
        one k = omega arith

pub costs_add_up : (space : IndexSpace) (tree : ContractionTree) (fusion : List ℕ) → operands_cost space fusion 0 tree ≡ memory space tree fusion
unfolding memory size_before
costs_add_up space tree fusion = elim (cases_Bool (is_leaf tree)) [ inl leaf_tree ↦ of_leaf tree leaf_tree | inr node_tree ↦ of_node node_tree ]
  where
    of_leaf : (t : ContractionTree) → is_leaf t ≡ true → operands_cost space fusion 0 t ≡ sum_by (size_at space t fusion) (range_with_len 0 (operations t - 1))
    of_leaf (leaf tensor indexes) h = refl
    of_leaf (constant number) h = refl
    of_leaf (binary op l r) h = absurd (false≢true h)
    of_leaf (sum indexes e) h = absurd (false≢true h)

    of_node : is_leaf tree ≡ false → operands_cost space fusion 0 tree ≡ sum_by (size_at space tree fusion) (range_with_len 0 (operations tree - 1))
    of_node h =
        let count : operations (left_tree tree) + operations (right_tree tree) ≡ operations tree - 1 = omega (arith, operations-node tree h) in
        operands_sum space tree fusion tree h (cost-sum space tree fusion (left_tree tree)) (cost-sum space tree fusion (right_tree tree)) 0 (stands-whole tree)
        ∙ ap (λ n. sum_by (size_at space tree fusion) (range_with_len 0 n)) count
