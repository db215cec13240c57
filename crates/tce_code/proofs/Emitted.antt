-- What the functions append is the list that the code of a tree spells.
use Rattle.std.proofs.Common.{◌≡◌, ℕ, suc, ◌+◌, ◌-◌, ◌*◌, ◌<◌, ◌≤◌, false, List, [], ◌∷◌, ◌++◌, length, get_or, drop, Option, Some, None, refl, sym, ap, ap₂, ◌∙◌, arith, append_assoc, append-nil, add-one}
use Rattle.std.proofs.lemmas.List.{drop_more, drop_all}
use Rattle.tce_space.specs.IndexSet.{count}
use Rattle.tce_tree.specs.ContractionTree.{ContractionTree, leaf, constant, binary, sum, multiply, add, subtract, is_leaf, operations, node}
use Rattle.tce_tree.specs.FlatTree.{first_number_of, left_of, right_of, left_operand, right_operand, operand_of, kind_of, IsBefore}
use Rattle.tce_tree.specs.declared.node.Operand.{Operand}
use Rattle.tce_tree.specs.declared.node.Operand.TheVariants.{Leaf, Constant, Node}
use Rattle.tce_tree.specs.declared.node.Kind.TheVariants.{Sum as SumKind}
use Rattle.tce_tree.proofs.Nodes.{size_bounds, node-root}
use Rattle.tce_tree.proofs.Operands.{Stands, stands-node, left_child, right_child, only_child}
use Rattle.tce_tree.specs.Fusion.{fused_at}
use Rattle.tce_code.specs.Emission.{computing_op, named_code, node_inner_code, node_loops_code}
use Rattle.tce_code.specs.Generation.{followed_by, nest, loops_from, clearing, computing, operand_code, inner_code, code_of}
use Rattle.tce_code.specs.Plan.{Plan}
use Rattle.tce_code.specs.Program.{Program, stop, step, loop, spelled, op_of}
use Rattle.tce_code.specs.declared.op.Op.{Op}
use Rattle.tce_code.specs.declared.op.Op.TheVariants.{Open, Close, Clear, Acc}
use Rattle.tce_code.proofs.Settled.{operand-here}

pub spelled-followed_by : (p q : Program) → spelled (followed_by p q) ≡ spelled p ++ spelled q
spelled-followed_by stop q = refl
spelled-followed_by (step action rest) q = ap (λ ops. op_of action ∷ ops) (spelled-followed_by rest q)
spelled-followed_by (loop i body rest) q =
    ap (λ ops. Open i ∷ (spelled body ++ Close ∷ ops)) (spelled-followed_by rest q)
    ∙ ap (λ ops. Open i ∷ ops) (sym (append_assoc (spelled body) (Close ∷ spelled rest) (spelled q)))

pub node-not_leaf : (tree : ContractionTree) (v : ℕ) → v < operations tree → is_leaf (node tree v) ≡ false
node-not_leaf tree v h = by_size (node tree v) (size_bounds tree v h).0
  where
    by_size : (c : ContractionTree) → 0 < operations c → is_leaf c ≡ false
    by_size (leaf t is) l = absurd (omega arith)
    by_size (constant n) l = absurd (omega arith)
    by_size (binary op l r) k = refl
    by_size (sum is e) k = refl

first_number-is : (tree : ContractionTree) (v first : ℕ) (c : ContractionTree) → node tree v ≡ c → v + 1 ≡ first + operations c → first_number_of tree v ≡ first
unfolding first_number_of
first_number-is tree v first c at num = ap (λ t. v + 1 - operations t) at ∙ number
  where
    number : v + 1 - operations c ≡ first
    number = omega arith

named-node : (tree : ContractionTree) (plan : Plan) (first : ℕ) (c : ContractionTree) (v depth : ℕ) → node tree v ≡ c → v + 1 ≡ first + operations c
    → named_code tree plan (Node v) depth ≡ operand_code plan c (first + operations c - 1) (inner_code plan first c) depth
named-node tree plan first c v depth at num =
    ap (λ t. operand_code plan t v (inner_code plan (first_number_of tree v) t) depth) at
    ∙ ap (λ k. operand_code plan c v (inner_code plan k c) depth) (first_number-is tree v first c at num)
    ∙ ap (λ u. operand_code plan c u (inner_code plan first c) depth) number
  where
    number : v ≡ first + operations c - 1
    number = omega arith

-- an operand of a tree, whose nodes are numbered from `first` on
named-is : (tree : ContractionTree) (plan : Plan) (first : ℕ) (c : ContractionTree) (depth : ℕ)
    → (0 < operations c → node tree (first + operations c - 1) ≡ c)
    → named_code tree plan (operand_of first c) depth ≡ operand_code plan c (first + operations c - 1) (inner_code plan first c) depth
named-is tree plan first (leaf t is) depth at = refl
named-is tree plan first (constant n) depth at = refl
named-is tree plan first (binary op l r) depth at =
    named-node tree plan first (binary op l r) (first + operations l + operations r) depth (ap (node tree) last ∙ at (omega arith)) (omega arith)
  where
    last : first + operations l + operations r ≡ first + operations (binary op l r) - 1
    last = omega arith
named-is tree plan first (sum is e) depth at =
    named-node tree plan first (sum is e) (first + operations e) depth (ap (node tree) last ∙ at (omega arith)) (omega arith)
  where
    last : first + operations e ≡ first + operations (sum is e) - 1
    last = omega arith

-- what the right operand adds, where there is one
abbrev pub right_spelled : ContractionTree → Plan → Option Operand → ℕ → List Op
right_spelled tree plan None depth = []
right_spelled tree plan (Some operand) depth = spelled (named_code tree plan operand depth)

inside-at : (tree : ContractionTree) (plan : Plan) (first : ℕ) (c : ContractionTree) (depth : ℕ) → Stands tree first c → 0 < operations c
    → spelled (inner_code plan first c depth)
    ≡ spelled (named_code tree plan (left_operand first c) depth) ++ right_spelled tree plan (right_operand first c) depth
inside-at tree plan first (leaf t is) depth st h = absurd (omega arith)
inside-at tree plan first (constant n) depth st h = absurd (omega arith)
inside-at tree plan first (binary op l r) depth st h =
    spelled-followed_by
    (operand_code plan l (first + operations l - 1) (inner_code plan first l) depth)
    (operand_code plan r (first + operations l + operations r - 1) (inner_code plan (first + operations l) r) depth)
    ∙ ap₂ (λ x y. spelled x ++ spelled y)
    (sym (named-is tree plan first l depth (λ m. (left_child tree first op l r st m).at)))
    (sym (named-is tree plan (first + operations l) r depth (λ m. (right_child tree first op l r st m).at)))
inside-at tree plan first (sum is e) depth st h =
    ap spelled (sym (named-is tree plan first e depth (λ m. (only_child tree first is e st m).at)))
    ∙ sym (append-nil (spelled (named_code tree plan (left_operand first (sum is e)) depth)))

-- the inside of a node is that of its operands
inside-named : (tree : ContractionTree) (plan : Plan) (v depth : ℕ) → v < operations tree
    → spelled (node_inner_code tree plan v depth)
    ≡ spelled (named_code tree plan (left_of tree v) depth) ++ right_spelled tree plan (right_of tree v) depth
unfolding left_of right_of
inside-named tree plan v depth h =
    inside-at tree plan (first_number_of tree v) (node tree v) depth (stands-node tree v h) (size_bounds tree v h).0

pub before-weaker : (operand : Operand) (a b : ℕ) → IsBefore a operand → a ≤ b → IsBefore b operand
before-weaker (Leaf l) a b h k = tt
before-weaker (Constant n) a b h k = tt
before-weaker (Node v) a b h k = omega arith

-- a node's inside is written before its loops, and after those of its operands
abbrev pub operand_measure : Operand → ℕ
operand_measure (Leaf l) = 0
operand_measure (Constant n) = 0
operand_measure (Node v) = 36 * v + 36

pub measure-before : (operand : Operand) (v : ℕ) → IsBefore v operand → operand_measure operand < 36 * v + 1
measure-before (Leaf l) v h = omega arith
measure-before (Constant n) v h = omega arith
measure-before (Node u) v h = omega arith

-- the list that the loops of a node spell, one loop on and at the end
pub loops-open : (inner : ℕ → Program) (order : List ℕ) (last : Program) (depth i : ℕ) (old inside opened within all : List Op)
    → depth < length order → i ≡ get_or order depth 0
    → inside ≡ old ++ spelled (inner depth) → opened ≡ inside ++ Open i ∷ []
    → within ≡ opened ++ spelled (nest inner (depth + 1) (drop (depth + 1) order) last) → all ≡ within ++ Close ∷ []
    → all ≡ old ++ spelled (nest inner depth (drop depth order) last)
loops-open inner order last depth i old inside opened within all l at e1 e2 e3 e4 =
    e4 ∙ ap (λ xs. xs ++ Close ∷ []) (e3 ∙ ap (λ xs. xs ++ spelled (nest inner (depth + 1) (drop (depth + 1) order) last)) (e2 ∙ ap (λ xs. xs ++ Open i ∷ []) e1))
    ∙ append_assoc ((old ++ spelled (inner depth)) ++ Open i ∷ []) (spelled (nest inner (depth + 1) (drop (depth + 1) order) last)) (Close ∷ [])
    ∙ append_assoc (old ++ spelled (inner depth)) (Open i ∷ []) (spelled (nest inner (depth + 1) (drop (depth + 1) order) last) ++ Close ∷ [])
    ∙ append_assoc old (spelled (inner depth)) (Open i ∷ (spelled (nest inner (depth + 1) (drop (depth + 1) order) last) ++ Close ∷ []))
    ∙ ap (λ xs. old ++ xs)
    (ap (λ d. spelled (inner depth) ++ (Open i ∷ (spelled (nest inner d (drop (depth + 1) order) last) ++ Close ∷ []))) (add-one depth)
    ∙ sym (spelled-followed_by (inner depth) (loop i (nest inner (suc depth) (drop (depth + 1) order) last) stop))
    ∙ ap (λ xs. spelled (nest inner depth xs last)) (sym (drop_more order depth 0 l ∙ ap (λ k. k ∷ drop (depth + 1) order) (sym at))))

pub loops-end : (inner : ℕ → Program) (order : List ℕ) (last : Program) (depth : ℕ) (op : Op) (old inside all : List Op)
    → length order ≤ depth → spelled last ≡ op ∷ [] → inside ≡ old ++ spelled (inner depth) → all ≡ inside ++ op ∷ []
    → all ≡ old ++ spelled (nest inner depth (drop depth order) last)
loops-end inner order last depth op old inside all l is e1 e2 =
    e2 ∙ ap (λ xs. xs ++ op ∷ []) e1 ∙ append_assoc old (spelled (inner depth)) (op ∷ [])
    ∙ ap (λ xs. old ++ xs)
    (ap (λ xs. spelled (inner depth) ++ xs) (sym is) ∙ sym (spelled-followed_by (inner depth) last)
    ∙ ap (λ xs. spelled (nest inner depth xs last)) (sym (drop_all depth order l)))

pub computing-spelled : (c : ContractionTree) (v : ℕ) → 0 < operations c → spelled (computing c v) ≡ computing_op c v ∷ []
computing-spelled (leaf t is) v h = absurd (omega arith)
computing-spelled (constant n) v h = absurd (omega arith)
computing-spelled (binary multiply l r) v h = refl
computing-spelled (binary add l r) v h = refl
computing-spelled (binary subtract l r) v h = refl
computing-spelled (sum is e) v h = refl

pub clearing-sum : (c : ContractionTree) (v : ℕ) → 0 < operations c → kind_of c ≡ SumKind → spelled (clearing c v) ≡ Clear v ∷ []
clearing-sum (leaf t is) v h k = absurd (omega arith)
clearing-sum (constant n) v h k = absurd (omega arith)
clearing-sum (binary multiply l r) v h k = cc
clearing-sum (binary add l r) v h k = cc
clearing-sum (binary subtract l r) v h k = cc
clearing-sum (sum is e) v h k = refl

pub computing-sum : (c : ContractionTree) (v : ℕ) → 0 < operations c → kind_of c ≡ SumKind → computing_op c v ≡ Acc v
computing-sum (leaf t is) v h k = absurd (omega arith)
computing-sum (constant n) v h k = absurd (omega arith)
computing-sum (binary multiply l r) v h k = cc
computing-sum (binary add l r) v h k = cc
computing-sum (binary subtract l r) v h k = cc
computing-sum (sum is e) v h k = refl

-- the loops of the root are the code of the tree
pub root-code : (tree : ContractionTree) (plan : Plan) (v : ℕ) → v + 1 ≡ operations tree → node_loops_code tree plan v 0 ≡ code_of plan tree
root-code tree plan v num =
    ap (λ t. loops_from plan t v (inner_code plan (first_number_of tree v) t) 0) at
    ∙ ap (λ k. loops_from plan tree v (inner_code plan k tree) 0) (first_number-is tree v 0 tree at (omega arith))
    ∙ ap (λ u. loops_from plan tree u (inner_code plan 0 tree) 0) number
  where
    at : node tree v ≡ tree
    at = node-root tree v (omega arith)

    number : v ≡ operations tree - 1
    number = omega arith

-- the inside of a node, operand by operand
pub two-operands : (tree : ContractionTree) (plan : Plan) (v depth : ℕ) (l r : Operand) (old middle all : List Op) → v < operations tree
    → l ≡ left_of tree v → Some r ≡ right_of tree v → middle ≡ old ++ spelled (named_code tree plan l depth)
    → all ≡ middle ++ spelled (named_code tree plan r depth) → all ≡ old ++ spelled (node_inner_code tree plan v depth)
two-operands tree plan v depth l r old middle all h el er e1 e2 =
    e2 ∙ ap (λ xs. xs ++ spelled (named_code tree plan r depth)) e1
    ∙ append_assoc old (spelled (named_code tree plan l depth)) (spelled (named_code tree plan r depth))
    ∙ ap (λ xs. old ++ xs)
    (ap₂ (λ x y. spelled (named_code tree plan x depth) ++ right_spelled tree plan y depth) el er ∙ sym (inside-named tree plan v depth h))

pub one-operand : (tree : ContractionTree) (plan : Plan) (v depth : ℕ) (l : Operand) (old all : List Op) → v < operations tree
    → l ≡ left_of tree v → None ≡ right_of tree v → all ≡ old ++ spelled (named_code tree plan l depth)
    → all ≡ old ++ spelled (node_inner_code tree plan v depth)
one-operand tree plan v depth l old all h el er e =
    e ∙ ap (λ xs. old ++ xs)
    (sym (append-nil (spelled (named_code tree plan l depth)))
    ∙ ap₂ (λ x y. spelled (named_code tree plan x depth) ++ right_spelled tree plan y depth) el er ∙ sym (inside-named tree plan v depth h))

-- an operand that joins the loops at this depth
pub operand-begun : (tree : ContractionTree) (plan : Plan) (v depth : ℕ) (old middle all : List Op) → v < operations tree
    → depth ≡ count (fused_at plan.fusion v) → middle ≡ old ++ spelled (clearing (node tree v) v)
    → all ≡ middle ++ spelled (node_loops_code tree plan v depth) → all ≡ old ++ spelled (named_code tree plan (Node v) depth)
operand-begun tree plan v depth old middle all h q e1 e2 =
    e2 ∙ ap (λ xs. xs ++ spelled (node_loops_code tree plan v depth)) e1
    ∙ append_assoc old (spelled (clearing (node tree v) v)) (spelled (node_loops_code tree plan v depth))
    ∙ ap (λ xs. old ++ xs)
    (sym (spelled-followed_by (clearing (node tree v) v) (node_loops_code tree plan v depth))
    ∙ ap spelled (sym (operand-here plan (node tree v) v (node_inner_code tree plan v) depth (node-not_leaf tree v h) q)))
