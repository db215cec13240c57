-- A part takes no more memory than the whole: the sets of the whole, cut to the part, leave states that exist.
use Rattle.std.proofs.Common.{◌≡◌, ℕ, ◌+◌, ◌-◌, ◌<◌, ◌≤◌, List, refl, sym, ap, ap₂, ◌∙◌, subst, inl, inr, arith}
use Rattle.std.specs.Prelude.{IsTrue}
use Rattle.std.proofs.lemmas.Bool.{false≢true}
use Rattle.tce_space.specs.IndexSet.{has, set_of, minus, union, IsWithin, empty}
use Rattle.tce_space.specs.Space.{IndexSpace, volume_of}
use Rattle.tce_tree.specs.ContractionTree.{ContractionTree, leaf, constant, binary, sum, left_tree, right_tree, dims, loops, operations, node, node_dims}
use Rattle.tce_tree.specs.Fusion.{fused_at}
use Rattle.tce_fusion.specs.Relation.{none, HasNoConflict, Allows}
use Rattle.tce_fusion.specs.State.{first_right, fused_at_root, state, operands_joined, HasState, size_left, cost, operands_cost}
use Rattle.tce_fusion.proofs.LegalStates.{states_from_legal}
use Rattle.tce_fusion.proofs.Costs.{costs_add_up}
use Rattle.tce_tree.proofs.Nodes.{node-left, node-right, node-operand, node-root}
use Rattle.tce_spill.specs.Parts.{IsRest, IsPart, FitsMemory}
use Rattle.tce_spill.proofs.Fused.{IsFused, fused_leaf, fused_step, fits_memory}

pub rest_dims : (part tree : ContractionTree) → IsRest part tree → dims part ≡ dims tree
rest_dims (leaf tensor indexes) tree h = h
rest_dims (constant number) tree h = ap dims (sym h)
rest_dims (binary op l r) tree h = ap₂ union (rest_dims l (left_tree tree) h.1.0) (rest_dims r (right_tree tree) h.1.1) ∙ ap dims (sym h.0)
rest_dims (sum indexes e) tree h = ap (λ s. minus s (set_of indexes)) (rest_dims e (left_tree tree) h.1) ∙ ap dims (sym h.0)

-- the sets of the nodes from `first` on lie within the dims of a tree's nodes
abbrev AreWithin : List ℕ → ℕ → ContractionTree → Type 0
AreWithin sets first tree = (u : ℕ) → u < operations tree → IsWithin (fused_at sets (first + u)) (dims (node tree u))

within-left : (sets : List ℕ) (first : ℕ) (op : _) (l r : ContractionTree) → AreWithin sets first (binary op l r) → AreWithin sets first l
within-left sets first op l r h u low i m = subst (λ t. IsTrue (has (dims t) i)) (node-left op l r u low) (h u (omega arith) i m)

within-right : (sets : List ℕ) (first : ℕ) (op : _) (l r : ContractionTree) → AreWithin sets first (binary op l r) → AreWithin sets (first + operations l) r
within-right sets first op l r h u low i m =
    let at : first + operations l + u ≡ first + (operations l + u) = omega arith in
    subst (λ t. IsTrue (has (dims t) i)) (node-right op l r u low) (h (operations l + u) (omega arith) i (subst (λ k. IsTrue (has (fused_at sets k) i)) at m))

within-operand : (sets : List ℕ) (first : ℕ) (indexes : List ℕ) (e : ContractionTree) → AreWithin sets first (sum indexes e) → AreWithin sets first e
within-operand sets first indexes e h u low i m = subst (λ t. IsTrue (has (dims t) i)) (node-operand indexes e u low) (h u (omega arith) i m)

within-root : (sets : List ℕ) (first : ℕ) (tree : ContractionTree) → 0 < operations tree → AreWithin sets first tree → IsWithin (fused_at_root sets first tree) (dims tree)
within-root sets first tree some h i m =
    let at : first + operations tree - 1 ≡ first + (operations tree - 1) = omega arith in
    subst (λ t. IsTrue (has (dims t) i)) (node-root tree (operations tree - 1) (omega arith))
    (h (operations tree - 1) (omega arith) i (subst (λ k. IsTrue (has (fused_at sets k) i)) at m))

-- what is left of a tree has a state under that of the tree, which costs no more
abbrev RestIsFused : IndexSpace → List ℕ → ContractionTree → Type 0
RestIsFused space sets part =
    (tree : ContractionTree) (first : ℕ) → IsRest part tree → AreWithin sets first tree → HasState sets first tree → IsFused space part (state sets first tree) (cost space sets first tree)

rest_fused : (space : IndexSpace) (sets : List ℕ) (part : ContractionTree) → RestIsFused space sets part
rest_fused space sets (leaf tensor indexes) tree first h within exists = fused_leaf space (leaf tensor indexes) (state sets first tree) (cost space sets first tree) refl
rest_fused space sets (constant number) tree first h within exists = fused_leaf space (constant number) (state sets first tree) (cost space sets first tree) refl
rest_fused space sets (binary op l r) (leaf tensor indexes) first h within exists = let other = h.0 in absurd cc
rest_fused space sets (binary op l r) (constant number) first h within exists = let other = h.0 in absurd cc
rest_fused space sets (binary op l r) (sum indexes e) first h within exists = let other = h.0 in absurd cc
rest_fused space sets (binary op l r) (binary tree_op tree_left tree_right) first h within exists =
    let c : ContractionTree = binary op l r in
    let tree : ContractionTree = binary tree_op tree_left tree_right in
    let of_left = rest_fused space sets l tree_left first h.1.0 (within-left sets first tree_op tree_left tree_right within) exists.0 in
    let of_right = rest_fused space sets r tree_right (first + operations tree_left) h.1.1 (within-right sets first tree_op tree_left tree_right within) exists.1 in
    let same_loops : loops tree ≡ loops c = sym (rest_dims c tree h) in
    let fused : ℕ = fused_at_root sets first tree in
    let step = fused_step space c refl (state sets first tree_left) (state sets (first + operations tree_left) tree_right) (cost space sets first tree_left) (cost space sets (first + operations tree_left) tree_right) fused of_left of_right
    (subst (λ s. HasNoConflict s (operands_joined sets first tree)) same_loops exists.2.0)
    (subst (λ s. Allows s (operands_joined sets first tree) fused) same_loops exists.2.1)
    (subst (IsWithin fused) (sym (rest_dims c tree h)) (within-root sets first tree (omega arith) within)) in
    subst (λ n. IsFused space c (state sets first tree) n) (sized (rest_dims c tree h)) step
  where
    sized : dims (binary op l r) ≡ dims (binary tree_op tree_left tree_right)
        → cost space sets first tree_left + cost space sets (first + operations tree_left) tree_right + size_left space (binary op l r) (fused_at_root sets first (binary tree_op tree_left tree_right))
        ≡ cost space sets first (binary tree_op tree_left tree_right)
    sized same = ap (λ s. cost space sets first tree_left + cost space sets (first + operations tree_left) tree_right + volume_of space (minus s (fused_at_root sets first (binary tree_op tree_left tree_right)))) same
rest_fused space sets (sum indexes e) (leaf tensor at) first h within exists = let other = h.0 in absurd cc
rest_fused space sets (sum indexes e) (constant number) first h within exists = let other = h.0 in absurd cc
rest_fused space sets (sum indexes e) (binary tree_op tree_left tree_right) first h within exists = let other = h.0 in absurd cc
rest_fused space sets (sum indexes e) (sum at te) first h within exists =
    let c : ContractionTree = sum indexes e in
    let tree : ContractionTree = sum at te in
    let of_left = rest_fused space sets e te first h.1 (within-operand sets first at te within) exists.0 in
    let of_right = fused_leaf space (constant 0) none 0 refl in
    let same_loops : loops tree ≡ loops c = sym (rest_dims e te h.1) in
    let fused : ℕ = fused_at_root sets first tree in
    let step = fused_step space c refl (state sets first te) none (cost space sets first te) 0 fused of_left of_right
    (subst (λ s. HasNoConflict s (operands_joined sets first tree)) same_loops exists.1.0)
    (subst (λ s. Allows s (operands_joined sets first tree) fused) same_loops exists.1.1)
    (subst (IsWithin fused) (sym (rest_dims c tree h)) (within-root sets first tree (omega arith) within)) in
    subst (λ n. IsFused space c (state sets first tree) n) (sized (rest_dims c tree h)) step
  where
    sized : dims (sum indexes e) ≡ dims (sum at te)
        → cost space sets first te + 0 + size_left space (sum indexes e) (fused_at_root sets first (sum at te)) ≡ cost space sets first (sum at te)
    sized same = let size = ap (λ s. volume_of space (minus s (fused_at_root sets first (sum at te)))) same in omega (arith, size)

-- a whole tree whose operands' states exist without conflict
pub record AreOpen (sets : List ℕ) (first : ℕ) (tree : ContractionTree) : Type 0 where
  pub left : HasState sets first (left_tree tree)
  pub right : HasState sets (first_right first tree) (right_tree tree)
  pub quiet : HasNoConflict (loops tree) (operands_joined sets first tree)

rest_fits : (space : IndexSpace) (sets : List ℕ) (part tree : ContractionTree) (first : ℕ) → 0 < operations part → IsRest part tree → AreWithin sets first tree
    → AreOpen sets first tree → FitsMemory space part (operands_cost space sets first tree)
rest_fits space sets (leaf tensor indexes) tree first some h within exists = absurd (omega arith)
rest_fits space sets (constant number) tree first some h within exists = absurd (omega arith)
rest_fits space sets (binary op l r) (leaf tensor indexes) first some h within exists = let other = h.0 in absurd cc
rest_fits space sets (binary op l r) (constant number) first some h within exists = let other = h.0 in absurd cc
rest_fits space sets (binary op l r) (sum indexes e) first some h within exists = let other = h.0 in absurd cc
rest_fits space sets (binary op l r) (binary tree_op tree_left tree_right) first some h within exists =
    fits_memory space (binary op l r) refl (state sets first tree_left) (state sets (first + operations tree_left) tree_right) (cost space sets first tree_left) (cost space sets (first + operations tree_left) tree_right) empty
    (rest_fused space sets l tree_left first h.1.0 (within-left sets first tree_op tree_left tree_right within) exists.left)
    (rest_fused space sets r tree_right (first + operations tree_left) h.1.1 (within-right sets first tree_op tree_left tree_right within) exists.right)
    refl (subst (λ s. HasNoConflict s (operands_joined sets first (binary tree_op tree_left tree_right))) (sym (rest_dims (binary op l r) (binary tree_op tree_left tree_right) h)) exists.quiet)
rest_fits space sets (sum indexes e) (leaf tensor at) first some h within exists = let other = h.0 in absurd cc
rest_fits space sets (sum indexes e) (constant number) first some h within exists = let other = h.0 in absurd cc
rest_fits space sets (sum indexes e) (binary tree_op tree_left tree_right) first some h within exists = let other = h.0 in absurd cc
rest_fits space sets (sum indexes e) (sum at te) first some h within exists =
    fits_memory space (sum indexes e) refl (state sets first te) none (cost space sets first te) 0 empty
    (rest_fused space sets e te first h.1 (within-operand sets first at te within) exists.left) (fused_leaf space (constant 0) none 0 refl)
    refl (subst (λ s. HasNoConflict s (operands_joined sets first (sum at te))) (sym (rest_dims e te h.1)) exists.quiet)

fits_more : (space : IndexSpace) (tree : ContractionTree) (m n : ℕ) → m ≤ n → FitsMemory space tree m → FitsMemory space tree n
fits_more space tree m n le f = record { fusion = f.fusion; fits = f.fits; legal = f.legal; cheap = omega (arith, le, f.cheap) }

-- a part of a subtree whose state exists
part_fits : (space : IndexSpace) (sets : List ℕ) (part tree : ContractionTree) (first : ℕ) → 0 < operations part → IsPart part tree → AreWithin sets first tree
    → HasState sets first tree → FitsMemory space part (cost space sets first tree)
part_fits space sets part (leaf tensor indexes) first some h within exists =
    rest_fits space sets part (leaf tensor indexes) first some h within (record { left = tt; right = tt; quiet = λ i j li lj x y. false≢true x })
part_fits space sets part (constant number) first some h within exists =
    rest_fits space sets part (constant number) first some h within (record { left = tt; right = tt; quiet = λ i j li lj x y. false≢true x })
part_fits space sets part (binary op l r) first some h within exists =
    elim h [
      | inl rest ↦
          fits_more space part (operands_cost space sets first (binary op l r)) (cost space sets first (binary op l r)) (omega arith)
          (rest_fits space sets part (binary op l r) first some rest within (record { left = exists.0; right = exists.1; quiet = exists.2.0 }))
      | inr deeper ↦ elim deeper [
        | inl on_left ↦
            fits_more space part (cost space sets first l) (cost space sets first (binary op l r)) (omega arith)
            (part_fits space sets part l first some on_left (within-left sets first op l r within) exists.0)
        | inr on_right ↦
            fits_more space part (cost space sets (first + operations l) r) (cost space sets first (binary op l r)) (omega arith)
            (part_fits space sets part r (first + operations l) some on_right (within-right sets first op l r within) exists.1)
      ]
    ]
part_fits space sets part (sum indexes e) first some h within exists =
    elim h [
      | inl rest ↦
          fits_more space part (operands_cost space sets first (sum indexes e)) (cost space sets first (sum indexes e)) (omega arith)
          (rest_fits space sets part (sum indexes e) first some rest within (record { left = exists.0; right = tt; quiet = exists.1.0 }))
      | inr deeper ↦
          fits_more space part (cost space sets first e) (cost space sets first (sum indexes e)) (omega arith)
          (part_fits space sets part e first some deeper (within-operand sets first indexes e within) exists.0)
    ]

-- a part of a whole tree
open_fits : (space : IndexSpace) (sets : List ℕ) (part tree : ContractionTree) → 0 < operations part → IsPart part tree → AreWithin sets 0 tree
    → AreOpen sets 0 tree → FitsMemory space part (operands_cost space sets 0 tree)
open_fits space sets part (leaf tensor indexes) some h within exists = rest_fits space sets part (leaf tensor indexes) 0 some h within exists
open_fits space sets part (constant number) some h within exists = rest_fits space sets part (constant number) 0 some h within exists
open_fits space sets part (binary op l r) some h within exists =
    elim h [
      | inl rest ↦ rest_fits space sets part (binary op l r) 0 some rest within exists
      | inr deeper ↦ elim deeper [
        | inl on_left ↦
            fits_more space part (cost space sets 0 l) (operands_cost space sets 0 (binary op l r)) (omega arith)
            (part_fits space sets part l 0 some on_left (within-left sets 0 op l r within) exists.left)
        | inr on_right ↦
            fits_more space part (cost space sets (0 + operations l) r) (operands_cost space sets 0 (binary op l r)) (omega arith)
            (part_fits space sets part r (0 + operations l) some on_right (within-right sets 0 op l r within) exists.right)
      ]
    ]
open_fits space sets part (sum indexes e) some h within exists =
    elim h [
      | inl rest ↦ rest_fits space sets part (sum indexes e) 0 some rest within exists
      | inr deeper ↦
          fits_more space part (cost space sets 0 e) (operands_cost space sets 0 (sum indexes e)) (omega arith)
          (part_fits space sets part e 0 some deeper (within-operand sets 0 indexes e within) exists.left)
    ]

pub parts_take_no_more : (space : IndexSpace) (part tree : ContractionTree) (limit : ℕ) → 0 < operations part → IsPart part tree → FitsMemory space tree limit → FitsMemory space part limit
unfolding node_dims
parts_take_no_more space part tree limit some h whole =
    let states = states_from_legal tree whole.fusion whole.fits whole.legal in
    fits_more space part (operands_cost space whole.fusion 0 tree) limit (omega (arith, whole.cheap, costs_add_up space tree whole.fusion))
    (open_fits space whole.fusion part tree some h
    (λ u low i m. whole.fits.within u low i (subst (λ k. IsTrue (has (fused_at whole.fusion k) i)) (zero_first u) m))
    (record { left = states.left; right = states.right; quiet = states.root }))
  where
    zero_first : (u : ℕ) → 0 + u ≡ u
    zero_first u = omega arith
