-- Loops that are those of a sum, in any sequence.
use Rattle.std.proofs.Common.{◌≡◌, ℕ, ◌-◌, ◌<◌, true, false, not, ◌&&◌, Bool, List, All, length, get_or, refl, sym, ap, ap₂, ◌∙◌, subst, inl, inr, arith}
use Rattle.std.proofs.lemmas.Bool.{cases_Bool, cases_lt, and_parts}
use Rattle.std.proofs.lemmas.List.{get_or_default}
use Rattle.tce_space.proofs.IndexSetLaws.{has-minus, has-set_of}
use Rattle.tce_space.specs.IndexSet.{has, minus, set_of}
use Rattle.tce_tree.proofs.Lists.{among-all, among-contains, contains-among, same_truth}
use Rattle.tce_tree.proofs.NamedIndexes.{has-set_of_list, well_formed-left, well_formed-right, well_formed-operand}
use Rattle.tce_tree.proofs.Nodes.{part, in_left, in_right, at_root, node-left, node-right_at, node-operand, node-root}
use Rattle.tce_tree.proofs.Sums.{sum_over_permuted}
use Rattle.tce_tree.specs.ContractionTree.{ContractionTree, leaf, constant, binary, sum, dims, loops as loops_of, operations, node, node_dims, node_loops}
use Rattle.tce_tree.specs.FlatTree.{IsTree}
use Rattle.tce_tree.specs.WellFormed.{among, is_distinct, sums_distinct, sums_present, indexes_below, IsWellFormed}
use Rattle.tce_walk.specs.FoundTerms.{AreSummed, IsSetOf}

-- each node of a well-formed tree is one
well_formed-node : (tree : ContractionTree) (v : ℕ) → v < operations tree → IsWellFormed tree → IsWellFormed (node tree v)
well_formed-node (leaf t is) v l w = absurd (omega arith)
well_formed-node (constant k) v l w = absurd (omega arith)
well_formed-node (binary op l r) v inside w =
    elim (part l r v inside) [
      | in_left a ↦ subst IsWellFormed (sym (node-left op l r v a)) (well_formed-node l v a (well_formed-left l r w))
      | in_right a c ↦ subst IsWellFormed (sym (node-right_at op l r v a c)) (well_formed-node r (v - operations l) (omega arith) (well_formed-right l r w))
      | at_root e ↦ subst IsWellFormed (sym (node-root (binary op l r) v (omega arith))) w
    ]
well_formed-node (sum is e) v inside w =
    elim (cases_lt v (operations e)) [
      | inl a ↦ subst IsWellFormed (sym (node-operand is e v a)) (well_formed-node e v a (well_formed-operand is e w))
      | inr a ↦ subst IsWellFormed (sym (node-root (sum is e) v (omega arith))) w
    ]

-- the loops of a sum without its dims are the indexes that it sums over
summed_set : (is : List ℕ) (e : ContractionTree) (i : ℕ) → IsWellFormed (sum is e) → has (minus (loops_of (sum is e)) (dims (sum is e))) i ≡ among is i
summed_set is e i w =
    has-minus (dims e) (minus (dims e) (set_of is)) i
    ∙ ap (λ b. has (dims e) i && not b) (has-minus (dims e) (set_of is) i ∙ ap (λ b. has (dims e) i && not b) (has-set_of_list is i (and_parts _ (indexes_below 24 e) w.indexed).0))
    ∙ elim (cases_Bool (among is i)) [
      | inl m ↦ rw (m, among-all (has (dims e)) is i (and_parts _ (sums_present e) w.present).0 m) refl
      | inr m ↦ rw m (none (has (dims e) i))
    ]
  where
    none : (b : Bool) → (b && not (b && true)) ≡ false
    none true = refl
    none false = refl

pub among_set : (xs : List ℕ) (i : ℕ) → All (λ x. x < 24) xs → has (set_of xs) i ≡ among xs i
among_set xs i h =
    let r = has-set_of xs i h in
    same_truth (has (set_of xs) i) (among xs i) (λ t. contains-among xs i (r.0 t)) (λ m. r.1 (among-contains xs i m))

pub are_summed : (tree : ContractionTree) (v set over own : ℕ) (loops : List ℕ) → IsTree tree → v < operations tree → is_distinct loops ≡ true
    → IsSetOf loops set → over ≡ node_loops tree v → own ≡ node_dims tree v → set ≡ minus over own → AreSummed tree v loops
unfolding node_loops node_dims
are_summed tree v set over own loops is_tree l distinct s o w e is c extent f a at =
    let whole : IsWellFormed (sum is c) = subst IsWellFormed at (well_formed-node tree v l is_tree.well_formed) in
    sum_over_permuted extent loops is f a distinct (and_parts (is_distinct is) (sums_distinct c) whole.distinct).0
    (λ i.
    sym (s.inside i)
    ∙ ap (λ n. has n i) (e ∙ ap₂ minus (o ∙ ap loops_of at) (w ∙ ap dims at)) ∙ summed_set is c i whole)

-- a number at each position, at another default
pub all_at : (n : ℕ) (xs : List ℕ) → ((k : ℕ) → k < length xs → get_or xs k 0 < n) → All (λ x. x < n) xs
all_at n xs h k d l = subst (λ x. x < n) (get_or_default xs k 0 d l) (h k l)
