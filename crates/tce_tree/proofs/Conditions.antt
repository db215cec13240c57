-- What fusions and loop orders that fit a tree have.
use Rattle.std.proofs.Common.{◌≡◌, ℕ, ◌+◌, ◌<◌, ◌≤◌, Bool, true, false, cond, List, [], ◌∷◌, length, get_or, count_by, filter, All, Some, refl, sym, ap, ◌∙◌, inl, inr, arith}
use Rattle.std.specs.List.{range_with_len}
use Rattle.std.proofs.lemmas.Bool.{cases_Bool, false_from_ne_true, false≢true}
use Rattle.std.proofs.lemmas.List.{get_or_default}
use Rattle.std.proofs.lemmas.List.Sums.{count_by-le-length, length-filter, sum_by-cons}
use Rattle.std.proofs.lemmas.List.Sorted.{sum_by-IsPermutation}
use Rattle.tce_space.specs.IndexSet.{has, count, members}
use Rattle.tce_space.proofs.IndexSetLaws.{has_below}
use Rattle.tce_tree.specs.ContractionTree.{ContractionTree, operations, node, node_dims, node_loops, parent}
use Rattle.tce_tree.specs.Fusion.{FusionFits, OrdersFit, fused_at, order_at}
use Rattle.tce_tree.specs.WellFormed.{among, is_distinct}
use Rattle.tce_tree.proofs.Lists.{index-among}
use Rattle.tce_tree.proofs.Members.{node_loops_lt}
use Rattle.tce_tree.proofs.Nodes.{size_bounds}
use Rattle.tce_tree.proofs.Parents.{parent_is, dims_within_parent, dims_within_loops}
use Rattle.tce_tree.proofs.Permutations.{distinct-permutation, among-permutation, distinct-members, among-members}

-- an order that fits has just the loops of its node, each once
pub order-has : (tree : ContractionTree) (orders : List (List ℕ)) → OrdersFit tree orders → (v i : ℕ) → v < operations tree
    → among (order_at orders v) i ≡ has (node_loops tree v) i
order-has tree orders fit v i inside =
    sym (among-permutation (members (node_loops tree v)) (order_at orders v) i (fit.permute v inside)) ∙ among-members (node_loops tree v) i (node_loops_lt tree v)

pub order-distinct : (tree : ContractionTree) (orders : List (List ℕ)) → OrdersFit tree orders → (v : ℕ) → v < operations tree
    → is_distinct (order_at orders v) ≡ true
order-distinct tree orders fit v inside =
    distinct-permutation (members (node_loops tree v)) (order_at orders v) (distinct-members (node_loops tree v)) (fit.permute v inside)

pub order_below : (tree : ContractionTree) (orders : List (List ℕ)) → OrdersFit tree orders → (v : ℕ) → v < operations tree
    → All (λ i. i < 24) (order_at orders v)
order_below tree orders fit v inside k d l =
    has_below (node_loops tree v) (get_or (order_at orders v) k d) (node_loops_lt tree v)
    (sym (order-has tree orders fit v (get_or (order_at orders v) k d) inside)
    ∙ index-among (order_at orders v) k (get_or (order_at orders v) k d) l (get_or_default (order_at orders v) k (get_or (order_at orders v) k d) d l))

-- a fused index is a loop at both ends of its edge
pub fused_low : (tree : ContractionTree) (fusion : List ℕ) → FusionFits tree fusion → (v i : ℕ) → v < operations tree
    → has (fused_at fusion v) i ≡ true → has (node_loops tree v) i ≡ true
unfolding node_dims node_loops
fused_low tree fusion fits v i h f = dims_within_loops (node tree v) i (size_bounds tree v h).0 (fits.within v h i f)

pub fused_high : (tree : ContractionTree) (fusion : List ℕ) → FusionFits tree fusion → (v p i : ℕ) → parent tree v ≡ Some p
    → has (fused_at fusion v) i ≡ true → has (node_loops tree p) i ≡ true
unfolding node_dims node_loops
fused_high tree fusion fits v p i is f =
    let up = parent_is tree v p is in
    dims_within_parent tree v p up i (fits.within v (omega (arith, up.above, up.inside)) i f)

-- what passes the narrower test is counted alike after the wider filter
count-filter : (p q : ℕ → Bool) (xs : List ℕ) → ((x : ℕ) → p x ≡ true → q x ≡ true) → count_by p (filter q xs) ≡ count_by p xs
count-filter p q [] f = refl
count-filter p q (x ∷ xs) f =
    elim (cases_Bool (q x)) [
      | inl t ↦ rw t (sum_by-cons (λ y. cond (p y) 1 0) x (filter q xs) ∙ ap (λ c. cond (p x) 1 0 + c) (count-filter p q xs f) ∙ sym (sum_by-cons (λ y. cond (p y) 1 0) x xs))
      | inr e ↦
          let d : p x ≡ false = false_from_ne_true (p x) (λ t. false≢true (sym e ∙ f x t)) in
          rw e (count-filter p q xs f ∙ omega (arith, sum_by-cons (λ y. cond (p y) 1 0) x xs, ap {B = ℕ} (λ b. cond b 1 0) d))
    ]

-- as many members of a set stand in the order of a node as the set has, where all are loops of the node
pub count_in_order : (tree : ContractionTree) (orders : List (List ℕ)) → OrdersFit tree orders → (set v : ℕ) → v < operations tree
    → ((i : ℕ) → has set i ≡ true → has (node_loops tree v) i ≡ true) → count_by (has set) (order_at orders v) ≡ count set
unfolding count members
count_in_order tree orders fit set v inside f =
    sum_by-IsPermutation (λ i. cond (has set i) 1 0) (filter (has (node_loops tree v)) (range_with_len 0 24)) (order_at orders v) (fit.permute v inside)
    ∙ count-filter (has set) (has (node_loops tree v)) (range_with_len 0 24) f
    ∙ sym (length-filter (has set) (range_with_len 0 24))

-- an order has room for the fused indexes, at both ends of the edge
pub fused_fits_low : (tree : ContractionTree) (fusion : List ℕ) (orders : List (List ℕ)) → FusionFits tree fusion → OrdersFit tree orders
    → (v : ℕ) → v < operations tree → count (fused_at fusion v) ≤ length (order_at orders v)
fused_fits_low tree fusion orders fits fit v inside =
    omega (
      arith,
      count_in_order tree orders fit (fused_at fusion v) v inside (λ i f. fused_low tree fusion fits v i inside f),
      count_by-le-length (has (fused_at fusion v)) (order_at orders v),
    )

pub fused_fits_high : (tree : ContractionTree) (fusion : List ℕ) (orders : List (List ℕ)) → FusionFits tree fusion → OrdersFit tree orders
    → (v p : ℕ) → parent tree v ≡ Some p → count (fused_at fusion v) ≤ length (order_at orders p)
fused_fits_high tree fusion orders fits fit v p is =
    omega (
      arith,
      count_in_order tree orders fit (fused_at fusion v) p (parent_is tree v p is).inside (λ i f. fused_high tree fusion fits v p i is f),
      count_by-le-length (has (fused_at fusion v)) (order_at orders p),
    )
