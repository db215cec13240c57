-- What the conditions on the fusion and the orders say of each node and its operands.
use Rattle.std.proofs.Common.{◌≡◌, ℕ, ◌+◌, ◌-◌, ◌<◌, ◌≤◌, List, [], take, length, Some, sym, ap, subst, inl, inr, arith}
use Rattle.std.proofs.lemmas.Bool.{cases_lt}
use Rattle.std.proofs.lemmas.List.{get_or_past}
use Rattle.std.proofs.lemmas.List.Sorted.{length_permutation}
use Rattle.tce_space.specs.IndexSet.{has, members, count}
use Rattle.tce_tree.specs.ContractionTree.{ContractionTree, leaf, constant, binary, sum, operations, node, node_dims, node_loops, parent}
use Rattle.tce_tree.specs.Fusion.{FusionFits, OrdersFit, Carries, fused_at, order_at}
use Rattle.tce_tree.specs.WellFormed.{among}
use Rattle.tce_tree.proofs.Conditions.{order-has, order-distinct, fused_fits_low, fused_fits_high}
use Rattle.tce_tree.proofs.Lists.{same_truth, contains-among, among-contains}
use Rattle.tce_tree.proofs.Operands.{Stands, stands-whole, stands-left, stands-right, stands-operand, IsChild, left_child, right_child, only_child}
use Rattle.tce_tree.proofs.Nodes.{node-positive}
use Rattle.tce_code.specs.Emission.{JointsFit}
use Rattle.tce_code.specs.Plan.{plan_of}
use Rattle.tce_code.proofs.Readings.{NodeFits, EdgeFits, OperandFits, Fits}

pub node-fits : (tree : ContractionTree) (fusion : List ℕ) (orders : List (List ℕ)) → OrdersFit tree orders → (v : ℕ) → v < operations tree
    → NodeFits (plan_of fusion orders) (node tree v) v
unfolding node_loops
node-fits tree fusion orders fit v inside = record {
  distinct = order-distinct tree orders fit v inside;
  each = λ i. sym (order-has tree orders fit v i inside);
}

edge-fits : (tree : ContractionTree) (fusion : List ℕ) (orders : List (List ℕ)) → FusionFits tree fusion → OrdersFit tree orders
    → Carries tree fusion orders → (v p : ℕ) → v < operations tree → parent tree v ≡ Some p
    → EdgeFits (plan_of fusion orders) (node tree v) v p
unfolding node_dims
edge-fits tree fusion orders fits fit carried v p inside is = record {
  within = λ i h. fits.within v inside i h;
  joint = (carried v p is).same;
  members = λ i.
      same_truth (has (fused_at fusion v) i) (among (take (count (fused_at fusion v)) (order_at orders v)) i)
      (λ h. contains-among (take (count (fused_at fusion v)) (order_at orders v)) i (((carried v p is).members i).1 h))
      (λ h. ((carried v p is).members i).0 (among-contains (take (count (fused_at fusion v)) (order_at orders v)) i h));
  low = fused_fits_low tree fusion orders fits fit v inside;
  high = fused_fits_high tree fusion orders fits fit v p is;
}

child-fits : (tree : ContractionTree) (fusion : List ℕ) (orders : List (List ℕ)) → FusionFits tree fusion → OrdersFit tree orders
    → Carries tree fusion orders → (c : ContractionTree) (v p : ℕ) → IsChild tree c v p → OperandFits tree (plan_of fusion orders) c v p
child-fits tree fusion orders fits fit carried c v p child = record {
  found = child.at;
  node_fits = subst (λ t. NodeFits (plan_of fusion orders) t v) child.at (node-fits tree fusion orders fit v child.inside);
  edge = subst (λ t. EdgeFits (plan_of fusion orders) t v p) child.at (edge-fits tree fusion orders fits fit carried v p child.inside child.above);
}

fits-below : (tree : ContractionTree) (fusion : List ℕ) (orders : List (List ℕ)) → FusionFits tree fusion → OrdersFit tree orders
    → Carries tree fusion orders → (first : ℕ) (c : ContractionTree) → Stands tree first c → Fits tree (plan_of fusion orders) first c
fits-below tree fusion orders fits fit carried first (leaf t is) st = tt
fits-below tree fusion orders fits fit carried first (constant n) st = tt
fits-below tree fusion orders fits fit carried first (binary op l r) st = (
  (λ n. child-fits tree fusion orders fits fit carried l (first + operations l - 1) (first + operations l + operations r)
      (left_child tree first op l r st (node-positive l n))),
  (λ n. child-fits tree fusion orders fits fit carried r (first + operations l + operations r - 1) (first + operations l + operations r)
      (right_child tree first op l r st (node-positive r n))),
  fits-below tree fusion orders fits fit carried first l (stands-left tree first op l r st),
  fits-below tree fusion orders fits fit carried (first + operations l) r (stands-right tree first op l r st),
)
fits-below tree fusion orders fits fit carried first (sum is e) st = (
  (λ n. child-fits tree fusion orders fits fit carried e (first + operations e - 1) (first + operations e) (only_child tree first is e st (node-positive e n))),
  fits-below tree fusion orders fits fit carried first e (stands-operand tree first is e st),
)

-- the whole tree
pub all-fits : (tree : ContractionTree) (fusion : List ℕ) (orders : List (List ℕ)) → FusionFits tree fusion → OrdersFit tree orders
    → Carries tree fusion orders → Fits tree (plan_of fusion orders) 0 tree
all-fits tree fusion orders fits fit carried = fits-below tree fusion orders fits fit carried 0 tree (stands-whole tree)

pub joints-fit : (tree : ContractionTree) (fusion : List ℕ) (orders : List (List ℕ)) → FusionFits tree fusion → OrdersFit tree orders
    → JointsFit (operations tree) fusion orders
joints-fit tree fusion orders fits fit = record {
  sets = fits.each;
  lists = fit.each;
  joints = λ v inside. fused_fits_low tree fusion orders fits fit v inside;
}

-- no order is longer than its node has loops
pub orders-short : (tree : ContractionTree) (orders : List (List ℕ)) → OrdersFit tree orders
    → ((v : ℕ) → v < operations tree → count (node_loops tree v) ≤ 10) → (v : ℕ) → length (order_at orders v) ≤ 10
unfolding count
orders-short tree orders fit short v =
    elim (cases_lt v (operations tree)) [
      | inl l ↦ omega (arith, length_permutation (members (node_loops tree v)) (order_at orders v) (fit.permute v l), short v l)
      | inr g ↦
          let past : length orders ≤ v = omega (arith, fit.each) in
          omega (arith, ap length (get_or_past orders v [] past))
    ]
