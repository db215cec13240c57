-- What trees that name their indexes rightly have as their dims and loops.
use Rattle.std.proofs.Common.{◌≡◌, ℕ, ◌-◌, ◌<◌, ◌≤◌, true, not, List, length, get_or, All, refl, sym, ◌∙◌, inl, inr, arith, lt-ltb, ltb-true, ltb}
use Rattle.std.specs.List.{list_all}
use Rattle.std.proofs.lemmas.Bool.{and_parts, and_from, or_cases, cases_lt, false≢true}
use Rattle.std.proofs.lemmas.List.{get_or_default}
use Rattle.tce_space.specs.IndexSet.{has, set_of}
use Rattle.tce_space.specs.Space.{IndexSpace, IsDeclared}
use Rattle.tce_space.proofs.IndexSetLaws.{has-union, has-minus, has-empty, has-set_of}
use Rattle.tce_tree.specs.ContractionTree.{ContractionTree, leaf, constant, binary, sum, dims, loops, operations, node, node_dims, node_loops}
use Rattle.tce_tree.specs.WellFormed.{among, indexes_below, sums_present, sums_distinct, is_distinct, IsWellFormed, IsDeclaredTree}
use Rattle.tce_tree.proofs.Lists.{among-all, contains-among, among-contains, list_all-weaker, same_truth}
use Rattle.tce_tree.proofs.Nodes.{part, in_left, in_right, at_root, node-left, node-right_at, node-operand, node-root}

pub below_weaker : (m n : ℕ) (xs : List ℕ) → m ≤ n → list_all (λ i. ltb i m) xs ≡ true → list_all (λ i. ltb i n) xs ≡ true
below_weaker m n xs le h = list_all-weaker (λ i. ltb i m) (λ i. ltb i n) xs (λ i t. let l = ltb-true i m t in lt-ltb i n (omega arith)) h

pub indexes_below-le : (m n : ℕ) (tree : ContractionTree) → m ≤ n → indexes_below m tree ≡ true → indexes_below n tree ≡ true
indexes_below-le m n (leaf t is) le h = below_weaker m n is le h
indexes_below-le m n (constant k) le h = refl
indexes_below-le m n (binary op l r) le h =
    let parts = and_parts (indexes_below m l) (indexes_below m r) h in
    and_from (indexes_below n l) (indexes_below n r) (indexes_below-le m n l le parts.0) (indexes_below-le m n r le parts.1)
indexes_below-le m n (sum is e) le h =
    let parts = and_parts (list_all (λ i. ltb i m) is) (indexes_below m e) h in
    and_from (list_all (λ i. ltb i n) is) (indexes_below n e) (below_weaker m n is le parts.0) (indexes_below-le m n e le parts.1)

-- the numbers of a list, as the calls on sets of indexes ask for them
pub all_below : (n : ℕ) (xs : List ℕ) → list_all (λ i. ltb i n) xs ≡ true → All (λ i. i < n) xs
all_below n xs h k d l =
    ltb-true (get_or xs k d) n (among-all (λ i. ltb i n) xs (get_or xs k d) h
    (contains-among xs (get_or xs k d) (k, l, get_or_default xs k (get_or xs k d) d l)))

-- the set of a list has what stands in it
pub has-set_of_list : (xs : List ℕ) (i : ℕ) → list_all (λ j. ltb j 24) xs ≡ true → has (set_of xs) i ≡ among xs i
has-set_of_list xs i h =
    let r = has-set_of xs i (all_below 24 xs h) in
    same_truth (has (set_of xs) i) (among xs i) (λ t. contains-among xs i (r.0 t)) (λ m. r.1 (among-contains xs i m))

-- a tree depends on declared indexes alone
pub dims_below : (n : ℕ) (tree : ContractionTree) (i : ℕ) → n ≤ 24 → indexes_below n tree ≡ true → has (dims tree) i ≡ true → i < n
dims_below n (leaf t is) i le b h =
    ltb-true i n (among-all (λ j. ltb j n) is i b (sym (has-set_of_list is i (below_weaker n 24 is le b)) ∙ h))
dims_below n (constant k) i le b h = absurd (false≢true (sym (has-empty i) ∙ h))
dims_below n (binary op l r) i le b h =
    let parts = and_parts (indexes_below n l) (indexes_below n r) b in
    elim (or_cases (has (dims l) i) (has (dims r) i) (sym (has-union (dims l) (dims r) i) ∙ h)) [
      | inl t ↦ dims_below n l i le parts.0 t
      | inr t ↦ dims_below n r i le parts.1 t
    ]
dims_below n (sum is e) i le b h =
    let parts = and_parts (list_all (λ j. ltb j n) is) (indexes_below n e) b in
    dims_below n e i le parts.1 (and_parts (has (dims e) i) (not (has (set_of is) i)) (sym (has-minus (dims e) (set_of is) i) ∙ h)).0

-- and so does each loop
pub loops_below : (n : ℕ) (tree : ContractionTree) (i : ℕ) → n ≤ 24 → indexes_below n tree ≡ true → has (loops tree) i ≡ true → i < n
loops_below n (leaf t is) i le b h = absurd (false≢true (sym (has-empty i) ∙ h))
loops_below n (constant k) i le b h = absurd (false≢true (sym (has-empty i) ∙ h))
loops_below n (binary op l r) i le b h = dims_below n (binary op l r) i le b h
loops_below n (sum is e) i le b h = dims_below n e i le (and_parts (list_all (λ j. ltb j n) is) (indexes_below n e) b).1 h

-- the subtree of a node names declared indexes too
pub indexes_below-node : (n : ℕ) (tree : ContractionTree) (v : ℕ) → v < operations tree → indexes_below n tree ≡ true → indexes_below n (node tree v) ≡ true
indexes_below-node n (leaf t is) v l b = absurd (omega arith)
indexes_below-node n (constant k) v l b = absurd (omega arith)
indexes_below-node n (binary op l r) v inside b =
    let parts = and_parts (indexes_below n l) (indexes_below n r) b in
    elim (part l r v inside) [
      | in_left a ↦ rw (node-left op l r v a) (indexes_below-node n l v a parts.0)
      | in_right a c ↦ rw (node-right_at op l r v a c) (indexes_below-node n r (v - operations l) (omega arith) parts.1)
      | at_root e ↦ rw (node-root (binary op l r) v (omega arith)) b
    ]
indexes_below-node n (sum is e) v inside b =
    elim (cases_lt v (operations e)) [
      | inl a ↦ rw (node-operand is e v a) (indexes_below-node n e v a (and_parts (list_all (λ j. ltb j n) is) (indexes_below n e) b).1)
      | inr a ↦ rw (node-root (sum is e) v (omega arith)) b
    ]

-- the dims and loops of each node are declared where the tree's indexes are
pub node_dims_declared : (space : IndexSpace) (tree : ContractionTree) (v : ℕ) → v < operations tree → length space.indexes ≤ 24 → IsDeclaredTree space tree
    → IsDeclared space (node_dims tree v)
unfolding node_dims
node_dims_declared space tree v inside le d i h = dims_below (length space.indexes) (node tree v) i le (indexes_below-node (length space.indexes) tree v inside d) h

pub node_loops_declared : (space : IndexSpace) (tree : ContractionTree) (v : ℕ) → v < operations tree → length space.indexes ≤ 24 → IsDeclaredTree space tree
    → IsDeclared space (node_loops tree v)
unfolding node_loops
node_loops_declared space tree v inside le d i h = loops_below (length space.indexes) (node tree v) i le (indexes_below-node (length space.indexes) tree v inside d) h

-- the parts of a well-formed tree
pub well_formed-left : {op : _} (l r : ContractionTree) → IsWellFormed (binary op l r) → IsWellFormed l
well_formed-left l r w = record {
  indexed = (and_parts (indexes_below 24 l) (indexes_below 24 r) w.indexed).0;
  distinct = (and_parts (sums_distinct l) (sums_distinct r) w.distinct).0;
  present = (and_parts (sums_present l) (sums_present r) w.present).0;
}

pub well_formed-right : {op : _} (l r : ContractionTree) → IsWellFormed (binary op l r) → IsWellFormed r
well_formed-right l r w = record {
  indexed = (and_parts (indexes_below 24 l) (indexes_below 24 r) w.indexed).1;
  distinct = (and_parts (sums_distinct l) (sums_distinct r) w.distinct).1;
  present = (and_parts (sums_present l) (sums_present r) w.present).1;
}

pub well_formed-operand : (is : List ℕ) (e : ContractionTree) → IsWellFormed (sum is e) → IsWellFormed e
well_formed-operand is e w = record {
  indexed = (and_parts (list_all (λ i. ltb i 24) is) (indexes_below 24 e) w.indexed).1;
  distinct = (and_parts (is_distinct is) (sums_distinct e) w.distinct).1;
  present = (and_parts (list_all (has (dims e)) is) (sums_present e) w.present).1;
}

-- what a sum lists
pub summed_distinct : (is : List ℕ) (e : ContractionTree) → IsWellFormed (sum is e) → is_distinct is ≡ true
summed_distinct is e w = (and_parts (is_distinct is) (sums_distinct e) w.distinct).0

pub summed_below : (is : List ℕ) (e : ContractionTree) → IsWellFormed (sum is e) → list_all (λ i. ltb i 24) is ≡ true
summed_below is e w = (and_parts (list_all (λ i. ltb i 24) is) (indexes_below 24 e) w.indexed).0

pub summed_present : (is : List ℕ) (e : ContractionTree) (i : ℕ) → IsWellFormed (sum is e) → among is i ≡ true → has (dims e) i ≡ true
summed_present is e i w h = among-all (has (dims e)) is i (and_parts (list_all (has (dims e)) is) (sums_present e) w.present).0 h
