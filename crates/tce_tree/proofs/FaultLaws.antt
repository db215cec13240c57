-- The first fault of an expression, and what a tree without fault keeps.
use Rattle.std.proofs.Common.{◌≡◌, ℕ, zero, suc, ◌+◌, ◌-◌, ◌<◌, ◌≤◌, ◌^◌, Bool, true, false, not, cond, ◌++◌, List, [], ◌∷◌, length, get_or, find, Option, Some, None, IsTrue, refl, sym, ap, ◌∙◌, inl, inr, arith, lt-ltb, ltb, ne_eqb, eq-eqb}
use Rattle.std.specs.Option.{option_or, option_map}
use Rattle.std.specs.List.{list_all}
use Rattle.std.proofs.lemmas.Bool.{cases_lt, cases_Bool, and_from}
use Rattle.tce_space.specs.IndexSet.{has, count}
use Rattle.tce_space.specs.Space.{IndexSpace, index_at, volume_of}
use Rattle.tce_tree.specs.ContractionTree.{ContractionTree, leaf, constant, binary, sum, dims, loops, operations, node, node_loops}
use Rattle.tce_tree.specs.WellFormed.{sums_distinct, sums_present, IsDeclaredTree}
use Rattle.tce_tree.specs.Measure.{IsMeasured}
use Rattle.tce_tree.specs.Faults.{Fault, no_operation, sum_over_absent, too_many_loops, volume_too_large, loops_fault, sum_fault, nodes_fault, fault_of, Shows}
use Rattle.tce_tree.specs.declared.fault.TreeFault.{TreeFault}
use Rattle.tce_tree.specs.declared.fault.TreeFault.TheVariants.{NoOperation, SumOverAbsent, TooManyLoops, VolumeTooLarge, Memory}
use Rattle.tce_tree.specs.FlatTree.{flat, tree_of_nodes, IsTree, AreNodes}
use Rattle.tce_tree.specs.declared.node.Node.{Node}
use Rattle.tce_tree.proofs.NamedIndexes.{indexes_below-le}
use Rattle.tce_tree.proofs.Flat.{tree_of_nodes-flat}
use Rattle.tce_tree.proofs.Nodes.{node-left, node-right_at, node-operand, node-root, in_left, in_right, at_root, part}

find_at : (p : ℕ → Bool) (xs : List ℕ) (k : ℕ) → k < length xs → ((j : ℕ) → j < k → p (get_or xs j 0) ≡ false) → p (get_or xs k 0) ≡ true
    → find p xs ≡ Some (get_or xs k 0)
find_at p [] k l f t = absurd (omega arith)
find_at p (x ∷ xs) zero l f t = rw t refl
find_at p (x ∷ xs) (suc k) l f t = rw (f 0 (omega arith)) (find_at p xs k (omega arith) (λ j m. f (suc j) (omega arith)) t)

find_none : (p : ℕ → Bool) (xs : List ℕ) → ((j : ℕ) → j < length xs → p (get_or xs j 0) ≡ false) → find p xs ≡ None
find_none p [] f = refl
find_none p (x ∷ xs) f = rw (f 0 (omega arith)) (find_none p xs (λ j m. f (suc j) (omega arith)))

pub sum_fault_at : (space : IndexSpace) (xs : List ℕ) (dims k : ℕ) → k < length xs → ((j : ℕ) → j < k → has dims (get_or xs j 0) ≡ true) → has dims (get_or xs k 0) ≡ false
    → sum_fault space xs dims ≡ Some (sum_over_absent (index_at space (get_or xs k 0)).name)
unfolding sum_fault
sum_fault_at space xs dims k l f t =
    ap (option_map (λ i. sum_over_absent (index_at space i).name)) (find_at (λ i. not (has dims i)) xs k l (λ j m. ap not (f j m)) (ap not t))

pub sum_fault_none : (space : IndexSpace) (xs : List ℕ) (dims : ℕ) → ((j : ℕ) → j < length xs → has dims (get_or xs j 0) ≡ true) → sum_fault space xs dims ≡ None
unfolding sum_fault
sum_fault_none space xs dims f =
    ap (option_map (λ i. sum_over_absent (index_at space i).name)) (find_none (λ i. not (has dims i)) xs (λ j m. ap not (f j m)))

-- the first of two faults
pub or_none_left : (a b : Option Fault) → option_or a b ≡ None → a ≡ None
or_none_left None b e = refl
or_none_left (Some x) b e = e

pub or_none_right : (a b : Option Fault) → option_or a b ≡ None → b ≡ None
or_none_right None b e = e
or_none_right (Some x) b e = absurd (let k : ⊥ = cc in k)

pub shows_memory : (a : Option Fault) (fault : TreeFault) → fault ≡ Memory → Shows a fault
shows_memory a NoOperation e = absurd (let k : ⊥ = cc in k)
shows_memory a (SumOverAbsent name) e = absurd (let k : ⊥ = cc in k)
shows_memory a (TooManyLoops v) e = absurd (let k : ⊥ = cc in k)
shows_memory a (VolumeTooLarge v) e = absurd (let k : ⊥ = cc in k)
shows_memory a Memory e = tt

-- a node without a fault has few loops, and not too many iterations
loops_few : (space : IndexSpace) (v set : ℕ) → loops_fault space v set ≡ None → count set ≤ 10
unfolding loops_fault
loops_few space v set e =
    elim (cases_lt 10 (count set)) [
      | inl l ↦ let s : Some (too_many_loops v) ≡ None = rw (lt-ltb 10 (count set) l) at e in absurd (let k : ⊥ = cc in k)
      | inr g ↦ g
    ]

loops_small : (space : IndexSpace) (v set : ℕ) → loops_fault space v set ≡ None → volume_of space set ≤ 2 ^ 90
unfolding loops_fault
loops_small space v set e =
    elim (cases_lt (2 ^ 90) (volume_of space set)) [
      | inl l ↦ absurd (large (lt-ltb (2 ^ 90) (volume_of space set) l))
      | inr g ↦ g
    ]
  where
    large : ltb (2 ^ 90) (volume_of space set) ≡ true → ⊥
    large t =
        elim (cases_Bool (ltb 10 (count set))) [
          | inl u ↦ let s : Some (too_many_loops v) ≡ None = rw u at e in let k : ⊥ = cc in k
          | inr u ↦ let s : Some (volume_too_large v) ≡ None = rw (u, t) at e in let k : ⊥ = cc in k
        ]

-- a tree without a fault has none at any node
pub loops_faultless : (space : IndexSpace) (first : ℕ) (tree : ContractionTree) → nodes_fault space first tree ≡ None → (v : ℕ) → v < operations tree
    → (u : ℕ) × (loops_fault space u (loops (node tree v)) ≡ None)
loops_faultless space first (leaf t is) e v h = absurd (omega arith)
loops_faultless space first (constant k) e v h = absurd (omega arith)
loops_faultless space first (binary op l r) e v h =
    let own : Option Fault = loops_fault space (first + operations l + operations r) (loops (binary op l r)) in
    let right : Option Fault = nodes_fault space (first + operations l) r in
    let after = or_none_right (nodes_fault space first l) (option_or right own) e in
    elim (part l r v h) [
      | in_left a ↦ rw (node-left op l r v a) (loops_faultless space first l (or_none_left (nodes_fault space first l) (option_or right own) e) v a)
      | in_right a b ↦ rw (node-right_at op l r v a b) (loops_faultless space (first + operations l) r (or_none_left right own after) (v - operations l) (omega arith))
      | at_root k ↦ rw (node-root (binary op l r) v (omega arith)) (first + operations l + operations r, or_none_right right own after)
    ]
loops_faultless space first (sum is x) e v h =
    let own : Option Fault = loops_fault space (first + operations x) (loops (sum is x)) in
    let summed : Option Fault = sum_fault space is (dims x) in
    let after = or_none_right (nodes_fault space first x) (option_or summed own) e in
    elim (cases_lt v (operations x)) [
      | inl a ↦ rw (node-operand is x v a) (loops_faultless space first x (or_none_left (nodes_fault space first x) (option_or summed own) e) v a)
      | inr a ↦ rw (node-root (sum is x) v (omega arith)) (first + operations x, or_none_right summed own after)
    ]

find_all : (p : ℕ → Bool) (xs : List ℕ) → find (λ i. not (p i)) xs ≡ None → list_all p xs ≡ true
find_all p [] e = refl
find_all p (x ∷ xs) e =
    elim (cases_Bool (p x)) [
      | inl t ↦ and_from (p x) (list_all p xs) t (find_all p xs (rw t at e))
      | inr f ↦ let s : Some x ≡ None = rw f at e in absurd (let k : ⊥ = cc in k)
    ]

map_none : (f : ℕ → Fault) (o : Option ℕ) → option_map f o ≡ None → o ≡ None
map_none f None e = refl
map_none f (Some x) e = absurd (let k : ⊥ = cc in k)

sum_within : (space : IndexSpace) (xs : List ℕ) (set : ℕ) → sum_fault space xs set ≡ None → list_all (has set) xs ≡ true
unfolding sum_fault
sum_within space xs set e =
    find_all (has set) xs (map_none (λ i. sum_over_absent (index_at space i).name) (find (λ i. not (has set i)) xs) e)

sums_within : (space : IndexSpace) (first : ℕ) (tree : ContractionTree) → nodes_fault space first tree ≡ None → sums_present tree ≡ true
sums_within space first (leaf t is) e = refl
sums_within space first (constant k) e = refl
sums_within space first (binary op l r) e =
    let own : Option Fault = loops_fault space (first + operations l + operations r) (loops (binary op l r)) in
    let right : Option Fault = nodes_fault space (first + operations l) r in
    and_from (sums_present l) (sums_present r)
    (sums_within space first l (or_none_left (nodes_fault space first l) (option_or right own) e))
    (sums_within space (first + operations l) r (or_none_left right own (or_none_right (nodes_fault space first l) (option_or right own) e)))
sums_within space first (sum is x) e =
    let own : Option Fault = loops_fault space (first + operations x) (loops (sum is x)) in
    let summed : Option Fault = sum_fault space is (dims x) in
    and_from (list_all (has (dims x)) is) (sums_present x)
    (sum_within space is (dims x) (or_none_left summed own (or_none_right (nodes_fault space first x) (option_or summed own) e)))
    (sums_within space first x (or_none_left (nodes_fault space first x) (option_or summed own) e))

-- what the tree of an expression without a fault keeps
pub is_tree : (space : IndexSpace) (tree : ContractionTree) → 0 < operations tree → operations tree ≤ 32 → length space.indexes ≤ 24
    → IsDeclaredTree space tree → IsTrue (sums_distinct tree) → nodes_fault space 0 tree ≡ None → IsTree tree
unfolding node_loops
is_tree space tree some limit few declared distinct e = record {
  some = some;
  limit = limit;
  well_formed = record {
    indexed = indexes_below-le (length space.indexes) 24 tree few declared;
    distinct = distinct;
    present = sums_within space 0 tree e;
  };
  few_loops = λ v h. let f = loops_faultless space 0 tree e v h in loops_few space f.0 (loops (node tree v)) f.1;
}

pub is_measured : (space : IndexSpace) (tree : ContractionTree) → IsDeclaredTree space tree → nodes_fault space 0 tree ≡ None → IsMeasured space tree
unfolding node_loops
is_measured space tree declared e = record {
  declared = declared;
  limit = λ v h. let f = loops_faultless space 0 tree e v h in loops_small space f.0 (loops (node tree v)) f.1;
}

-- the fault of a tree with a node is the first of its nodes
fault_of_nodes : (space : IndexSpace) (tree : ContractionTree) → 0 < operations tree → fault_of space tree ≡ nodes_fault space 0 tree
unfolding fault_of
fault_of_nodes space tree h = ap (λ b. cond b (Some no_operation) (nodes_fault space 0 tree)) (ne_eqb (operations tree) 0 (omega arith))

pub fault_of_none : (space : IndexSpace) (tree : ContractionTree) → operations tree ≡ 0 → fault_of space tree ≡ Some no_operation
unfolding fault_of
fault_of_none space tree h = ap (λ b. cond b (Some no_operation) (nodes_fault space 0 tree)) (eq-eqb (operations tree) 0 h)

pub fault_of_faultless : (space : IndexSpace) (tree : ContractionTree) → 0 < operations tree → nodes_fault space 0 tree ≡ None → fault_of space tree ≡ None
fault_of_faultless space tree h e = fault_of_nodes space tree h ∙ e

no_nodes_no_fault : (space : IndexSpace) (first : ℕ) (tree : ContractionTree) → operations tree ≡ 0 → nodes_fault space first tree ≡ None
no_nodes_no_fault space first (leaf t is) h = refl
no_nodes_no_fault space first (constant k) h = refl
no_nodes_no_fault space first (binary op l r) h = absurd (omega arith)
no_nodes_no_fault space first (sum is x) h = absurd (omega arith)

shows_same : (a b : Option Fault) (fault : TreeFault) → a ≡ b → Shows a fault → Shows b fault
shows_same a b NoOperation e s = sym e ∙ s
shows_same a b (SumOverAbsent name) e s = sym e ∙ s
shows_same a b (TooManyLoops v) e s = sym e ∙ s
shows_same a b (VolumeTooLarge v) e s = sym e ∙ s
shows_same a b Memory e s = tt

not_none : (a : Option Fault) (fault : TreeFault) → a ≡ None → Shows a fault → fault ≡ Memory
not_none a NoOperation e s = absurd (let k : None ≡ Some no_operation = sym e ∙ s in let j : ⊥ = cc in j)
not_none a (SumOverAbsent name) e s = absurd (let k : None ≡ Some (sum_over_absent name.bytes) = sym e ∙ s in let j : ⊥ = cc in j)
not_none a (TooManyLoops v) e s = absurd (let k : None ≡ Some (too_many_loops v) = sym e ∙ s in let j : ⊥ = cc in j)
not_none a (VolumeTooLarge v) e s = absurd (let k : None ≡ Some (volume_too_large v) = sym e ∙ s in let j : ⊥ = cc in j)
not_none a Memory e s = refl

-- a fault of the nodes is the fault of the tree
pub shows_tree : (space : IndexSpace) (tree : ContractionTree) (n : ℕ) (fault : TreeFault) → n ≡ 0 → Shows (nodes_fault space n tree) fault → Shows (fault_of space tree) fault
shows_tree space tree n fault z s =
    elim (cases_lt 0 (operations tree)) [
      | inl h ↦ shows_same (nodes_fault space n tree) (fault_of space tree) fault (ap (λ k. nodes_fault space k tree) z ∙ sym (fault_of_nodes space tree h)) s
      | inr h ↦ shows_memory (fault_of space tree) fault (not_none (nodes_fault space n tree) fault (no_nodes_no_fault space n tree (omega arith)) s)
    ]

-- the nodes that a program has appended for a tree
pub built_is : (nodes : List Node) (tree : ContractionTree) → nodes ≡ flat 0 tree → 0 < operations tree → tree_of_nodes nodes ≡ tree
built_is nodes tree e h = ap tree_of_nodes e ∙ tree_of_nodes-flat tree h

pub built : (nodes : List Node) (tree : ContractionTree) → nodes ≡ flat 0 tree → IsTree tree → AreNodes nodes
built nodes tree e t =
    let is = built_is nodes tree e t.some in
    record {
      flat_is = e ∙ ap (flat 0) (sym is);
      is_tree = rw is t;
    }

pub nodes_from : (old new : List Node) (tree : ContractionTree) → old ≡ [] → new ≡ old ++ flat (length old) tree → new ≡ flat 0 tree
nodes_from old new tree e is = is ∙ ap (λ xs. xs ++ flat (length xs) tree) e
