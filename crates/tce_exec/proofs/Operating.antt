-- The words with which nodes compute, and what their operations do.
use Rattle.std.proofs.Common.{◌≡◌, ℕ, ◌+◌, ◌-◌, ◌<◌, ◌≤◌, true, false, not, ltb, ltb-true, List, Option, Some, Result, Ok, Err, OnOk, refl, sym, ap, ap₂, ◌∙◌, subst, inl, inr, arith}
use Rattle.std.specs.Option.{ForSome}
use Rattle.std.specs.List.{list_all}
use Rattle.std.proofs.lemmas.List.Elements.{All-from_recursion}
use Rattle.tce_base.specs.Word.{wrapping_add}
use Rattle.std.proofs.lemmas.Bool.{cases_lt, and_parts, or_left, or_right, true≢false}
use Rattle.tce_space.specs.IndexSet.{has}
use Rattle.tce_space.specs.Space.{extent_at}
use Rattle.tce_space.proofs.IndexSetLaws.{has-minus, has-union}
use Rattle.tce_tree.specs.ContractionTree.{ContractionTree, Arithmetic, multiply, add, subtract, leaf, constant, binary, sum, dims, loops, is_leaf, operations, node, node_dims, node_loops, left_tree, right_tree, parent}
use Rattle.tce_tree.specs.FlatTree.{IsTree, operand_of, left_operand, right_operand, first_number_of, left_of, right_of, kind_of, arithmetic_kind}
use Rattle.tce_tree.specs.Fusion.{kept_dims, fused_at}
use Rattle.tce_tree.specs.Value.{Assignment, arithmetic}
use Rattle.tce_tree.specs.WellFormed.{indexes_below}
use Rattle.tce_tree.specs.declared.node.Operand.{Operand}
use Rattle.tce_tree.specs.declared.node.Kind.{Kind}
use Rattle.tce_tree.specs.declared.node.Operand.TheVariants.{Node}
use Rattle.tce_tree.proofs.Lists.{among-all}
use Rattle.tce_tree.proofs.NamedIndexes.{has-set_of_list, indexes_below-node}
use Rattle.tce_tree.proofs.Nodes.{size_bounds, node-left, node-right_at, node-operand, node-root, part, in_left, in_right, at_root, node-positive}
use Rattle.tce_tree.proofs.Operands.{parents_have_operands, left_is_before, right_is_before}
use Rattle.tce_tree.proofs.Parents.{parent_is, dims_within_parent, dims_within_loops}
use Rattle.tce_tree.proofs.Assignments.{numbers_inside}
use Rattle.tce_code.specs.Execution.{Setting, State, coordinates, with_word, operand_word, left_word, right_word, exec}
use Rattle.tce_code.specs.Generation.{computing}
use Rattle.tce_code.proofs.Emitted.{node-not_leaf}
use Rattle.tce_exec.specs.NodeStates.{Places}
use Rattle.tce_cache.specs.Cache.{IsCache}
use Rattle.tce_walk.specs.Machine.{operation_of_node, IsNodeAt}
use Rattle.tce_exec.specs.Workspace.{Workspace, setting_in, state_in}
use Rattle.tce_exec.specs.Prepared.{IsOperand, HasOperands, IsPrepared}
use Rattle.tce_exec.specs.Operands.{word_of_node, word_of_operand, second_word, combined, word_of_operation, IsPlaceOf, IsElementOf, IsReadable}
use Rattle.tce_exec.specs.Steps.{IsKept, IsRead}
use Rattle.tce_exec.proofs.Workspaces.{kept_setting}
use Rattle.tce_exec.proofs.Reading.{each_of}

-- ---- operands have words

leaf_readable : (x : Workspace) (t : ℕ) (is : List ℕ) (a : Assignment) → IsOperand x t is → indexes_below 24 (leaf t is) ≡ true
    → ((i : ℕ) → has (dims (leaf t is)) i ≡ true → a i < extent_at x.places.space i) → IsElementOf x (record { tensor = t; indexes = record { items = is } }) a
leaf_readable x t is a operand below inside = record {
  operand = operand;
  known = All-from_recursion (λ i. i < 24) is (each_of (λ i. i < 24) is (λ i m. ltb-true i 24 (among-all (λ j. ltb j 24) is i below m)));
  inside = numbers_inside (extent_at x.places.space) a is (λ i m. inside i (has-set_of_list is i below ∙ m));
}

operand_readable : (x : Workspace) (first : ℕ) (c : ContractionTree) (a : Assignment) → HasOperands x c → indexes_below 24 c ≡ true
    → ((i : ℕ) → has (dims c) i ≡ true → a i < extent_at x.places.space i) → ((u : ℕ) → operand_of first c ≡ Node u → IsPlaceOf x u a) → IsReadable x (operand_of first c) a
operand_readable x first (leaf t is) a has_all below inside nodes = leaf_readable x t is a has_all below inside
operand_readable x first (constant n) a has_all below inside nodes = tt
operand_readable x first (binary op l r) a has_all below inside nodes = nodes (first + operations l + operations r) refl
operand_readable x first (sum is e) a has_all below inside nodes = nodes (first + operations e) refl

left_readable : (x : Workspace) (first : ℕ) (n : ContractionTree) (a : Assignment) → is_leaf n ≡ false → HasOperands x n → indexes_below 24 n ≡ true
    → ((i : ℕ) → has (loops n) i ≡ true → a i < extent_at x.places.space i) → ((u : ℕ) → left_operand first n ≡ Node u → IsPlaceOf x u a) → IsReadable x (left_operand first n) a
left_readable x first (leaf t is) a inner has_all below inside nodes = absurd (true≢false inner)
left_readable x first (constant k) a inner has_all below inside nodes = absurd (true≢false inner)
left_readable x first (binary op l r) a inner has_all below inside nodes =
    operand_readable x first l a has_all.0 (and_parts (indexes_below 24 l) (indexes_below 24 r) below).0
    (λ i h. inside i (has-union (dims l) (dims r) i ∙ or_left (has (dims l) i) (has (dims r) i) h)) nodes
left_readable x first (sum is e) a inner has_all below inside nodes =
    operand_readable x first e a has_all (and_parts (list_all (λ j. ltb j 24) is) (indexes_below 24 e) below).1 inside nodes

right_readable : (x : Workspace) (first : ℕ) (n : ContractionTree) (a : Assignment) → HasOperands x n → indexes_below 24 n ≡ true
    → ((i : ℕ) → has (loops n) i ≡ true → a i < extent_at x.places.space i) → ((u : ℕ) → right_operand first n ≡ Some (Node u) → IsPlaceOf x u a)
    → (o : Operand) → right_operand first n ≡ Some o → IsReadable x o a
right_readable x first (leaf t is) a has_all below inside nodes o e = absurd (cc)
right_readable x first (constant k) a has_all below inside nodes o e = absurd (cc)
right_readable x first (binary op l r) a has_all below inside nodes o e =
    let same : operand_of (first + operations l) r ≡ o = cc in
    subst (λ o. IsReadable x o a) same (operand_readable x (first + operations l) r a has_all.1 (and_parts (indexes_below 24 l) (indexes_below 24 r) below).1
    (λ i h. inside i (has-union (dims l) (dims r) i ∙ or_right (has (dims l) i) (has (dims r) i) h)) (λ u k. nodes u (ap (λ o. Some o) k)))
right_readable x first (sum is c) a has_all below inside nodes o e = absurd (cc)

pub operands_at : (x : Workspace) (tree : ContractionTree) (v : ℕ) → v < operations tree → HasOperands x tree → HasOperands x (node tree v)
operands_at x (leaf t is) v inside h = absurd (omega arith)
operands_at x (constant k) v inside h = absurd (omega arith)
operands_at x (binary op l r) v inside h =
    elim (part l r v inside) [
      | in_left b ↦ rw (node-left op l r v b) (operands_at x l v b h.0)
      | in_right b c ↦ rw (node-right_at op l r v b c) (operands_at x r (v - operations l) (omega arith) h.1)
      | at_root e ↦ rw (node-root (binary op l r) v (omega arith)) h
    ]
operands_at x (sum is e) v inside h =
    elim (cases_lt v (operations e)) [
      | inl b ↦ rw (node-operand is e v b) (operands_at x e v b h)
      | inr b ↦ rw (node-root (sum is e) v (omega arith)) h
    ]

-- ---- places of nodes

pub kept_in_dims : (tree : ContractionTree) (fusion : List ℕ) (v i : ℕ) → has (kept_dims tree fusion v) i ≡ true → has (dims (node tree v)) i ≡ true
unfolding kept_dims node_dims
kept_in_dims tree fusion v i h = (and_parts (has (dims (node tree v)) i) (not (has (fused_at fusion v) i)) (sym (has-minus (dims (node tree v)) (fused_at fusion v) i) ∙ h)).0

pub own_place : (x : Workspace) (v : ℕ) (a : Assignment) → IsNodeAt (setting_in x) v a → IsPlaceOf x v a
unfolding node_loops
own_place x v a at = record {
  known = at.known;
  inside = λ i h. at.inside i (dims_within_loops (node x.places.tree v) i (size_bounds x.places.tree v at.known).0 (kept_in_dims x.places.tree x.places.fusion v i h));
}

operand_place : (x : Workspace) (v u : ℕ) (a : Assignment) → IsNodeAt (setting_in x) v a → u < operations x.places.tree → parent x.places.tree u ≡ Some v → IsPlaceOf x u a
unfolding node_loops
operand_place x v u a at known above = record {
  known = known;
  inside = λ i h. at.inside i (dims_within_parent x.places.tree u v (parent_is x.places.tree u v above) i (kept_in_dims x.places.tree x.places.fusion u i h));
}

pub readable_left : (x : Workspace) (v : ℕ) (a : Assignment) → IsTree x.places.tree → IsPrepared x → IsNodeAt (setting_in x) v a → IsReadable x (left_of x.places.tree v) a
unfolding node_loops left_of
readable_left x v a tree is at =
    left_readable x (first_number_of x.places.tree v) (node x.places.tree v) a (node-not_leaf x.places.tree v at.known) (operands_at x x.places.tree v at.known is.operands)
    (indexes_below-node 24 x.places.tree v at.known tree.well_formed.indexed) at.inside
    (λ u e.
    let low : u < v = left_is_before x.places.tree v (Node u) at.known (sym e) in
    operand_place x v u a at (omega (arith, low, at.known)) ((parents_have_operands x.places.tree u v (omega (arith, low, at.known)) at.known).1 (inl e)))

pub readable_right : (x : Workspace) (v : ℕ) (a : Assignment) (o : Operand) → IsTree x.places.tree → IsPrepared x → IsNodeAt (setting_in x) v a
    → right_of x.places.tree v ≡ Some o → IsReadable x o a
unfolding node_loops right_of
readable_right x v a o tree is at e =
    right_readable x (first_number_of x.places.tree v) (node x.places.tree v) a (operands_at x x.places.tree v at.known is.operands)
    (indexes_below-node 24 x.places.tree v at.known tree.well_formed.indexed) at.inside
    (λ u e.
    let low : u < v = right_is_before x.places.tree v (Node u) at.known (sym e) in
    operand_place x v u a at (omega (arith, low, at.known)) ((parents_have_operands x.places.tree u v (omega (arith, low, at.known)) at.known).1 (inr e))) o e

-- ---- what an operation does

named_word : (s : Setting) (first u : ℕ) (c : ContractionTree) (state : State) (a : Assignment) → (is_leaf c ≡ false → u + 1 ≡ first + operations c)
    → operand_word s c u state a ≡ word_of_operand s (operand_of first c) state a
named_word s first u (leaf t is) state a h = refl
named_word s first u (constant n) state a h = refl
named_word s first u (binary op l r) state a h =
    let same : u ≡ first + operations l + operations r = omega (arith, h refl) in ap (λ n. word_of_node s n state a) same
named_word s first u (sum is e) state a h =
    let same : u ≡ first + operations e = omega (arith, h refl) in ap (λ n. word_of_node s n state a) same

left_named : (s : Setting) (v : ℕ) (n : ContractionTree) (state : State) (a : Assignment) → is_leaf n ≡ false → operations n ≤ v + 1
    → operand_word s (left_tree n) (v - 1 - operations (right_tree n)) state a ≡ word_of_operand s (left_operand (v + 1 - operations n) n) state a
left_named s v (leaf t is) state a inner le = absurd (true≢false inner)
left_named s v (constant n) state a inner le = absurd (true≢false inner)
left_named s v (binary op l r) state a inner le =
    named_word s (v + 1 - (operations l + operations r + 1)) (v - 1 - operations r) l state a (λ h. omega (arith, le, node-positive l h))
left_named s v (sum is e) state a inner le =
    named_word s (v + 1 - (operations e + 1)) (v - 1 - 0) e state a (λ h. omega (arith, le, node-positive e h))

pub left_word_is : (s : Setting) (v : ℕ) (state : State) (a : Assignment) → v < operations s.tree → left_word s v state a ≡ word_of_operand s (left_of s.tree v) state a
unfolding left_of first_number_of
left_word_is s v state a inside = left_named s v (node s.tree v) state a (node-not_leaf s.tree v inside) (size_bounds s.tree v inside).1

right_named : (s : Setting) (v : ℕ) (n : ContractionTree) (op : Arithmetic) (l r : ContractionTree) (state : State) (a : Assignment) → n ≡ binary op l r → operations n ≤ v + 1
    → operand_word s (right_tree n) (v - 1) state a ≡ second_word s v (right_operand (v + 1 - operations n) n) state a
right_named s v n op l r state a e le =
    subst (λ n. operand_word s (right_tree n) (v - 1) state a ≡ second_word s v (right_operand (v + 1 - operations n) n) state a) (sym e)
    (named_word s (v + 1 - (operations l + operations r + 1) + operations l) (v - 1) r state a
    (λ h. let le' : operations l + operations r + 1 ≤ v + 1 = subst (λ n. operations n ≤ v + 1) e le in omega (arith, le', node-positive r h)))

pub right_word_is : (s : Setting) (v : ℕ) (op : Arithmetic) (l r : ContractionTree) (state : State) (a : Assignment) → v < operations s.tree → node s.tree v ≡ binary op l r
    → right_word s v state a ≡ second_word s v (right_of s.tree v) state a
unfolding right_of first_number_of
right_word_is s v op l r state a inside e = right_named s v (node s.tree v) op l r state a e (size_bounds s.tree v inside).1

sum_alone : (s : Setting) (v : ℕ) (is : List ℕ) (c : ContractionTree) (state : State) (a : Assignment) → node s.tree v ≡ sum is c
    → second_word s v (right_of s.tree v) state a ≡ word_of_node s v state a
unfolding right_of first_number_of
sum_alone s v is c state a e = ap (λ n. second_word s v (right_operand (v + 1 - operations n) n) state a) e

kind_combines : (op : Arithmetic) (x y : ℕ) → combined (arithmetic_kind op) x y ≡ arithmetic op x y
kind_combines multiply x y = refl
kind_combines add x y = refl
kind_combines subtract x y = refl

-- the operation of a node puts its word at its place
pub operation_puts : (s : Setting) (v : ℕ) (state : State) (a : Assignment) (w : ℕ) → v < operations s.tree → w ≡ word_of_operation s v state a
    → with_word state v (coordinates (kept_dims s.tree s.fusion v) a) w ≡ exec s (operation_of_node s.tree v) state a
operation_puts s v state a w inside e = by_node (node s.tree v) refl
  where
    x : ℕ
    x = word_of_operand s (left_of s.tree v) state a

    y : ℕ
    y = second_word s v (right_of s.tree v) state a

    by_node : (n : ContractionTree) → node s.tree v ≡ n → with_word state v (coordinates (kept_dims s.tree s.fusion v) a) w ≡ exec s (computing n v) state a
    by_node (leaf t is) q = absurd (true≢false (sym (ap is_leaf q) ∙ node-not_leaf s.tree v inside))
    by_node (constant k) q = absurd (true≢false (sym (ap is_leaf q) ∙ node-not_leaf s.tree v inside))
    by_node (binary op l r) q =
        ap (with_word state v (coordinates (kept_dims s.tree s.fusion v) a))
        (e ∙ ap (λ n. combined (kind_of n) x y) q ∙ kind_combines op x y
        ∙ ap₂ (arithmetic op) (sym (left_word_is s v state a inside)) (sym (right_word_is s v op l r state a inside q)))
    by_node (sum is c) q =
        ap (with_word state v (coordinates (kept_dims s.tree s.fusion v) a))
        (e ∙ ap (λ n. combined (kind_of n) x y) q ∙ ap₂ wrapping_add (sum_alone s v is c state a q) (sym (left_word_is s v state a inside)))

-- ---- words that are read one after the other

-- what is read after a first read is the word from before it
pub word_before : (n : ℕ) (x y : Workspace) (word : ℕ) (value : Setting → State → ℕ) → IsCache x.cache → IsKept x y → IsRead n x y
    → ForSome (state_in y) (λ state. word ≡ value (setting_in y) state) → ForSome (state_in x) (λ state. word ≡ value (setting_in x) state)
word_before n x y word value is kept read h = λ state told.
    h state (read.state ∙ told) ∙ ap (λ s. value s state) (kept_setting x y is kept)

pub both_words : (s : Setting) (v : ℕ) (state : Option State) (a : Assignment) (k : Kind) (o : Operand) (first second word : ℕ) → k ≡ kind_of (node s.tree v) → o ≡ left_of s.tree v
    → ForSome state (λ state. first ≡ word_of_operand s o state a) → ForSome state (λ state. second ≡ second_word s v (right_of s.tree v) state a)
    → word ≡ combined k first second → ForSome state (λ state. word ≡ word_of_operation s v state a)
both_words s v state a k o first second word kind left h i e = λ t told.
    e ∙ ap (λ k. combined k first second) kind
    ∙ ap₂ (combined (kind_of (node s.tree v))) (h t told ∙ ap (λ o. word_of_operand s o t a) left) (i t told)

-- a node's numbers are so for each workspace with these places
pub node_after : (x y : Workspace) (v : ℕ) (a : Assignment) → IsKept x y → IsPlaceOf x v a → IsPlaceOf y v a
node_after x y v a kept h = record {
  known = subst (λ (p : Places). v < operations p.tree) (sym kept.places) h.known;
  inside = λ i m.
      subst (λ (p : Places). a i < extent_at p.space i) (sym kept.places)
      (h.inside i (subst (λ (p : Places). has (kept_dims p.tree p.fusion v) i ≡ true) kept.places m));
}

-- what follows from what holds of a success
pub ok_then : {T E : Type 0} → (r : Result T E) (P Q : Type 0) → (P → Q) → OnOk r P → OnOk r Q
ok_then (Ok v) P Q f h = f h
ok_then (Err e) P Q f h = tt
