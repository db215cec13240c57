-- The candidates of the operands of a node.
use Rattle.std.proofs.Common.{◌≡◌, ℕ, ◌+◌, ◌<◌, ◌≤◌, true, Option, Some, None, List, [], ◌∷◌, ◌++◌, map, length, get_or, refl, sym, ap, ◌∙◌, subst, inl, inr, arith}
use Rattle.std.specs.Prelude.{IfSome}
use Rattle.std.specs.List.{All}
use Rattle.std.proofs.lemmas.Bool.{cases_lt}
use Rattle.std.proofs.lemmas.List.{length-map, get_or-map, get_or_past, get_or_append_left}
use Rattle.std.proofs.lemmas.List.Elements.{All-cons, All-nil}
use Rattle.tce_space.specs.IndexSet.{count}
use Rattle.tce_space.specs.Space.{IndexSpace}
use Rattle.tce_tree.specs.ContractionTree.{ContractionTree, leaf, constant, is_leaf, operations, node}
use Rattle.tce_tree.specs.FlatTree.{IsBefore, left_of, right_of}
use Rattle.tce_tree.specs.declared.node.Operand.{Operand}
use Rattle.tce_tree.specs.declared.node.Operand.TheVariants.{Leaf, Constant, Node}
use Rattle.tce_tree.proofs.Nodes.{size_bounds, node_of_some}
use Rattle.tce_tree.proofs.Operands.{left_before, right_before}
use Rattle.tce_fusion.specs.Row.{rows_at}
use Rattle.tce_fusion.specs.Cover.{operand_rows, right_operand_rows, left_rows, right_rows}
use Rattle.tce_fusion.specs.Reached.{tree_of_operand, tree_of_right, left_below, right_below}
use Rattle.tce_fusion.proofs.Operands.{operations-node}
use Rattle.tce_fusion.proofs.Reached.{operands_are_joined}
use Rattle.tce_search.specs.declared.candidate.Candidate.{Candidate}
use Rattle.tce_search.specs.Candidates.{IsLimited, HaveRoom, AreOperands}
use Rattle.tce_search.specs.Laws.{rows_of}
use Rattle.tce_search.specs.Reached.{IsStateOf}
use Rattle.tce_search.proofs.ReachedStates.{leaves_have_states}
use Rattle.tce_search.specs.CandidateLists.{candidates_at, tables_of, leaf_candidate, operand_candidates, right_operand_candidates, left_candidates, right_candidates, Searched, IsKept, AreKept}

-- ---- their rows

pub tables-at : (found : List (List Candidate)) (v : ℕ) → rows_at (tables_of found) v ≡ rows_of (candidates_at found v)
tables-at found v = elim (cases_lt v (length found)) [
  | inl low ↦ get_or-map rows_of found v [] [] low
  | inr high ↦
      let none : length (map rows_of found) ≤ v = rw length-map high in
      get_or_past (map rows_of found) v [] none ∙ sym (ap rows_of (get_or_past found v [] high))
]

operand_rows-are : (found : List (List Candidate)) (operand : Operand) → operand_rows (tables_of found) operand ≡ rows_of (operand_candidates found operand)
operand_rows-are found (Leaf reference) = refl
operand_rows-are found (Constant number) = refl
operand_rows-are found (Node v) = tables-at found v

right_operand_rows-are : (found : List (List Candidate)) (operand : Option Operand) → right_operand_rows (tables_of found) operand ≡ rows_of (right_operand_candidates found operand)
right_operand_rows-are found None = refl
right_operand_rows-are found (Some operand) = operand_rows-are found operand

pub left_rows-are : (tree : ContractionTree) (found : List (List Candidate)) (v : ℕ) → left_rows tree (tables_of found) v ≡ rows_of (left_candidates tree found v)
left_rows-are tree found v = operand_rows-are found (left_of tree v)

pub right_rows-are : (tree : ContractionTree) (found : List (List Candidate)) (v : ℕ) → right_rows tree (tables_of found) v ≡ rows_of (right_candidates tree found v)
right_rows-are tree found v = right_operand_rows-are found (right_of tree v)

-- ---- later lists do not matter

operand_candidates-push : (found : List (List Candidate)) (more : List Candidate) (operand : Operand) → IsBefore (length found) operand
    → operand_candidates (found ++ more ∷ []) operand ≡ operand_candidates found operand
operand_candidates-push found more (Leaf reference) before = refl
operand_candidates-push found more (Constant number) before = refl
operand_candidates-push found more (Node v) before = get_or_append_left found (more ∷ []) [] v before

right_operand_candidates-push : (found : List (List Candidate)) (more : List Candidate) (operand : Option Operand) → IfSome operand (IsBefore (length found))
    → right_operand_candidates (found ++ more ∷ []) operand ≡ right_operand_candidates found operand
right_operand_candidates-push found more None before = refl
right_operand_candidates-push found more (Some operand) before = operand_candidates-push found more operand before

pub left_candidates-push : (tree : ContractionTree) (found : List (List Candidate)) (more : List Candidate) (v : ℕ) → v < operations tree → length found ≡ v
    → left_candidates tree (found ++ more ∷ []) v ≡ left_candidates tree found v
left_candidates-push tree found more v inside next =
    operand_candidates-push found more (left_of tree v) (subst (λ n. IsBefore n (left_of tree v)) (sym next) (left_before tree v inside))

pub right_candidates-push : (tree : ContractionTree) (found : List (List Candidate)) (more : List Candidate) (v : ℕ) → v < operations tree → length found ≡ v
    → right_candidates tree (found ++ more ∷ []) v ≡ right_candidates tree found v
right_candidates-push tree found more v inside next =
    right_operand_candidates-push found more (right_of tree v) (subst (λ n. IfSome (right_of tree v) (IsBefore n)) (sym next) (right_before tree v inside))

-- ---- what is kept of them

-- it has no more sets than there are operations
pub sets_kept : (space : IndexSpace) (tree : ContractionTree) (least : ℕ) (candidate : Candidate) → IsKept space tree least candidate → length candidate.sets.items ≤ operations tree
sets_kept space tree least candidate kept = elim kept.kind [ inl is ↦ omega (arith, is.count) | inr none ↦ omega (arith, none.fewer) ]

-- it is a state where it has as many
pub full_is_state : (space : IndexSpace) (tree : ContractionTree) (least : ℕ) (candidate : Candidate) → IsKept space tree least candidate → operations tree ≤ length candidate.sets.items
    → IsStateOf space tree candidate
full_is_state space tree least candidate kept full = elim kept.kind [ inl is ↦ is | inr none ↦ absurd (omega (arith, none.fewer, full)) ]

module _ (space : IndexSpace) (tree : ContractionTree) (found : Searched) (all : AreKept space tree found) where
  leaf_kept : (subtree : ContractionTree) → is_leaf subtree ≡ true → All (IsKept space subtree found.least) (leaf_candidate ∷ [])
  leaf_kept subtree leaf_tree =
      All-cons (IsKept space subtree found.least) leaf_candidate [] (record { limited = omega arith; kind = inl (leaves_have_states space subtree leaf_candidate leaf_tree refl refl) })
      (All-nil (IsKept space subtree found.least))

  operand_kept : (operand : Operand) → IsBefore (length found.lists) operand → All (IsKept space (tree_of_operand tree operand) found.least) (operand_candidates found.lists operand)
  operand_kept (Leaf reference) before = leaf_kept (leaf reference.tensor reference.indexes.items) refl
  operand_kept (Constant number) before = leaf_kept (constant number) refl
  operand_kept (Node v) before = all v before

  right_operand_kept : (operand : Option Operand) → IfSome operand (IsBefore (length found.lists)) → All (IsKept space (tree_of_right tree operand) found.least) (right_operand_candidates found.lists operand)
  right_operand_kept None before = leaf_kept (constant 0) refl
  right_operand_kept (Some operand) before = operand_kept operand before

  pub left_kept : (v : ℕ) → v < operations tree → length found.lists ≡ v → All (IsKept space (left_below tree v) found.least) (left_candidates tree found.lists v)
  left_kept v inside next = operand_kept (left_of tree v) (subst (λ n. IsBefore n (left_of tree v)) (sym next) (left_before tree v inside))

  pub right_kept : (v : ℕ) → v < operations tree → length found.lists ≡ v → All (IsKept space (right_below tree v) found.least) (right_candidates tree found.lists v)
  right_kept v inside next = right_operand_kept (right_of tree v) (subst (λ n. IfSome (right_of tree v) (IsBefore n)) (sym next) (right_before tree v inside))

-- the subtrees of both operands and the node itself are the subtree of the node
pub operand_sizes : (tree : ContractionTree) (v : ℕ) → v < operations tree → operations (node tree v) ≡ operations (left_below tree v) + operations (right_below tree v) + 1
operand_sizes tree v inside =
    let both = operands_are_joined tree v inside in
    let bounds = size_bounds tree v inside in
    let whole = operations-node (node tree v) (node_of_some (node tree v) bounds.0) in
    rw (both.0, both.1) (omega (arith, whole))

module _ (space : IndexSpace) (tree : ContractionTree) (found : Searched) (v : ℕ) (few : operations tree ≤ 32) (all : AreKept space tree found)
    (inside : v < operations tree) (next : length found.lists ≡ v) where
  left_limited : All IsLimited (left_candidates tree found.lists v)
  left_limited k d low = (left_kept space tree found all v inside next k d low).limited

  right_limited : All IsLimited (right_candidates tree found.lists v)
  right_limited k d low = (right_kept space tree found all v inside next k d low).limited

  have_room : HaveRoom (left_candidates tree found.lists v) (right_candidates tree found.lists v)
  have_room k d low m e inner =
      let left = sets_kept space (left_below tree v) found.least (get_or (left_candidates tree found.lists v) k d) (left_kept space tree found all v inside next k d low) in
      let right = sets_kept space (right_below tree v) found.least (get_or (right_candidates tree found.lists v) m e) (right_kept space tree found all v inside next m e inner) in
      omega (arith, few, left, right, operand_sizes tree v inside, size_bounds tree v inside)

  pub are_operands : (loops : ℕ) (lefts rights : List Candidate) → count loops ≤ 10 → lefts ≡ left_candidates tree found.lists v → rights ≡ right_candidates tree found.lists v → AreOperands loops lefts rights
  are_operands loops lefts rights few_loops a b = rw (a, b) (record { few = few_loops; limited_left = left_limited; limited_right = right_limited; room = have_room })
