-- Fusions of the whole tree that candidates of the root's operands make.
use Rattle.std.proofs.Common.{◌≡◌, ℕ, ◌+◌, ◌-◌, ◌<◌, ◌≤◌, Option, Some, None, List, [], ◌∷◌, ◌++◌, length, get_or, refl, sym, ap, ◌∙◌, subst, inl, inr, arith}
use Rattle.std.specs.Prelude.{IfSome, IsSome}
use Rattle.std.specs.List.{All, Any, Contains}
use Rattle.std.proofs.lemmas.List.{length-append, length_push, length-map, get_or-map, get_or_default}
use Rattle.std.proofs.lemmas.List.Elements.{All-contains, All-map}
use Rattle.tce_space.specs.IndexSet.{empty}
use Rattle.tce_space.specs.Space.{IndexSpace}
use Rattle.tce_tree.specs.ContractionTree.{ContractionTree, operations, node_loops}
use Rattle.tce_tree.proofs.Nodes.{node-root}
use Rattle.tce_tree.proofs.Parents.{parent_is}
use Rattle.tce_fusion.specs.Relation.{HasNoConflict}
use Rattle.tce_fusion.specs.Row.{Row, rows_joined}
use Rattle.tce_fusion.specs.Cover.{NodesCovered, RootBelow, ArePruned}
use Rattle.tce_fusion.specs.Reached as reached
use Rattle.tce_fusion.specs.Reached.{left_below, right_below, IsLegalWith}
use Rattle.tce_fusion.proofs.Covers.{total_is_bound}
use Rattle.tce_fusion.proofs.Reached.{root_is_reached}
use Rattle.tce_fusion.proofs.Unfused.{some_rows_join}
use Rattle.tce_search.specs.declared.candidate.Candidate.{Candidate}
use Rattle.tce_search.specs.Laws.{rows_of}
use Rattle.tce_search.specs.declared.root.WholeFusion.{WholeFusion}
use Rattle.tce_search.specs.CandidateLists.{tables_of, leaf_candidate, left_candidates, right_candidates, Searched, IsKept, AreFound}
use Rattle.tce_search.specs.LeastPlan.{IsBelowFusions}
use Rattle.tce_search.specs.Root.{IsMadeOfSome, IsAtMost, IsBound, IsBoundOfAll}
use Rattle.tce_search.proofs.Growing.{found_kept}
use Rattle.tce_search.proofs.Operands.{tables-at, left_rows-are, right_rows-are, left_kept, right_kept, sets_kept, full_is_state, operand_sizes}

-- ---- the best of two lists

pub at_most_some : (best : Option WholeFusion) (limit : ℕ) → IsAtMost best limit → IsSome best
at_most_some None limit h = absurd h
at_most_some (Some whole) limit h = refl

-- each element of a list of rows is that of a candidate
candidate_of_row : (candidates : List Candidate) (P : Row → Type 0) → Any P (rows_of candidates) → Any (λ (c : Candidate). P c.row) candidates
candidate_of_row candidates P found =
    let low : found.0 < length candidates = rw length-map at found.2 in
    let is = get_or-map (λ (c : Candidate). c.row) candidates found.0 leaf_candidate found.1 low in
    (found.0, get_or candidates found.0 leaf_candidate, low, same_default candidates found.0 low, subst P (sym found.3 ∙ is) found.4)
  where
    same_default : (xs : List Candidate) (k : ℕ) → k < length xs → get_or xs k (get_or xs k leaf_candidate) ≡ get_or xs k leaf_candidate
    same_default xs k low = get_or_default xs k (get_or xs k leaf_candidate) leaf_candidate low

contained : {P : Candidate → Type 0} (candidates : List Candidate) (found : Any P candidates) → Contains candidates found.1
contained candidates found = (found.0, found.2, found.3)

-- where two rows have no conflict there is a best
best_exists : (loops : ℕ) (best : Option WholeFusion) (lefts rights : List Candidate) → IsBoundOfAll loops best lefts rights
    → Any (λ left. Any (λ right. HasNoConflict loops (rows_joined left right)) (rows_of rights)) (rows_of lefts) → IsSome best
best_exists loops best lefts rights bound some =
    let left = candidate_of_row lefts (λ l. Any (λ right. HasNoConflict loops (rows_joined l right)) (rows_of rights)) some in
    let right = candidate_of_row rights (λ r. HasNoConflict loops (rows_joined left.1.row r)) left.4 in
    let of_left = All-contains (λ l. All (IsBound loops best l) rights) lefts left.1 bound (contained lefts left) in
    let of_pair = All-contains (IsBound loops best left.1) rights right.1 of_left (contained rights right) in
    at_most_some best (left.1.row.cost + right.1.row.cost) (of_pair right.4)

-- ---- at the root

module _ (space : IndexSpace) (tree : ContractionTree) (found : Searched) (root : ℕ) (all : AreFound space tree found)
    (next : length found.lists ≡ root) (last : root + 1 ≡ operations tree) where
  is_root : root ≡ operations tree - 1
  is_root = omega arith

  pub nodes_covered : NodesCovered space tree (tables_of found.lists)
  nodes_covered v p is = let up = parent_is tree v p is in (all v (omega (arith, up.above, up.inside, next, last))).covered p is

  pub pruned : ArePruned tree (tables_of found.lists)
  pruned v p is = let up = parent_is tree v p is in rw (tables-at found.lists v) ((all v (omega (arith, up.above, up.inside, next, last))).apart p is)

  pub root_joins : (loops : ℕ) (best : Option WholeFusion) → loops ≡ node_loops tree root
      → IsBoundOfAll loops best (left_candidates tree found.lists root) (right_candidates tree found.lists root) → IsSome best
  root_joins loops best is bound =
      let joins = some_rows_join space tree (tables_of found.lists) (omega (arith, last)) nodes_covered in
      best_exists loops best (left_candidates tree found.lists root) (right_candidates tree found.lists root) bound
      (rw (is, ← left_rows-are tree found.lists root, ← right_rows-are tree found.lists root, is_root) joins)

  pub root_below : (loops : ℕ) (whole : WholeFusion) → loops ≡ node_loops tree root
      → IsBoundOfAll loops (Some whole) (left_candidates tree found.lists root) (right_candidates tree found.lists root) → RootBelow tree (tables_of found.lists) whole.memory
  root_below loops whole is bound = rw (← is_root, left_rows-are tree found.lists root, right_rows-are tree found.lists root) rows_below
    where
      rows_below : All (λ (left : Row). All (λ (right : Row). HasNoConflict (node_loops tree root) (rows_joined left right) → whole.memory ≤ left.cost + right.cost) (rows_of (right_candidates tree found.lists root))) (rows_of (left_candidates tree found.lists root))
      rows_below =
          All-map (λ (left : Row). All (λ (right : Row). HasNoConflict (node_loops tree root) (rows_joined left right) → whole.memory ≤ left.cost + right.cost) (rows_of (right_candidates tree found.lists root)))
          (λ (c : Candidate). c.row) (left_candidates tree found.lists root)
          (λ k d low.
          All-map (λ (right : Row). HasNoConflict (node_loops tree root) (rows_joined (get_or (left_candidates tree found.lists root) k d).row right) → whole.memory ≤ (get_or (left_candidates tree found.lists root) k d).row.cost + right.cost)
          (λ (c : Candidate). c.row) (right_candidates tree found.lists root)
          (λ m e inner quiet. bound k d low m e inner (rw is quiet)))

  inside : root < operations tree
  inside = omega (arith, last)

  left_of_root : (whole : WholeFusion) (from : IsMadeOfSome (node_loops tree root) (left_candidates tree found.lists root) (right_candidates tree found.lists root) whole) → IsKept space (left_below tree root) found.least from.left
  left_of_root whole from = All-contains (IsKept space (left_below tree root) found.least) (left_candidates tree found.lists root) from.left (left_kept space tree found (found_kept space tree found all) root inside next) from.from_left

  right_of_root : (whole : WholeFusion) (from : IsMadeOfSome (node_loops tree root) (left_candidates tree found.lists root) (right_candidates tree found.lists root) whole) → IsKept space (right_below tree root) found.least from.right
  right_of_root whole from = All-contains (IsKept space (right_below tree root) found.least) (right_candidates tree found.lists root) from.right (right_kept space tree found (found_kept space tree found all) root inside next) from.from_right

  -- it has the sets of both, and one more
  made_sets : (whole : WholeFusion) (from : IsMadeOfSome (node_loops tree root) (left_candidates tree found.lists root) (right_candidates tree found.lists root) whole)
      → length whole.sets.items ≡ length from.left.sets.items + length from.right.sets.items + 1
  made_sets whole from =
      let count = ap length from.made.sets_are ∙ length-append from.left.sets.items (from.right.sets.items ++ empty ∷ []) in
      omega (arith, count, length_push from.right.sets.items empty)

  -- as many as the operands' subtrees have operations, and one more
  root_sizes : operations tree ≡ operations (left_below tree root) + operations (right_below tree root) + 1
  root_sizes = subst (λ t. operations t ≡ operations (left_below tree root) + operations (right_below tree root) + 1) (node-root tree root (omega (arith, last))) (operand_sizes tree root inside)

  root_legal : (whole : WholeFusion) → length whole.sets.items ≡ operations tree
      → IsMadeOfSome (node_loops tree root) (left_candidates tree found.lists root) (right_candidates tree found.lists root) whole → IsLegalWith space tree whole.sets.items whole.memory
  root_legal whole full from =
      let left_is = left_of_root whole from in
      let right_is = right_of_root whole from in
      let count = made_sets whole from in
      let left_sets = sets_kept space (left_below tree root) found.least from.left left_is in
      let right_sets = sets_kept space (right_below tree root) found.least from.right right_is in
      let left = full_is_state space (left_below tree root) found.least from.left left_is (omega (arith, full, count, root_sizes, left_sets, right_sets)) in
      let right = full_is_state space (right_below tree root) found.least from.right right_is (omega (arith, full, count, root_sizes, left_sets, right_sets)) in
      rw (from.made.sets_are, from.made.memory_is)
      (root_is_reached space tree from.left.sets.items from.right.sets.items from.left.row from.right.row (omega (arith, last))
      (subst (λ r. reached.IsStateOf space (left_below tree r) from.left.sets.items from.left.row) is_root left)
      (subst (λ r. reached.IsStateOf space (right_below tree r) from.right.sets.items from.right.row) is_root right)
      (subst (λ r. HasNoConflict (node_loops tree r) (rows_joined from.left.row from.right.row)) is_root from.made.quiet))

  -- where it has another number of sets, one of the two is no state
  root_high : (whole : WholeFusion) → (length whole.sets.items ≡ operations tree → ⊥)
      → IsMadeOfSome (node_loops tree root) (left_candidates tree found.lists root) (right_candidates tree found.lists root) whole → found.least ≤ whole.memory
  root_high whole other from =
      let left_is = left_of_root whole from in
      let right_is = right_of_root whole from in
      let count = made_sets whole from in
      let sum = from.made.memory_is in
      elim left_is.kind [
        | inr none ↦ omega (arith, none.high, sum)
        | inl left ↦ elim right_is.kind [
          | inr none ↦ omega (arith, none.high, sum)
          | inl right ↦ absurd (other (omega (arith, count, root_sizes, left.count, right.count)))
        ]
      ]

  -- what is said of the best, said of the fusion that it is
  made_of : (loops : ℕ) (best : Option WholeFusion) (whole : WholeFusion) → best ≡ Some whole
      → IfSome best (IsMadeOfSome loops (left_candidates tree found.lists root) (right_candidates tree found.lists root)) → IsMadeOfSome loops (left_candidates tree found.lists root) (right_candidates tree found.lists root) whole
  made_of loops best whole are made = subst (λ o. IfSome o (IsMadeOfSome loops (left_candidates tree found.lists root) (right_candidates tree found.lists root))) are made

  pub whole_legal : (loops : ℕ) (best : Option WholeFusion) (whole : WholeFusion) → loops ≡ node_loops tree root → length whole.sets.items ≡ operations tree → best ≡ Some whole
      → IfSome best (IsMadeOfSome loops (left_candidates tree found.lists root) (right_candidates tree found.lists root)) → IsLegalWith space tree whole.sets.items whole.memory
  whole_legal loops best whole is full are made =
      root_legal whole full (subst (λ s. IsMadeOfSome s (left_candidates tree found.lists root) (right_candidates tree found.lists root) whole) is (made_of loops best whole are made))

  pub whole_high : (loops : ℕ) (best : Option WholeFusion) (whole : WholeFusion) → loops ≡ node_loops tree root → (length whole.sets.items ≡ operations tree → ⊥) → best ≡ Some whole
      → IfSome best (IsMadeOfSome loops (left_candidates tree found.lists root) (right_candidates tree found.lists root)) → found.least ≤ whole.memory
  whole_high loops best whole is other are made =
      root_high whole other (subst (λ s. IsMadeOfSome s (left_candidates tree found.lists root) (right_candidates tree found.lists root) whole) is (made_of loops best whole are made))

  pub whole_below : (loops : ℕ) (best : Option WholeFusion) (whole : WholeFusion) → loops ≡ node_loops tree root → best ≡ Some whole
      → IsBoundOfAll loops best (left_candidates tree found.lists root) (right_candidates tree found.lists root) → RootBelow tree (tables_of found.lists) whole.memory
  whole_below loops best whole is are bound =
      root_below loops whole is (subst (λ o. IsBoundOfAll loops o (left_candidates tree found.lists root) (right_candidates tree found.lists root)) are bound)

  -- no legal fusion takes less than the best
  pub below_fusions : (loops : ℕ) (best : Option WholeFusion) (whole : WholeFusion) → loops ≡ node_loops tree root → best ≡ Some whole
      → IsBoundOfAll loops best (left_candidates tree found.lists root) (right_candidates tree found.lists root) → IsBelowFusions space tree whole.memory
  below_fusions loops best whole is are bound =
      total_is_bound space tree (tables_of found.lists) whole.memory (record { nodes = nodes_covered; root = whole_below loops best whole is are bound })
