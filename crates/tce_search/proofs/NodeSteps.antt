-- The candidates of a node are found where those of its operands are.
use Rattle.std.proofs.Common.{Result, Ok, Err, ◌≡◌, ℕ, ◌+◌, ◌-◌, ◌<◌, ◌≤◌, ◌^◌, Some, List, [], ◌∷◌, ◌++◌, reverse, take, length, get_or, sym, ap, ◌∙◌, subst, inl, inr, arith}
use Rattle.std.specs.Prelude.{IfOk, ◌⊎◌}
use Rattle.std.specs.declared.vec.Vec.{Vec}
use Rattle.std.specs.List.{All, AllPairs, Contains, refill}
use Rattle.std.proofs.lemmas.List.{append-nil, drop_all, take_all, length-append, length-map, length-reverse, length_push, get_or-map, get_or_push, get_or-reverse, get_or_default}
use Rattle.std.proofs.lemmas.List.Elements.{All-contains, All-map, All-same, All-weaker}
use Rattle.tce_space.specs.IndexSet.{IsWithin}
use Rattle.tce_space.specs.Space.{IndexSpace}
use Rattle.tce_tree.specs.ContractionTree.{ContractionTree, operations, node, node_dims, node_loops, parent}
use Rattle.tce_fusion.specs.Relation.{HasNoConflict}
use Rattle.tce_fusion.specs.Row.{Row, AreApart, rows_at, rows_joined}
use Rattle.tce_fusion.specs.Cover.{left_rows, right_rows, StepsCovered, NodeCovered}
use Rattle.tce_fusion.specs.Reached.{left_below, right_below}
use Rattle.tce_fusion.proofs.Reached.{operands_are_joined}
use Rattle.tce_nesting.specs.Classes.{restricted}
use Rattle.tce_nesting.specs.Plan.{LiesWithin}
use Rattle.tce_nesting.specs.declared.choice.Choice.{Choice}
use Rattle.tce_nesting.specs.Choices.{AreChoices}
use Rattle.tce_search.specs.declared.candidate.Candidate.{Candidate}
use Rattle.tce_search.specs.Candidates.{AreApart as CandidatesApart, ChoiceCovered, PairCovered, IsStepOf, IsReachedBelow, IsReachedOrBound}
use Rattle.tce_search.specs.Laws.{rows_of}
use Rattle.tce_search.specs.Reached.{IsStateOf}
use Rattle.tce_search.proofs.Bounding.{restricted_within}
use Rattle.tce_search.proofs.Quantifiers.{All-of_reversed}
use Rattle.tce_search.proofs.ReachedStates.{steps_are_states}
use Rattle.tce_search.proofs.Steppings.{covered_pairs_cover_steps}
use Rattle.tce_search.specs.CandidateLists.{candidates_at, tables_of, leaf_candidate, left_candidates, right_candidates, Searched, IsKept, IsNoState, HasClassesWithin, AreCandidates, AreKept}
use Rattle.tce_search.proofs.Operands.{tables-at, left_rows-are, right_rows-are, left_candidates-push, right_candidates-push, left_kept, right_kept, sets_kept, operand_sizes}

fused_within : (space : IndexSpace) (tree : ContractionTree) (v : ℕ) (choices : List Choice) (choice : Choice) → AreChoices space tree v choices → Contains choices choice
    → IsWithin choice.fused (node_dims tree v)
fused_within space tree v choices choice all inn =
    (all.sets.each choice.fused).0
    (inn.0, rw length-map inn.1, get_or-map (λ (c : Choice). c.fused) choices inn.0 choice choice.fused inn.1 ∙ ap (λ (c : Choice). c.fused) inn.2)

classes_within : (space : IndexSpace) (tree : ContractionTree) (v loops : ℕ) (choices : List Choice) (left right candidate : Candidate) → AreChoices space tree v choices
    → IsStepOf loops choices left right candidate → HasClassesWithin (node_dims tree v) candidate
classes_within space tree v loops choices left right candidate all step =
    All-same (LiesWithin (node_dims tree v)) candidate.row.classes (restricted step.joined.classes step.choice.fused) step.step.row.classes
    (restricted_within (node_dims tree v) step.choice.fused step.joined.classes (fused_within space tree v choices step.choice all step.chosen))

-- rows are apart where their candidates are
rows_apart : (outer : ℕ) (table : List Candidate) → AllPairs (CandidatesApart outer) table → AllPairs (AreApart outer) (rows_of table)
rows_apart outer table apart i j d order low =
    let inner : j < length table = rw length-map at low in
    let first = get_or-map (λ (c : Candidate). c.row) table i leaf_candidate d (omega (arith, order, inner)) in
    let second = get_or-map (λ (c : Candidate). c.row) table j leaf_candidate d inner in
    rw (first, second) (apart i j leaf_candidate order inner)

-- where a candidate of one operand is no state, a step from it has fewer sets than there are operations
step_is_short : (tree : ContractionTree) (v : ℕ) (left right candidate : Candidate) (fused : ℕ) → v < operations tree → candidate.sets.items ≡ left.sets.items ++ (right.sets.items ++ fused ∷ [])
    → length left.sets.items + length right.sets.items < operations (left_below tree v) + operations (right_below tree v) → length candidate.sets.items < operations (node tree v)
step_is_short tree v left right candidate fused inside is short =
    let count = ap length is ∙ length-append left.sets.items (right.sets.items ++ fused ∷ []) in
    omega (arith, count, length_push right.sets.items fused, short, operand_sizes tree v inside)

module _ (space : IndexSpace) (tree : ContractionTree) (bound : ℕ) (found : Searched) (v outer : ℕ) (choices : List Choice) (table : List Candidate)
    (all : AreKept space tree found) (high : found.least ≤ bound) (inside : v < operations tree) (next : length found.lists ≡ v)
    (parent_loops : (p : ℕ) → parent tree v ≡ Some p → outer ≡ node_loops tree p)
    (are_choices : AreChoices space tree v choices)
    (covered : All (λ (left : Candidate). All (PairCovered (node_loops tree v) outer choices table left) (right_candidates tree found.lists v)) (left_candidates tree found.lists v))
    (reached : All (IsReachedOrBound bound (node_loops tree v) choices (left_candidates tree found.lists v) (right_candidates tree found.lists v)) table)
    (apart : AllPairs (CandidatesApart outer) table) where
  step_kind : (candidate : Candidate) → IsReachedBelow (2 ^ 96) (node_loops tree v) choices (left_candidates tree found.lists v) (right_candidates tree found.lists v) candidate
      → IsStateOf space (node tree v) candidate ⊎ IsNoState (node tree v) found.least candidate
  step_kind candidate from =
      let both = operands_are_joined tree v inside in
      let pair = from.reached in
      let cost = pair.step.step.row.cost in
      let sum = pair.step.joins.cost in
      let left = All-contains (IsKept space (left_below tree v) found.least) (left_candidates tree found.lists v) pair.left (left_kept space tree found all v inside next) pair.from_left in
      let right = All-contains (IsKept space (right_below tree v) found.least) (right_candidates tree found.lists v) pair.right (right_kept space tree found all v inside next) pair.from_right in
      let left_sets = sets_kept space (left_below tree v) found.least pair.left left in
      let right_sets = sets_kept space (right_below tree v) found.least pair.right right in
      let short = step_is_short tree v pair.left pair.right candidate pair.step.choice.fused inside pair.step.step.sets in
      elim left.kind [
        | inr none ↦ inr (record { fewer = short (omega (arith, none.fewer, right_sets)); high = omega (arith, none.high, cost, sum) })
        | inl of_left ↦ elim right.kind [
          | inr none ↦ inr (record { fewer = short (omega (arith, none.fewer, left_sets)); high = omega (arith, none.high, cost, sum) })
          | inl of_right ↦
              inl (steps_are_states space tree v choices pair.left pair.right candidate inside are_choices pair.step
              (subst (λ t. IsStateOf space t pair.left) both.0 of_left)
              (subst (λ t. IsStateOf space t pair.right) both.1 of_right))
        ]
      ]

  candidate_kept : (candidate : Candidate) → IsReachedOrBound bound (node_loops tree v) choices (left_candidates tree found.lists v) (right_candidates tree found.lists v) candidate
      → IsKept space (node tree v) found.least candidate
  candidate_kept candidate (inl from) = record { limited = from.cheap; kind = step_kind candidate from }
  candidate_kept candidate (inr bounds) = record {
    limited = bounds.cheap;
    kind = inr (record { fewer = omega (arith, ap length bounds.sets, operand_sizes tree v inside); high = omega (arith, high, bounds.high) });
  }

  choices_within : All (λ (choice : Choice). IsWithin choice.fused (node_dims tree v)) choices
  choices_within k d low = fused_within space tree v choices (get_or choices k d) are_choices (k, low, get_or_default choices k (get_or choices k d) d low)

  candidate_classes : (candidate : Candidate) → IsReachedOrBound bound (node_loops tree v) choices (left_candidates tree found.lists v) (right_candidates tree found.lists v) candidate
      → HasClassesWithin (node_dims tree v) candidate
  candidate_classes candidate (inl from) = classes_within space tree v (node_loops tree v) choices from.reached.left from.reached.right candidate are_choices from.reached.step
  candidate_classes candidate (inr bounds) = bounds.within (node_dims tree v) choices_within

  here : candidates_at (found.lists ++ table ∷ []) v ≡ table
  here = get_or_push found.lists table [] v next

  rows_here : rows_at (tables_of (found.lists ++ table ∷ [])) v ≡ rows_of table
  rows_here = tables-at (found.lists ++ table ∷ []) v ∙ ap rows_of here

  lefts_here : left_rows tree (tables_of (found.lists ++ table ∷ [])) v ≡ rows_of (left_candidates tree found.lists v)
  lefts_here = left_rows-are tree (found.lists ++ table ∷ []) v ∙ ap rows_of (left_candidates-push tree found.lists table v inside next)

  rights_here : right_rows tree (tables_of (found.lists ++ table ∷ [])) v ≡ rows_of (right_candidates tree found.lists v)
  rights_here = right_rows-are tree (found.lists ++ table ∷ []) v ∙ ap rows_of (right_candidates-push tree found.lists table v inside next)

  joins_covered : (o : ℕ) → outer ≡ o → All (λ (left : Row). All (λ (right : Row). HasNoConflict (node_loops tree v) (rows_joined left right)
      → StepsCovered space tree o v (rows_of table) left right) (rows_of (right_candidates tree found.lists v))) (rows_of (left_candidates tree found.lists v))
  joins_covered o is =
      All-map (λ (left : Row). All (λ (right : Row). HasNoConflict (node_loops tree v) (rows_joined left right) → StepsCovered space tree o v (rows_of table) left right) (rows_of (right_candidates tree found.lists v)))
      (λ (c : Candidate). c.row) (left_candidates tree found.lists v)
      (λ k d low.
      All-map (λ (right : Row). HasNoConflict (node_loops tree v) (rows_joined (get_or (left_candidates tree found.lists v) k d).row right) → StepsCovered space tree o v (rows_of table) (get_or (left_candidates tree found.lists v) k d).row right)
      (λ (c : Candidate). c.row) (right_candidates tree found.lists v)
      (λ m e inner quiet. subst (λ n. StepsCovered space tree n v (rows_of table) (get_or (left_candidates tree found.lists v) k d).row (get_or (right_candidates tree found.lists v) m e).row) is
      (covered_pairs_cover_steps space tree v outer choices table (get_or (left_candidates tree found.lists v) k d) (get_or (right_candidates tree found.lists v) m e) inside are_choices (covered k d low m e inner) quiet)))

  node_covered : (o : ℕ) → outer ≡ o → NodeCovered space tree (tables_of (found.lists ++ table ∷ [])) o v
  node_covered o is =
      rw (lefts_here, rights_here, rows_here) (joins_covered o is)

  pub candidates_are : AreCandidates space tree found.least (found.lists ++ table ∷ []) v
  candidates_are = record {
    kept = rw here (All-weaker (IsReachedOrBound bound (node_loops tree v) choices (left_candidates tree found.lists v) (right_candidates tree found.lists v)) (IsKept space (node tree v) found.least) candidate_kept table reached);
    classes = rw here (All-weaker (IsReachedOrBound bound (node_loops tree v) choices (left_candidates tree found.lists v) (right_candidates tree found.lists v)) (HasClassesWithin (node_dims tree v)) candidate_classes table reached);
    covered = λ p is. node_covered (node_loops tree p) (parent_loops p is);
    apart = λ p is. rw here (subst (λ o. AllPairs (AreApart o) (rows_of table)) (parent_loops p is) (rows_apart outer table apart));
  }

-- what is said of choices in the other order
all_reversed : {X : Type 0} (P : X → Type 0) (xs : List X) → All P (reverse xs) → All P xs
all_reversed P xs all k d low =
    let inside : length xs - 1 - k < length (reverse xs) = rw length-reverse (omega (arith, low)) in
    let there = get_or-reverse xs (length xs - 1 - k) d (omega (arith, low)) in
    let same : length xs - 1 - (length xs - 1 - k) ≡ k = omega (arith, low) in
    subst P (there ∙ ap (λ n. get_or xs n d) same) (all (length xs - 1 - k) d inside)

contains_reversed : {X : Type 0} (xs : List X) (x : X) → Contains (reverse xs) x → Contains xs x
contains_reversed xs x inn =
    let low : inn.0 < length xs = rw length-reverse at inn.1 in
    (length xs - 1 - inn.0, omega (arith, low), sym (get_or-reverse xs inn.0 x low) ∙ inn.2)

-- a list that is turned in its place
pub refill_reversed : {X : Type 0} (xs seen new : List X) → seen ≡ xs → new ≡ reverse seen → refill (length xs) xs new ≡ reverse xs
refill_reversed {X} xs seen new same turned =
    let is : new ≡ reverse xs = turned ∙ ap reverse same in
    let count : length (reverse xs) ≡ length xs = length-reverse xs in
    ap (refill (length xs) xs) is
    ∙ ap (λ (rest : List X). take (length xs) (reverse xs ++ rest)) (drop_all (length (reverse xs)) xs (omega (arith, count)))
    ∙ ap (take (length xs)) (append-nil (reverse xs))
    ∙ take_all (length xs) (reverse xs) (omega (arith, count))

covered_reversed : (loops outer : ℕ) (choices : List Choice) (table : List Candidate) (left right : Candidate) → PairCovered loops outer (reverse choices) table left right
    → PairCovered loops outer choices table left right
covered_reversed loops outer choices table left right covered quiet =
    let here = covered quiet in
    record { joined = here.joined; joins = here.joins; each = all_reversed (ChoiceCovered outer here.joined table) choices here.each }

reached_reversed : (bound loops : ℕ) (choices : List Choice) (lefts rights : List Candidate) (candidate : Candidate)
    → IsReachedOrBound bound loops (reverse choices) lefts rights candidate → IsReachedOrBound bound loops choices lefts rights candidate
reached_reversed bound loops choices lefts rights candidate (inr bounds) =
    inr (record { sets = bounds.sets; high = bounds.high; cheap = bounds.cheap; within = λ dims all. bounds.within dims (All-of_reversed (λ (choice : Choice). IsWithin choice.fused dims) choices all) })
reached_reversed bound loops choices lefts rights candidate (inl from) =
    let pair = from.reached in
    inl (record {
      reached = record {
        left = pair.left;
        right = pair.right;
        from_left = pair.from_left;
        from_right = pair.from_right;
        step = record {
          joined = pair.step.joined;
          choice = pair.step.choice;
          quiet = pair.step.quiet;
          joins = pair.step.joins;
          chosen = contains_reversed choices pair.step.choice pair.step.chosen;
          step = pair.step.step;
        };
      };
      cheap = from.cheap;
    })

-- the same of what the call that makes them from the choices in the other order answers
pub candidates_of_operands_are : {T : Type 0} {E : Type 0} (space : IndexSpace) (tree : ContractionTree) (bound : ℕ) (found : Searched) (v outer loops : ℕ) (choices given : List Choice) (lefts rights : List Candidate)
    (answer : Result (Vec Candidate T) E) → AreKept space tree found → found.least ≤ bound → v < operations tree → length found.lists ≡ v
    → ((p : ℕ) → parent tree v ≡ Some p → outer ≡ node_loops tree p) → AreChoices space tree v choices
    → loops ≡ node_loops tree v → given ≡ reverse choices → lefts ≡ left_candidates tree found.lists v → rights ≡ right_candidates tree found.lists v
    → IfOk answer (λ table. All (λ (left : Candidate). All (PairCovered loops outer given table.items left) rights) lefts)
    → IfOk answer (λ table. All (IsReachedOrBound bound loops given lefts rights) table.items)
    → IfOk answer (λ table. AllPairs (CandidatesApart outer) table.items)
    → IfOk answer (λ table. AreCandidates space tree found.least (found.lists ++ table.items ∷ []) v)
candidates_of_operands_are space tree bound found v outer loops choices given lefts rights (Err e) all high inside next parent_loops are a b c d covered reached apart = tt
candidates_of_operands_are space tree bound found v outer loops choices given lefts rights (Ok table) all high inside next parent_loops are a b c d covered reached apart =
    let all_covered : All (λ (left : Candidate). All (PairCovered (node_loops tree v) outer (reverse choices) table.items left) (right_candidates tree found.lists v)) (left_candidates tree found.lists v) =
    rw (← a, ← b, ← c, ← d) covered in
    let all_reached : All (IsReachedOrBound bound (node_loops tree v) (reverse choices) (left_candidates tree found.lists v) (right_candidates tree found.lists v)) table.items = rw (← a, ← b, ← c, ← d) reached in
    candidates_are space tree bound found v outer choices table.items all high inside next parent_loops are
    (λ k x low m y inner. covered_reversed (node_loops tree v) outer choices table.items (get_or (left_candidates tree found.lists v) k x) (get_or (right_candidates tree found.lists v) m y) (all_covered k x low m y inner))
    (All-weaker (IsReachedOrBound bound (node_loops tree v) (reverse choices) (left_candidates tree found.lists v) (right_candidates tree found.lists v))
    (IsReachedOrBound bound (node_loops tree v) choices (left_candidates tree found.lists v) (right_candidates tree found.lists v))
    (reached_reversed bound (node_loops tree v) choices (left_candidates tree found.lists v) (right_candidates tree found.lists v)) table.items all_reached)
    apart
