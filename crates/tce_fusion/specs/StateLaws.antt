-- Laws of states, and of tables that cover them.
use Rattle.std.specs.Prelude.{◌≡◌, ◌↔◌, ℕ, ◌+◌, ◌-◌, ◌<◌, ◌≤◌, List, [], IsTrue}
use Rattle.std.specs.List.{Any}
use Rattle.tce_space.specs.IndexSet.{IsIndexSet, IsWithin, empty}
use Rattle.tce_space.specs.Space.{IndexSpace}
use Rattle.tce_tree.specs.ContractionTree.{ContractionTree, left_tree, right_tree, operations, node, node_loops}
use Rattle.tce_tree.specs.FlatTree.{first_number_of}
use Rattle.tce_tree.specs.Fusion.{FusionFits, fused_at}
use Rattle.tce_fusion.specs.Scope.{IsLegal}
use Rattle.tce_tree.specs.Memory.{memory}
use Rattle.tce_fusion.specs.Least.{IsLeast}
use Rattle.tce_fusion.specs.Relation.{Relation, none, above, joined, cut, HasNoConflict, Allows, IsCoarser}
use Rattle.tce_fusion.specs.StateClasses.{AreClassesOf}
use Rattle.tce_fusion.specs.State.{state, operands_joined, HasState, HasStates, GoesFurther, operands_cost}
use Rattle.tce_fusion.specs.Row.{Row, leaf_row, rows_at, StandsFor, rows_joined, step_relation, IsStepRow}
use Rattle.tce_fusion.specs.Cover.{left_rows, right_rows, NodeCovered, NodesCovered, RootBelow, Covers}
use Rattle.tce_fusion.specs.Choice.{Choice, AreChoices, PairsCovered, IsFirstUncoveredPair, IsFirstLowPair}
use Rattle.tce_fusion.specs.FirstStep.{IsBareStep, IsFirstBareStep, IsFirstBelow}
use Rattle.tce_fusion.specs.Reached.{IsStateOf, IsLegalWith, sets_of_step, left_below, right_below}

-- at each node an index is above another in the operands' states exactly where its scope goes further below the node
abbrev pub JoinsTellScopes : Type 0
JoinsTellScopes =
    (tree : ContractionTree) (fusion : List ℕ) (v i j : ℕ) → v < operations tree
    → IsTrue (operands_joined fusion (first_number_of tree v) (node tree v) i j) ↔ GoesFurther tree fusion v i j

-- a fusion is legal exactly where the states of all nodes but the root exist and those of the root's operands have no conflict
abbrev pub LegalWhereStatesExist : Type 0
LegalWhereStatesExist = (tree : ContractionTree) (fusion : List ℕ) → FusionFits tree fusion → IsLegal tree fusion ↔ HasStates fusion tree

-- where the state of a node exists, its relation is that of a list of classes of the indexes that are fused there
abbrev pub StatesHaveClasses : Type 0
StatesHaveClasses =
    (tree : ContractionTree) (fusion : List ℕ) (v : ℕ) → v < operations tree → FusionFits tree fusion → HasState fusion (first_number_of tree v) (node tree v)
    → (classes : List ℕ) × AreClassesOf (fused_at fusion v) (state fusion (first_number_of tree v) (node tree v)) classes

-- the costs at the root add up to the memory
abbrev pub CostsAddUp : Type 0
CostsAddUp = (space : IndexSpace) (tree : ContractionTree) (fusion : List ℕ) → operands_cost space fusion 0 tree ≡ memory space tree fusion

-- rows in place of the states of both operands: their join has no conflict where that of the states has none, they allow what the states allow, and their step is coarser and costs no more
pub record StandTogether (outer loops : ℕ) (left right : Relation) (left_cost right_cost : ℕ) (x y : Row) : Type 0 where
  pub joins : HasNoConflict loops (joined left right) → HasNoConflict loops (rows_joined x y)
  pub allows : (fused : ℕ) → IsWithin fused loops → Allows loops (joined left right) fused → Allows loops (rows_joined x y) fused
  pub coarser : (fused : ℕ) → IsWithin fused loops → IsCoarser outer (step_relation x y fused) (cut fused (joined left right))
  pub cheap : x.cost + y.cost ≤ left_cost + right_cost

-- rows that stand for the states of both operands of a node do so together
abbrev pub RowsStandTogether : Type 0
RowsStandTogether =
    (outer loops : ℕ) (left right : Relation) (left_cost right_cost : ℕ) (x y : Row) → StandsFor loops left left_cost x → StandsFor loops right right_cost y
    → StandTogether outer loops left right left_cost right_cost x y

-- the row of a leaf stands for its state, in which no index is above another and which costs nothing
abbrev pub LeafRowStands : Type 0
LeafRowStands = (outer : ℕ) → StandsFor outer none 0 leaf_row

-- to stand for a state is reflexive and transitive
pub record StandingIsOrder : Type 0 where
  pub itself : (outer : ℕ) (x : Row) → StandsFor outer (above x.classes) x.cost x
  pub through : (outer : ℕ) (relation : Relation) (limit : ℕ) (x y : Row) → StandsFor outer relation limit x → StandsFor outer (above x.classes) x.cost y → StandsFor outer relation limit y

-- the total of a cover is at most the memory of each legal fusion
abbrev pub TotalIsBound : Type 0
TotalIsBound =
    (space : IndexSpace) (tree : ContractionTree) (tables : List (List Row)) (total : ℕ) → Covers space tree tables total
    → (fusion : List ℕ) → FusionFits tree fusion → IsLegal tree fusion → total ≤ memory space tree fusion

-- a legal fusion whose memory is the total of a cover is least
abbrev pub LeastByCover : Type 0
LeastByCover =
    (space : IndexSpace) (tree : ContractionTree) (fusion : List ℕ) (tables : List (List Row)) → FusionFits tree fusion → IsLegal tree fusion
    → Covers space tree tables (memory space tree fusion) → IsLeast space tree fusion

-- the operands of a node are the trees that it joins
abbrev pub OperandsAreJoined : Type 0
OperandsAreJoined =
    (tree : ContractionTree) (v : ℕ) → v < operations tree → (left_below tree v ≡ left_tree (node tree v)) × (right_below tree v ≡ right_tree (node tree v))

-- the row of a leaf is its state, and a step from states of the operands is a state
abbrev pub LeafRowIsReached : Type 0
LeafRowIsReached = (space : IndexSpace) (tree : ContractionTree) → operations tree ≡ 0 → IsStateOf space tree [] leaf_row

abbrev pub StepsAreReached : Type 0
StepsAreReached =
    (space : IndexSpace) (tree : ContractionTree) (v : ℕ) (lefts rights : List ℕ) (left right : Row) (fused : ℕ) (row : Row) → v < operations tree
    → IsStateOf space (left_below tree v) lefts left → IsStateOf space (right_below tree v) rights right
    → IsStepRow space tree v left right fused row → IsStateOf space (node tree v) (sets_of_step lefts rights fused) row

-- states of the root's operands without conflict are those of a legal fusion, whose memory is the sum of their costs
abbrev pub RootIsReached : Type 0
RootIsReached =
    (space : IndexSpace) (tree : ContractionTree) (lefts rights : List ℕ) (left right : Row) → 0 < operations tree
    → IsStateOf space (left_below tree (operations tree - 1)) lefts left → IsStateOf space (right_below tree (operations tree - 1)) rights right
    → HasNoConflict (node_loops tree (operations tree - 1)) (rows_joined left right)
    → IsLegalWith space tree (sets_of_step lefts rights empty) (left.cost + right.cost)

-- where the tables cover, some rows of the root's operands have no conflict
abbrev pub SomeRowsJoin : Type 0
SomeRowsJoin =
    (space : IndexSpace) (tree : ContractionTree) (tables : List (List Row)) → 0 < operations tree → NodesCovered space tree tables
    → Any (λ left. Any (λ right. HasNoConflict (node_loops tree (operations tree - 1)) (rows_joined left right)) (right_rows tree tables (operations tree - 1)))
    (left_rows tree tables (operations tree - 1))

-- whether a node is covered goes by its own table and those before it
abbrev pub LaterTablesDoNotMatter : Type 0
LaterTablesDoNotMatter =
    (space : IndexSpace) (tree : ContractionTree) (tables others : List (List Row)) (outer v : ℕ) → v < operations tree
    → ((u : ℕ) → u ≤ v → rows_at tables u ≡ rows_at others u) → NodeCovered space tree tables outer v → NodeCovered space tree others outer v

-- each part of a set of indexes is a set of indexes, so a list of choices that has all sets below the limit has all
abbrev pub PartsAreIndexSets : Type 0
PartsAreIndexSets = (part set : ℕ) → IsIndexSet set → IsWithin part set → IsIndexSet part

-- where the choices of a node are covered for all pairs of rows, its rows cover, and the other way round
abbrev pub ChoicesAreSteps : Type 0
ChoicesAreSteps =
    (space : IndexSpace) (tree : ContractionTree) (tables : List (List Row)) (outer v : ℕ) (choices : List Choice) → AreChoices space tree v choices
    → PairsCovered (node_loops tree v) outer choices (rows_at tables v) (left_rows tree tables v) (right_rows tree tables v) ↔ NodeCovered space tree tables outer v

-- the first choice of the first pair is the first step that no row stands for
abbrev pub FirstChoiceIsFirstStep : Type 0
FirstChoiceIsFirstStep =
    (space : IndexSpace) (tree : ContractionTree) (tables : List (List Row)) (outer v : ℕ) (choices : List Choice) (left right : Row) (choice : Choice) → AreChoices space tree v choices
    → IsFirstUncoveredPair (node_loops tree v) outer choices (rows_at tables v) (left_rows tree tables v) (right_rows tree tables v) left right choice
    → IsFirstBareStep space tree tables outer v left right choice.fused

-- where the rows of a node cover, no step is left
abbrev pub CoveredLeavesNoStep : Type 0
CoveredLeavesNoStep =
    (space : IndexSpace) (tree : ContractionTree) (tables : List (List Row)) (outer v : ℕ) → NodeCovered space tree tables outer v
    → (l r : ℕ) (x y : Row) (fused : ℕ) → IsBareStep space tree tables outer v l r x y fused → ⊥

-- the first pair of rows whose costs add up to less than the total is the first sum at the root below it
abbrev pub FirstLowPairIsFirstBelow : Type 0
FirstLowPairIsFirstBelow =
    (tree : ContractionTree) (tables : List (List Row)) (total : ℕ) (left right : Row)
    → IsFirstLowPair (node_loops tree (operations tree - 1)) total (left_rows tree tables (operations tree - 1)) (right_rows tree tables (operations tree - 1)) left right
    → IsFirstBelow tree tables total (left.cost + right.cost)

-- where the total is at most each sum at the root, no sum is below it
abbrev pub BoundLeavesNoSum : Type 0
BoundLeavesNoSum =
    (tree : ContractionTree) (tables : List (List Row)) (total n : ℕ) → RootBelow tree tables total → IsFirstBelow tree tables total n → ⊥
