-- The candidates of a node are states of fusions of its subtree.
use Rattle.std.proofs.Common.{ℕ, ◌<◌, ◌∙◌, sym, ap, subst, arith, List, map}
use Rattle.std.specs.List.{Contains}
use Rattle.std.proofs.lemmas.List.{length-map, get_or-map}
use Rattle.std.proofs.lemmas.List.Elements.{All-contains}
use Rattle.tce_space.specs.IndexSet.{IsWithin}
use Rattle.tce_space.specs.Space.{IndexSpace}
use Rattle.tce_tree.specs.ContractionTree.{ContractionTree, operations, node, node_dims, node_loops}
use Rattle.tce_tree.proofs.Nodes.{size_bounds, node_of_some, operations-leaf}
use Rattle.tce_fusion.specs.Relation.{above}
use Rattle.tce_fusion.specs.Reached as states
use Rattle.tce_fusion.specs.Row.{Row, leaf_row}
use Rattle.tce_fusion.proofs.Reached.{leaf_row_is_reached, step_state}
use Rattle.tce_nesting.proofs.NestingLaws.{joins_tell_steps}
use Rattle.tce_nesting.specs.declared.choice.Choice.{Choice}
use Rattle.tce_nesting.specs.Choices.{LeavesSize}
use Rattle.tce_nesting.proofs.SubsetLists.{dims_within}
use Rattle.tce_search.specs.Reached.{LeavesHaveStates, StepsAreStates}

Contains-fused : (choices : List Choice) (choice : Choice) → Contains choices choice → Contains (map (λ (c : Choice). c.fused) choices) choice.fused
Contains-fused choices choice inn =
    (inn.0, rw length-map inn.1, get_or-map (λ (c : Choice). c.fused) choices inn.0 choice choice.fused inn.1 ∙ ap (λ (c : Choice). c.fused) inn.2)

pub steps_are_states : StepsAreStates
unfolding node_dims node_loops
steps_are_states space tree v choices left right candidate inside all step of_left of_right =
    let within : IsWithin step.choice.fused (node_dims tree v) = (all.sets.each step.choice.fused).0 (Contains-fused choices step.choice step.chosen) in
    let in_loops : IsWithin step.choice.fused (node_loops tree v) = λ i h. dims_within tree v inside i (within i h) in
    let tells = joins_tell_steps (node_loops tree v) step.choice.fused (above left.row.classes) (above right.row.classes) step.joined.classes step.joins.classes in_loops in
    let size = All-contains (LeavesSize space tree v) choices step.choice all.sizes step.chosen in
    subst (λ (sets : List ℕ). states.IsStateOf space (node tree v) sets candidate.row) (sym step.step.sets)
    (step_state space (node tree v) (node_of_some (node tree v) (size_bounds tree v inside).0)
    left.sets.items right.sets.items left.row right.row step.choice.fused of_left of_right
    candidate.row step.quiet within (tells.allows.0 step.step.allowed)
    (λ i j. ap (λ (cs : List ℕ). above cs i j) step.step.row.classes ∙ tells.cuts i j)
    (omega (arith, step.step.row.cost, step.joins.cost, size)))

pub leaves_have_states : LeavesHaveStates
leaves_have_states space tree candidate leaf_tree row sets =
    subst (λ (r : Row). states.IsStateOf space tree candidate.sets.items r) (sym row)
    (subst (λ (is : List ℕ). states.IsStateOf space tree is leaf_row) (sym sets) (leaf_row_is_reached space tree (operations-leaf tree leaf_tree)))
