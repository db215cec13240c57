use Rattle.std.proofs.Common.{◌≡◌, ℕ, ◌+◌, ◌<◌, ◌≤◌, ◌^◌, All, Some, None, ◌∙◌, sym, subst, arith}
use Rattle.tce_tree.specs.ContractionTree.{operations}
use Rattle.tce_nesting.specs.Choices.{AreChoices}
use Rattle.tce_nesting.specs.declared.choice.Choice.{Choice}
use Rattle.tce_check.specs.declared.steps.Step.{Step}
use Rattle.tce_check.proofs.FromTables.{match_map, covers_at, fails_at}
use Rattle.tce_check.proofs.Reaches.{reaches_are}
use Rattle.tce_check.proofs.tables.first_uncovered_at.Goals as goal

inside_tree : (v operations : ℕ) → v + 1 < operations → v < operations
inside_tree v operations inside = omega (arith, inside)

listed : (v lists operations : ℕ) → lists + 1 ≡ operations → v + 1 < operations → v < lists
listed v lists operations each inside = omega (arith, each, inside)

no_parent : (p : ℕ) → None ≡ Some p → ⊥
no_parent p is = cc

pub returns : goal.returns
returns c =
    let space = c.args.space.now in
    let tree = c.args.tree.now in
    let tables = c.args.tables.now in
    match_map _ _ _ _ _
    (covers_at space tree tables c.args.v c.in_ok-parent.parent c.loops-outer.result c.rows-rows.result.now c.left_rows.result.now c.right_rows.result.now
    (sym c.in_ok-parent.ensures.value) c.loops-outer.ensures.value c.rows-rows.ensures c.left_rows.ensures.value c.right_rows.ensures.value)
    (λ (step : Step). fails_at space tree tables c.args.v c.in_ok-parent.parent c.loops-outer.result step.fused c.rows-rows.result.now c.left_rows.result.now c.right_rows.result.now step.state
    (sym c.in_ok-parent.ensures.value) c.loops-outer.ensures.value c.rows-rows.ensures c.left_rows.ensures.value c.right_rows.ensures.value)
    c.first_uncovered.ensures

pub first_uncovered-requires-clause-ready : goal.first_uncovered-requires-clause-ready
first_uncovered-requires-clause-ready c =
    let space = c.args.space.now in
    let tree = c.args.tree.now in
    let choices = c.as_slice-choices.result.now in
    let inside = inside_tree c.args.v (operations tree) c.requires.inside in
    let are = subst (AreChoices space tree c.args.v) (sym c.as_slice-choices.ensures.value) c.choices-list.ensures.choices in
    let sizes = subst (All (λ (choice : Choice). choice.size ≤ 2 ^ 90)) (sym c.as_slice-choices.ensures.value) c.choices-list.ensures.limit in
    record {
      inside = inside;
      choices = are;
      sizes = sizes;
      bound = c.bound_of-bound.ensures;
      stretches = c.stretches_of-stretches.ensures;
      reaches = reaches_are space tree c.loops-outer.result c.args.v c.rows-rows.result.now choices c.fill_reaches.new.reaches inside are sizes c.fill_reaches.ensures;
    }

pub returns-in_err-parent : goal.returns-in_err-parent
returns-in_err-parent c = rw c.from_residual.ensures (λ p is. absurd (no_parent p (c.in_err-parent.ensures.value ∙ is)))

pub choices-list-requires-clause-measured : goal.choices-list-requires-clause-measured
choices-list-requires-clause-measured c = c.requires.measured

pub choices-list-requires-clause-inside : goal.choices-list-requires-clause-inside
choices-list-requires-clause-inside c = inside_tree c.args.v (operations c.args.tree.now) c.requires.inside

pub rows-rows-requires : goal.rows-rows-requires
rows-rows-requires c = listed c.args.v _ (operations c.args.tree.now) c.requires.lists c.requires.inside

pub fill_reaches-requires-clause-bound : goal.fill_reaches-requires-clause-bound
fill_reaches-requires-clause-bound c = c.bound_of-bound.ensures

pub left_rows-requires-clause-node : goal.left_rows-requires-clause-node
left_rows-requires-clause-node c = inside_tree c.args.v (operations c.args.tree.now) c.requires.inside

pub left_rows-requires-clause-lists : goal.left_rows-requires-clause-lists
left_rows-requires-clause-lists c = c.requires.lists

pub left_rows-requires-clause-rows : goal.left_rows-requires-clause-rows
left_rows-requires-clause-rows c = c.requires.rows

pub right_rows-requires-clause-node : goal.right_rows-requires-clause-node
right_rows-requires-clause-node c = inside_tree c.args.v (operations c.args.tree.now) c.requires.inside

pub right_rows-requires-clause-lists : goal.right_rows-requires-clause-lists
right_rows-requires-clause-lists c = c.requires.lists

pub right_rows-requires-clause-rows : goal.right_rows-requires-clause-rows
right_rows-requires-clause-rows c = c.requires.rows

pub first_uncovered-requires-clause-lefts : goal.first_uncovered-requires-clause-lefts
first_uncovered-requires-clause-lefts c = c.left_rows.ensures.limit

pub first_uncovered-requires-clause-rights : goal.first_uncovered-requires-clause-rights
first_uncovered-requires-clause-rights c = c.right_rows.ensures.limit
