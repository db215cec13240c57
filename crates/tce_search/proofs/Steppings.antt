-- From the covered choices of a node to all its steps.
use Rattle.std.proofs.Common.{◌≡◌, ℕ, ◌+◌, ◌<◌, ◌∙◌, sym, ap, subst, arith, List, length, get_or}
use Rattle.std.specs.List.{Any}
use Rattle.std.proofs.lemmas.List.{length-map, get_or-map}
use Rattle.tce_space.specs.IndexSet.{IsWithin, minus}
use Rattle.tce_space.specs.Space.{IndexSpace, volume_of}
use Rattle.tce_tree.specs.ContractionTree.{ContractionTree, node_dims, node_loops}
use Rattle.tce_fusion.specs.Relation.{above, Allows}
use Rattle.tce_fusion.specs.Row.{Row, rows_joined, StandsForStep}
use Rattle.tce_nesting.specs.Classes.{restricted}
use Rattle.tce_nesting.specs.Laws.{TellsStep}
use Rattle.tce_nesting.proofs.NestingLaws.{joins_tell_steps}
use Rattle.tce_nesting.specs.declared.choice.Choice.{Choice}
use Rattle.tce_nesting.specs.Choices.{AreChoices}
use Rattle.tce_search.specs.Steps.{IsRowJoin}
use Rattle.tce_nesting.proofs.SubsetLists.{dims_within}
use Rattle.tce_search.specs.declared.candidate.Candidate.{Candidate}
use Rattle.tce_search.specs.Candidates.{Stands}
use Rattle.tce_search.specs.Laws.{CoveredPairsCoverSteps, rows_of}

no_choice : Choice
no_choice = record { fused = 0; size = 0 }

-- a row of a candidate that stands for what a joined row leaves stands for the step
stands_for_step : (space : IndexSpace) (tree : ContractionTree) (v outer : ℕ) (left right joined : Row) (choice : Choice) (table : List Candidate)
    → IsRowJoin (node_loops tree v) left right joined → TellsStep (node_loops tree v) choice.fused (above left.classes) (above right.classes) joined.classes
    → choice.size ≡ volume_of space (minus (node_dims tree v) choice.fused)
    → Any (Stands outer (above (restricted joined.classes choice.fused)) (joined.cost + choice.size)) table
    → Any (StandsForStep space tree outer v left right choice.fused) (rows_of table)
stands_for_step space tree v outer left right joined choice table joins tells size found = (
  found.0,
  found.1.row,
  rw length-map found.2,
  get_or-map (λ (c : Candidate). c.row) table found.0 found.1 found.1.row found.2 ∙ ap (λ (c : Candidate). c.row) found.3,
  record {
    coarser = λ i j p q h. sym (tells.cuts i j) ∙ found.4.coarser i j p q h;
    cheap = omega (arith, found.4.cheap, joins.cost, size);
  },
)

-- the choice of a set, by its place
choice_at : (space : IndexSpace) (tree : ContractionTree) (v fused : ℕ) (choices : List Choice) → AreChoices space tree v choices → IsWithin fused (node_dims tree v)
    → (k : ℕ) × (k < length choices) × ((get_or choices k no_choice).fused ≡ fused)
choice_at space tree v fused choices all within =
    let found = (all.sets.each fused).1 within in
    let low : found.0 < length choices = rw length-map at found.1 in
    (found.0, low, sym (get_or-map (λ (c : Choice). c.fused) choices found.0 no_choice fused low) ∙ found.2)

pub covered_pairs_cover_steps : CoveredPairsCoverSteps
covered_pairs_cover_steps space tree v outer choices table left right inside all covered quiet fused within allows =
    let here = covered quiet in
    let at = choice_at space tree v fused choices all within in
    let choice = get_or choices at.0 no_choice in
    let in_loops : IsWithin (get_or choices at.0 no_choice).fused (node_loops tree v) =
    λ i h. dims_within tree v inside i (subst (λ f. IsWithin f (node_dims tree v)) (sym at.2) within i h) in
    let tells = joins_tell_steps (node_loops tree v) (get_or choices at.0 no_choice).fused (above left.row.classes) (above right.row.classes) here.joined.classes here.joins.classes in_loops in
    let allowed = tells.allows.1 (subst (λ f. Allows (node_loops tree v) (rows_joined left.row right.row) f) (sym at.2) allows) in
    let found = here.each at.0 no_choice at.1 allowed in
    subst (λ f. Any (StandsForStep space tree outer v left.row right.row f) (rows_of table)) at.2
    (stands_for_step space tree v outer left.row right.row here.joined (get_or choices at.0 no_choice) table here.joins tells (all.sizes at.0 no_choice at.1) found)
