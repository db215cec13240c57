-- Laws of candidates.
use Rattle.std.specs.Prelude.{ℕ, ◌<◌, List, map}
use Rattle.tce_space.specs.Space.{IndexSpace}
use Rattle.tce_tree.specs.ContractionTree.{ContractionTree, operations, node_loops}
use Rattle.tce_fusion.specs.Relation.{HasNoConflict}
use Rattle.tce_fusion.specs.Row.{Row, rows_joined}
use Rattle.tce_fusion.specs.Cover.{StepsCovered}
use Rattle.tce_nesting.specs.declared.choice.Choice.{Choice}
use Rattle.tce_nesting.specs.Choices.{AreChoices}
use Rattle.tce_search.specs.declared.candidate.Candidate.{Candidate}
use Rattle.tce_search.specs.Candidates.{PairCovered}

-- the states of candidates
abbrev pub rows_of : List Candidate → List Row
rows_of candidates = map (λ candidate. candidate.row) candidates

-- where the choices of node `v` are covered for two candidates of its operands that have no conflict, all steps from their rows are
abbrev pub CoveredPairsCoverSteps : Type 0
CoveredPairsCoverSteps =
    (space : IndexSpace) (tree : ContractionTree) (v outer : ℕ) (choices : List Choice) (table : List Candidate) (left right : Candidate)
    → v < operations tree → AreChoices space tree v choices → PairCovered (node_loops tree v) outer choices table left right
    → HasNoConflict (node_loops tree v) (rows_joined left.row right.row) → StepsCovered space tree outer v (rows_of table) left.row right.row
