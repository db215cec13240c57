-- What the program leaves.
use Rattle.std.specs.Prelude.{◌≡◌, ◌≤◌, ⊤, ℕ, List, [], ◌∷◌, ◌++◌, All, Option, Some}
use Rattle.std.specs.declared.result.Result.TheVariants.{Ok}
use Rattle.tce_outside.specs.Files.{Files, with_file}
use Rattle.tce_space.specs.Space.{IndexSpace}
use Rattle.tce_array.specs.declared.form.Form.TheVariants.{One}
use Rattle.tce_array.specs.Forms.{form_len}
use Rattle.tce_nesting.specs.declared.plan.Plan.{Plan}
use Rattle.tce_search.specs.LeastPlan.{IsLeastPlan}
use Rattle.tce_report.specs.NodeLine.{stated}
use Rattle.tce_report.specs.Report.{run_text}
use Rattle.tce_spec.specs.Specification.{Specification}
use Rattle.tce_spec.specs.Operands.{shape_of}
use Rattle.tce_spec.specs.Canonical.{canonical_of}
use Rattle.tce_einsum.specs.Answer.{Produces}
use Rattle.tce_einsum.specs.HasValue.{HasValueOfEinsum}
use Rattle.tce_job.specs.TensorFiles.{file_of}
use Rattle.tce_job.specs.ResultBytes.{result_bytes}
use Rattle.tce_job.specs.Takings.{tile_take}
use Rattle.tce_job.specs.Several.{files_after}
use Rattle.tce_batch.specs.Reports.{HasRun}
use Rattle.tce_spec.specs.Pieces.{Cuts}
use Rattle.tce_spill.specs.CutsFor.{AreCutsFor}
use Rattle.tce_spill.specs.PieceRuns.{pieces_of}
use Rattle.tce_spill.specs.Values.{IsSpilled}
use Rattle.tce_spill.specs.Reports.{IsReported}
use Rattle.tce_command.specs.Source.{HasSpecification}
use Rattle.tce_run.specs.BatchSource.{HasBatch}
use Rattle.tce_run.specs.BatchDone.{AreFirstRun}
use Rattle.tce_run.specs.SpillDone.{AreFirstPieces}
use Rattle.tce_command.specs.Command.{Command, batch, demo, expand, spill, IsCommand}
use Rattle.tce_command.specs.declared.status.Status.{Status}
use Rattle.tce_command.specs.declared.status.Status.TheVariants.{SymRefused}
use Rattle.tce_top.specs.Performed.{IsDone, HasIndexes}
use Rattle.tce_top.specs.Cause.{Told}

-- the words are those of a command, which is done and has this report
pub record IsFinished (words : List (List ℕ)) (before after : Option Files) (taken taken_after : List (ℕ × ℕ)) (report : List ℕ) : Type 0 where
  pub command : Command
  pub words_are : IsCommand words command
  pub done : IsDone command before after taken taken_after report

-- a run whose disk and sink tell: the file specifies what was run; the files are the old ones with the bytes of the formula in the result's file; the sink grew by the report of a plan; its fusion is legal and no legal fusion takes less memory; and the room gave once, that memory and the words for tiles, which are within the budget
pub record IsWholeRun (spec : List ℕ) (budget : ℕ) (files after : Files) (taken taken_after : List (ℕ × ℕ)) (put put_after : List ℕ) : Type 0 where
  pub specification : Specification
  pub specified : HasSpecification files spec specification
  pub written : after ≡ with_file files (file_of specification specification.result) (result_bytes specification files)
  pub plan : Plan
  pub least : IsLeastPlan specification.declarations.space specification.tree plan
  pub reported : put_after
      ≡ put ++ run_text specification.declarations.space specification.tree (stated plan) (tile_take specification budget) (file_of specification specification.result) (form_len One (shape_of specification specification.result))
  pub taken_is : taken_after ≡ taken ++ (plan.memory, tile_take specification budget) ∷ []
  pub within : tile_take specification budget ≤ budget

-- formulas that are run over a disk and a sink that tell: the file holds them; the files are those that they leave, evaluated one after the other; the sink grew by their report; and the room gave for each in turn, the memory of a least plan and the words for tiles, which are within the budget
pub record IsWholeBatch (spec : List ℕ) (budget : ℕ) (files after : Files) (taken taken_after : List (ℕ × ℕ)) (put put_after : List ℕ) : Type 0 where
  pub formulas : List Specification
  pub specified : HasBatch files spec formulas
  pub written : after ≡ files_after formulas files
  pub report : List ℕ
  pub run_are : HasRun formulas budget taken taken_after report
  pub reported : put_after ≡ put ++ report
  pub within : All (λ (s : Specification). tile_take s budget ≤ budget) formulas

-- a tree that is run in pieces over a disk and a sink that tell: the file specifies it; over the files before, the result's file has the bytes of the whole formula and each node that is cut for the limit the array of its values, and no other file differs; the sink grew by the report, which has a line for each piece; and the room gave for each piece in turn, the memory of a least plan, which is within the limit, and the words for tiles, which are within the budget
pub record IsWholeSpill (spec : List ℕ) (budget limit : ℕ) (files after : Files) (taken taken_after : List (ℕ × ℕ)) (put put_after : List ℕ) : Type 0 where
  pub specification : Specification
  pub specified : HasSpecification files spec specification
  pub cut : Cuts
  pub are_cut : AreCutsFor specification.declarations.space specification.tree limit cut
  pub values : IsSpilled files after specification cut
  pub report : List ℕ
  pub run_are : IsReported specification cut budget limit taken taken_after report
  pub reported : put_after ≡ put ++ report
  pub within : All (λ (p : Specification). tile_take p budget ≤ budget) (pieces_of specification cut)

-- an einsum whose disk tells: its file holds the canonical text of the specification that the text and the path produce, and specifies it; all other files are the old ones; and the value of the specification, at each assignment of the output's labels, is the sum over all assignments of the other labels of the product of the operands
pub record IsWholeEinsum (text path spec : List ℕ) (files after : Files) : Type 0 where
  pub specification : Specification
  pub produced : Produces text path (Ok specification)
  pub value : HasValueOfEinsum text path specification
  pub written : after ≡ with_file files spec (canonical_of specification)
  pub specified : HasSpecification after spec specification

-- where the status is that of a refused file of stored pairs, the words are those of the expansion of this tensor
abbrev pub IsTensorOf : List (List ℕ) → Status → List ℕ → Type 0
IsTensorOf words (SymRefused trouble) tensor = (spec : List ℕ) × IsCommand words (expand spec tensor)
IsTensorOf words status tensor = ⊤

-- the words are those of a demonstration
abbrev pub IsDemonstration : List (List ℕ) → Type 0
IsDemonstration words = (seed : ℕ) × (v : ℕ) × (o : ℕ) × IsCommand words (demo seed v o)

-- the words are those of several formulas, of which the first are run
abbrev pub IsPartOfBatch : List (List ℕ) → Option Files → Option Files → Type 0
IsPartOfBatch words before after = (spec : List ℕ) × (budget : ℕ) × IsCommand words (batch spec budget) × AreFirstRun before after spec

-- the words are those of a tree that is run in pieces, of which the first are run
abbrev pub IsPartOfSpill : List (List ℕ) → Option Files → Option Files → Type 0
IsPartOfSpill words before after = (spec : List ℕ) × (budget : ℕ) × (limit : ℕ) × IsCommand words (spill spec budget limit) × AreFirstPieces before after spec limit

-- the indexes are those of the specification that the words name, where the disk tells its files
abbrev pub AreNamed : List (List ℕ) → Option Files → IndexSpace → Type 0
AreNamed words told space = Told words told (λ files command. HasIndexes files command space)
