-- What formulas take that are run one after the other, and what is reported of them.
use Rattle.std.specs.Prelude.{◌≡◌, ℕ, ◌+◌, List, [], ◌∷◌, ◌++◌, drop, codes}
use Rattle.std.specs.List.{AllZip}
use Rattle.std.specs.Fmt.{decimal}
use Rattle.tce_array.specs.declared.form.Form.TheVariants.{One}
use Rattle.tce_array.specs.Forms.{form_len}
use Rattle.tce_nesting.specs.declared.plan.Plan.{Plan}
use Rattle.tce_search.specs.LeastPlan.{IsLeastPlan}
use Rattle.tce_report.specs.NodeLine.{stated}
use Rattle.tce_report.specs.Report.{run_text}
use Rattle.tce_spec.specs.Specification.{Specification}
use Rattle.tce_spec.specs.Operands.{shape_of}
use Rattle.tce_job.specs.TensorFiles.{file_of}
use Rattle.tce_job.specs.Takings.{tile_take}
use Rattle.tce_job.specs.Several.{takings_of}

-- the lines of a run behind the first, which is `tce run 1`
abbrev pub without_first_line : List ℕ → List ℕ
without_first_line run = drop 10 run

abbrev pub section_of : ℕ → List ℕ → List ℕ
section_of number run = codes "formula " ++ (decimal number ++ (codes "\n" ++ without_first_line run))

-- the text of one run
abbrev pub text_of : Specification → ℕ → Plan → List ℕ
text_of s budget plan = run_text s.declarations.space s.tree (stated plan) (tile_take s budget) (file_of s s.result) (form_len One (shape_of s s.result))

-- the lines of the runs of formulas by these plans; `number` is that of the first
abbrev pub sections_of : ℕ → ℕ → List Specification → List Plan → List ℕ
sections_of number budget [] plans = []
sections_of number budget (s ∷ ss) [] = []
sections_of number budget (s ∷ ss) (plan ∷ plans) = section_of number (text_of s budget plan) ++ sections_of (number + 1) budget ss plans

-- each formula by a least plan: its memory and its words for tiles were taken in turn, and the text has the lines of each run
pub record HasRun (ss : List Specification) (budget : ℕ) (before after : List (ℕ × ℕ)) (text : List ℕ) : Type 0 where
  pub plans : List Plan
  pub least : AllZip (λ (s : Specification) (plan : Plan). IsLeastPlan s.declarations.space s.tree plan) ss plans
  pub taken : after ≡ before ++ takings_of budget ss plans
  pub told : text ≡ codes "tce batch 1\n" ++ sections_of 1 budget ss plans
