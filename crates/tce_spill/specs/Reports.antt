-- What the pieces take that are run in turn, and what is reported of them.
use Rattle.std.specs.Prelude.{◌≡◌, ℕ, ◌≤◌, List, [], ◌∷◌, ◌++◌, codes}
use Rattle.std.specs.List.{All, AllZip}
use Rattle.std.specs.Fmt.{decimal}
use Rattle.tce_array.specs.declared.form.Form.TheVariants.{One}
use Rattle.tce_array.specs.Forms.{form_len}
use Rattle.tce_tree.specs.ContractionTree.{operations}
use Rattle.tce_nesting.specs.declared.plan.Plan.{Plan}
use Rattle.tce_search.specs.LeastPlan.{IsLeastPlan}
use Rattle.tce_spec.specs.Pieces.{Cuts}
use Rattle.tce_spec.specs.Specification.{Specification}
use Rattle.tce_spec.specs.Operands.{shape_of}
use Rattle.tce_spec.specs.PieceSpecification.{piece_of}
use Rattle.tce_job.specs.TensorFiles.{file_of}
use Rattle.tce_job.specs.Takings.{tile_take}
use Rattle.tce_job.specs.Several.{takings_of}
use Rattle.tce_spill.specs.PieceRuns.{roots_below, pieces_below}

-- the line of a piece: its root, the memory of a least fusion, and the words that its run takes for tiles
abbrev pub piece_line : ℕ → ℕ → ℕ → List ℕ
piece_line v memory tiles = codes "piece " ++ (decimal v ++ (codes " memory " ++ (decimal memory ++ (codes " tiles " ++ (decimal tiles ++ codes "\n")))))

-- the lines of the pieces of these roots by these plans
abbrev pub lines_of : Specification → Cuts → ℕ → List ℕ → List Plan → List ℕ
lines_of s cut budget [] plans = []
lines_of s cut budget (v ∷ vs) [] = []
lines_of s cut budget (v ∷ vs) (plan ∷ plans) = piece_line v plan.memory (tile_take (piece_of s cut v) budget) ++ lines_of s cut budget vs plans

-- the line of the result's file
abbrev pub wrote_line : Specification → List ℕ
wrote_line s = codes "wrote " ++ (file_of s s.result ++ (codes " " ++ (decimal (form_len One (shape_of s s.result)) ++ codes "\n")))

-- a least plan of each piece
abbrev pub AreLeast : List Specification → List Plan → Type 0
AreLeast pieces plans = AllZip (λ (p : Specification) (plan : Plan). IsLeastPlan p.declarations.space p.tree plan) pieces plans

-- the pieces of the first nodes were run: there is one pair more of each, and the text has their lines
pub record HasRun (s : Specification) (cut : Cuts) (n budget : ℕ) (before after : List (ℕ × ℕ)) (text : List ℕ) : Type 0 where
  pub plans : List Plan
  pub least : AreLeast (pieces_below s cut n) plans
  pub taken : after ≡ before ++ takings_of budget (pieces_below s cut n) plans
  pub told : text ≡ codes "tce spill 1\n" ++ lines_of s cut budget (roots_below s.tree cut n) plans

-- all pieces were run, and the text names the file of the result besides
pub record HasRunAll (s : Specification) (cut : Cuts) (budget : ℕ) (before after : List (ℕ × ℕ)) (text : List ℕ) : Type 0 where
  pub plans : List Plan
  pub least : AreLeast (pieces_below s cut (operations s.tree)) plans
  pub taken : after ≡ before ++ takings_of budget (pieces_below s cut (operations s.tree)) plans
  pub told : text ≡ codes "tce spill 1\n" ++ (lines_of s cut budget (roots_below s.tree cut (operations s.tree)) plans ++ wrote_line s)

-- and none has a memory above the limit
pub record IsReported (s : Specification) (cut : Cuts) (budget limit : ℕ) (before after : List (ℕ × ℕ)) (text : List ℕ) : Type 0 where
  pub plans : List Plan
  pub least : AreLeast (pieces_below s cut (operations s.tree)) plans
  pub within : All (λ (plan : Plan). plan.memory ≤ limit) plans
  pub taken : after ≡ before ++ takings_of budget (pieces_below s cut (operations s.tree)) plans
  pub told : text ≡ codes "tce spill 1\n" ++ (lines_of s cut budget (roots_below s.tree cut (operations s.tree)) plans ++ wrote_line s)
