-- What a run has before its result is made.
use Rattle.std.specs.Prelude.{◌≡◌, ◌⊎◌, ℕ, ◌+◌, ◌≤◌, List, [], ◌∷◌, ◌++◌, replicate}
use Rattle.tce_space.specs.Limits.{max_memory}
use Rattle.tce_space.specs.Space.{IndexSpace}
use Rattle.tce_array.specs.declared.form.Form.{Form}
use Rattle.tce_array.specs.declared.form.Form.TheVariants.{One}
use Rattle.tce_array.specs.Forms.{form_len}
use Rattle.tce_tree.specs.ContractionTree.{ContractionTree}
use Rattle.tce_tree.specs.Fusion.{Carries, OrdersFit}
use Rattle.tce_tree.specs.Orders.{lists_of}
use Rattle.tce_tree.specs.Memory.{memory}
use Rattle.tce_nesting.specs.declared.plan.Plan.{Plan}
use Rattle.tce_nesting.specs.Plan.{PlanFits}
use Rattle.tce_search.specs.LeastPlan.{IsLeastPlan}
use Rattle.tce_report.specs.NodeLine.{stated}
use Rattle.tce_report.specs.Report.{run_text}
use Rattle.tce_code.specs.Plan.{plan_of}
use Rattle.tce_code.specs.CodeFor.{IsCodeFor}
use Rattle.tce_layout.specs.Layout.{IsLayout}
use Rattle.tce_layout.specs.Places.{PlacesFill}
use Rattle.tce_cache.specs.Cache.{State}
use Rattle.tce_spec.specs.Specification.{Specification}
use Rattle.tce_spec.specs.Operands.{largest_tile, shape_of}
use Rattle.tce_job.specs.TensorFiles.{file_of}
use Rattle.tce_job.specs.Takings.{frame_count, tile_take}
use Rattle.tce_job.specs.Arrays.{AreArraysOf}
use Rattle.tce_job.specs.declared.fault.JobFault.{JobFault}
use Rattle.tce_job.specs.declared.fault.JobFault.TheVariants.{Disk, Memory}
use Rattle.tce_job.specs.declared.report.RunReport.{RunReport}
use Rattle.tce_job.specs.declared.prepared.Prepared.{Prepared}

-- a plan that fits the tree, whose orders carry its fusion, with the fusion's memory
pub record IsCarriedPlan (space : IndexSpace) (tree : ContractionTree) (plan : Plan) : Type 0 where
  pub fits : PlanFits tree plan
  pub carried : Carries tree plan.fusion.0.items (lists_of plan.orders.0.items)
  pub memory_is : plan.memory ≡ memory space tree plan.fusion.0.items

-- the report of a run by this plan: its memory, the words for tiles, the length of the result's file, and the text of all these
pub record IsReport (s : Specification) (budget : ℕ) (plan : Plan) (report : RunReport) : Type 0 where
  pub memory : report.memory ≡ plan.memory
  pub tiles : report.tiles ≡ tile_take s budget
  pub bytes : report.bytes ≡ form_len One (shape_of s s.result)
  pub text : report.text ≡ run_text s.declarations.space s.tree (stated plan) (tile_take s budget) (file_of s s.result) (form_len One (shape_of s s.result))

-- a cache that holds no tile, of the arrays of the specification, with its frames behind the words of the intermediates
pub record IsEmptyCache (s : Specification) (budget : ℕ) (forms : List Form) (memory : ℕ) (c : State) : Type 0 where
  pub arrays : AreArraysOf s forms c.arrays
  pub at : c.at ≡ memory
  pub frames : c.frames ≡ frame_count s budget
  pub frame_words : c.frame_words ≡ largest_tile s
  pub held : c.held ≡ []
  pub touches : c.touches ≡ 0

-- a run by a plan: orders of its loops, its code, the slots of its intermediates, words that are all 0, a cache with the forms of the operands' files, and the report
pub record IsPrepared (s : Specification) (budget : ℕ) (forms : List Form) (p : Prepared) : Type 0 where
  pub plan : IsCarriedPlan s.declarations.space s.tree p.plan
  pub small : p.plan.memory ≤ max_memory
  pub orders : OrdersFit s.tree (lists_of p.orders.0.items)
  pub code : IsCodeFor s.tree (plan_of p.plan.fusion.0.items (lists_of p.orders.0.items)) p.code
  pub slots : IsLayout s.declarations.space s.tree p.plan.fusion.0.items p.layout.0.items
  pub places : PlacesFill s.declarations.space s.tree p.plan.fusion.0.items p.layout.0.items
  pub words : p.words ≡ replicate (p.plan.memory + tile_take s budget) 0
  pub cache : IsEmptyCache s budget forms p.plan.memory p.cache
  pub report : IsReport s budget p.plan p.report

-- the one taking of a run
abbrev pub taking_of : Specification → ℕ → Plan → ℕ × ℕ
taking_of s budget plan = (plan.memory, tile_take s budget)

-- the takings are as they were, or the one of this plan is there besides
abbrev pub MayHaveTaken : Specification → ℕ → Plan → List (ℕ × ℕ) → List (ℕ × ℕ) → Type 0
MayHaveTaken s budget plan before after = (after ≡ before) ⊎ (after ≡ before ++ taking_of s budget plan ∷ [])

-- there is one taking more: the least memory, and the words for tiles
pub record HasTaken (s : Specification) (budget : ℕ) (before after : List (ℕ × ℕ)) : Type 0 where
  pub plan : Plan
  pub least : IsLeastPlan s.declarations.space s.tree plan
  pub taken : after ≡ before ++ taking_of s budget plan ∷ []

-- what a refused run leaves of the room: its takings as they were, or, after a failure or want of memory, one more
abbrev pub IsRoomLeft : JobFault → Specification → ℕ → List (ℕ × ℕ) → List (ℕ × ℕ) → Type 0
IsRoomLeft Disk s budget before after = (after ≡ before) ⊎ HasTaken s budget before after
IsRoomLeft Memory s budget before after = (after ≡ before) ⊎ HasTaken s budget before after
IsRoomLeft fault s budget before after = after ≡ before
