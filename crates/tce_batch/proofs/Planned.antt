-- Runs by a plan that was kept.
use Rattle.std.proofs.Common.{inl, inr, ◌≡◌, ℕ, ◌+◌, ◌≤◌, ◌^◌, List, [], ◌∷◌, ◌++◌, length, Result, Ok, Err, refl, sym, ◌∙◌, ap, arith}
use Rattle.std.specs.Prelude.{OnOk, IfOk, IfErr}
use Rattle.std.proofs.lemmas.List.{length-replicate}
use Rattle.tce_tree.specs.ContractionTree.{operations, node_dims}
use Rattle.tce_fusion.specs.Row.{rows_at}
use Rattle.tce_nesting.specs.declared.plan.Plan.{Plan}
use Rattle.tce_nesting.specs.Plan.{PlanFits}
use Rattle.tce_nesting.proofs.RowLists.{no_rows, empty_fits}
use Rattle.tce_report.specs.NodeLine.{stated}
use Rattle.tce_report.specs.Report.{run_text}
use Rattle.tce_array.specs.declared.form.Form.TheVariants.{One}
use Rattle.tce_array.specs.Forms.{form_len}
use Rattle.tce_spec.specs.Specification.{Specification}
use Rattle.tce_spec.specs.Operands.{shape_of}
use Rattle.tce_job.specs.TensorFiles.{file_of}
use Rattle.tce_job.specs.Takings.{tile_take}
use Rattle.tce_job.specs.declared.fault.JobFault.{JobFault}
use Rattle.tce_job.specs.declared.fault.JobFault.TheVariants.{BudgetTooSmall, IntermediatesTooLarge, Array, Disk, Memory}
use Rattle.tce_job.specs.declared.report.RunReport.{RunReport}
use Rattle.tce_job.specs.Refusals.{IsFree}
use Rattle.tce_job.specs.Prepared.{IsCarriedPlan, IsReport, MayHaveTaken, IsRoomLeft, taking_of}
use Rattle.tce_job.specs.Run.{IsReported}
use Rattle.tce_job.specs.Told.{Takes, MayTake, Reports, LeavesRoom}
use Rattle.tce_batch.specs.declared.plans.KeptPlan.{KeptPlan}
use Rattle.tce_batch.specs.Plans.{IsPlanOf, IsKeptFor}

module _ (s : Specification) (kept : KeptPlan) (plan : Plan) (h : IsKeptFor s kept) (is : IsPlanOf kept plan) where
  fusion_is : plan.fusion ≡ h.plan.fusion
  fusion_is = sym is.kept_is.fusion ∙ h.kept_is.fusion

  orders_are : plan.orders ≡ h.plan.orders
  orders_are = sym is.kept_is.orders ∙ h.kept_is.orders

  sizes_are : plan.sizes ≡ h.plan.sizes
  sizes_are = sym is.kept_is.sizes ∙ h.kept_is.sizes

  memory_is : plan.memory ≡ h.plan.memory
  memory_is = sym is.kept_is.memory ∙ h.kept_is.memory

  stated_is : stated plan ≡ stated h.plan
  stated_is = rw (fusion_is, orders_are, sizes_are, memory_is) refl

  tables_fit : length plan.tables + 1 ≡ operations s.tree
  tables_fit =
      let long : length plan.tables ≡ length kept.sizes.items = ap length is.tables ∙ length-replicate (length kept.sizes.items) [] in
      let sizes : length kept.sizes.items ≡ length h.plan.sizes.items = ap (λ x. length x.items) h.kept_is.sizes in
      omega (arith, long, sizes, h.least.fits.sizes)

  plan_fits : PlanFits s.tree plan
  plan_fits = record {
    fusion = rw fusion_is h.least.fits.fusion;
    orders = rw orders_are h.least.fits.orders;
    sizes = rw sizes_are h.least.fits.sizes;
    size_limit = rw sizes_are h.least.fits.size_limit;
    memory_limit = rw memory_is h.least.fits.memory_limit;
    tables = tables_fit;
    rows = λ v less. empty_fits (node_dims s.tree v) (rows_at plan.tables v) (ap (λ tables. rows_at tables v) is.tables ∙ no_rows (length kept.sizes.items) v);
  }

  pub is_carried : IsCarriedPlan s.declarations.space s.tree plan
  is_carried = record {
    fits = plan_fits;
    carried = rw (fusion_is, orders_are) h.least.carried;
    memory_is = rw (fusion_is, memory_is) h.least.memory_is;
  }

  pub is_small : plan.memory ≤ 2 ^ 40
  is_small = omega (arith, memory_is, h.small)

  -- what is taken and reported by it is so by the least plan
  taking_is : (budget : ℕ) → taking_of s budget plan ≡ taking_of s budget h.plan
  taking_is budget = ap (λ (m : ℕ). (m, tile_take s budget)) memory_is

  taken_is : (budget : ℕ) (before after : List (ℕ × ℕ)) → after ≡ before ++ taking_of s budget plan ∷ [] → after ≡ before ++ taking_of s budget h.plan ∷ []
  taken_is budget before after taken = taken ∙ ap (λ (one : ℕ × ℕ). before ++ one ∷ []) (taking_is budget)

  is_reported : (budget : ℕ) (before after : List (ℕ × ℕ)) (report : RunReport) → after ≡ before ++ taking_of s budget plan ∷ [] → IsReport s budget plan report → IsReported s budget before after report
  is_reported budget before after report taken told = record {
    plan = h.plan;
    least = h.least;
    taken = taken_is budget before after taken;
    report_is = record {
      memory = told.memory ∙ memory_is;
      tiles = told.tiles;
      bytes = told.bytes;
      text = told.text ∙ ap (λ st. run_text s.declarations.space s.tree st (tile_take s budget) (file_of s s.result) (form_len One (shape_of s s.result))) stated_is;
    };
  }

  room_left : (budget : ℕ) (fault : JobFault) (before after : List (ℕ × ℕ)) → IsFree fault → MayHaveTaken s budget plan before after → IsRoomLeft fault s budget before after
  room_left budget (BudgetTooSmall n) before after free left = absurd free
  room_left budget (IntermediatesTooLarge n) before after free left = absurd free
  room_left budget (Array t f) before after free left = absurd free
  room_left budget Disk before after free (inl same) = inl same
  room_left budget Disk before after free (inr taken) = inr (record { plan = h.plan; least = h.least; taken = taken_is budget before after taken })
  room_left budget Memory before after free (inl same) = inl same
  room_left budget Memory before after free (inr taken) = inr (record { plan = h.plan; least = h.least; taken = taken_is budget before after taken })

  -- the same of an answer
  pub answer_reported : (budget : ℕ) (before after : List (ℕ × ℕ)) (result : Result RunReport JobFault) → OnOk result (Takes s budget plan before after) → IfOk result (IsReport s budget plan)
      → Reports result s budget before after
  answer_reported budget before after (Ok report) taken told = is_reported budget before after report taken told
  answer_reported budget before after (Err fault) taken told = tt

  pub answer_room_left : (budget : ℕ) (before after : List (ℕ × ℕ)) (result : Result RunReport JobFault) → IfErr result IsFree → MayTake result s budget plan before after
      → LeavesRoom result s budget before after
  answer_room_left budget before after (Ok report) free left = tt
  answer_room_left budget before after (Err fault) free left = room_left budget fault before after free left
