-- Runs of pieces by the plans that were found with the cuts.
use Rattle.std.proofs.Common.{◌≡◌, ◌⊎◌, ℕ, ◌+◌, ◌<◌, ◌≤◌, ◌^◌, true, List, [], ◌∷◌, ◌++◌, length, get_or, set, Option, Some, None, unwrap_or, refl, sym, ap, ◌∙◌, subst, inl, inr, arith}
use Rattle.std.specs.Prelude.{IsSome}
use Rattle.std.proofs.lemmas.Bool.{cases_lt}
use Rattle.std.proofs.lemmas.List.{length-replicate, get_or_past, get_or-set_other}
use Rattle.tce_tree.specs.ContractionTree.{operations, node_dims}
use Rattle.tce_fusion.specs.Row.{Row, rows_at}
use Rattle.tce_nesting.specs.declared.plan.Plan.{Plan}
use Rattle.tce_nesting.specs.Plan.{PlanFits}
use Rattle.tce_nesting.proofs.RowLists.{no_rows, empty_fits}
use Rattle.tce_report.specs.NodeLine.{stated}
use Rattle.tce_report.specs.Report.{run_text}
use Rattle.tce_array.specs.declared.form.Form.TheVariants.{One}
use Rattle.tce_array.specs.Forms.{form_len}
use Rattle.tce_spec.specs.Pieces.{Cuts, is_root}
use Rattle.tce_spec.specs.Specification.{Specification}
use Rattle.tce_spec.specs.Operands.{shape_of}
use Rattle.tce_job.specs.TensorFiles.{file_of}
use Rattle.tce_job.specs.Takings.{tile_take}
use Rattle.tce_job.specs.declared.report.RunReport.{RunReport}
use Rattle.tce_job.specs.Refusals.{IsAffordable}
use Rattle.tce_job.specs.Prepared.{IsCarriedPlan, IsReport, MayHaveTaken, HasTaken, taking_of}
use Rattle.tce_job.specs.Run.{IsReported}
use Rattle.tce_job.proofs.Causes.{least_memory}
use Rattle.tce_spill.specs.Planned.{IsLeastButRows, IsPlanOfPiece, HavePlansFrom}

-- ---- one run

module _ (s : Specification) (budget : ℕ) (plan : Plan) (affordable : IsAffordable s budget) (h : IsLeastButRows s.declarations.space s.tree plan) where
  own_fits : PlanFits s.tree plan
  own_fits = record {
    fusion = rw h.bare.fusion h.least.fits.fusion;
    orders = rw h.bare.orders h.least.fits.orders;
    sizes = rw h.bare.sizes h.least.fits.sizes;
    size_limit = rw h.bare.sizes h.least.fits.size_limit;
    memory_limit = rw h.bare.memory h.least.fits.memory_limit;
    tables = ap (λ xs. length xs + 1) h.bare.tables ∙ ap (λ n. n + 1) (length-replicate {A = List Row} (length h.whole.tables) []) ∙ h.least.fits.tables;
    rows = λ v less. empty_fits (node_dims s.tree v) (rows_at plan.tables v) (ap (λ tables. rows_at tables v) h.bare.tables ∙ no_rows (length h.whole.tables) v);
  }

  pub can_run : IsCarriedPlan s.declarations.space s.tree plan
  can_run = record {
    fits = own_fits;
    carried = rw (h.bare.fusion, h.bare.orders) h.least.carried;
    memory_is = rw (h.bare.fusion, h.bare.memory) h.least.memory_is;
  }

  pub is_small : plan.memory ≤ 2 ^ 40
  is_small = omega (arith, h.bare.memory, affordable.small h.whole.memory (least_memory s h.whole h.least))

  stated_is : stated plan ≡ stated h.whole
  stated_is = rw (h.bare.fusion, h.bare.orders, h.bare.sizes, h.bare.memory) refl

  -- what is taken and reported by it is so by the least plan
  own_taken : (before after : List (ℕ × ℕ)) → after ≡ before ++ taking_of s budget plan ∷ [] → after ≡ before ++ taking_of s budget h.whole ∷ []
  own_taken before after taken = taken ∙ ap (λ (m : ℕ). before ++ (m, tile_take s budget) ∷ []) h.bare.memory

  pub is_reported : (before after : List (ℕ × ℕ)) (report : RunReport) → after ≡ before ++ taking_of s budget plan ∷ [] → IsReport s budget plan report → IsReported s budget before after report
  is_reported before after report taken told = record {
    plan = h.whole;
    least = h.least;
    taken = own_taken before after taken;
    report_is = record {
      memory = told.memory ∙ h.bare.memory;
      tiles = told.tiles;
      bytes = told.bytes;
      text = told.text ∙ ap (λ st. run_text s.declarations.space s.tree st (tile_take s budget) (file_of s s.result) (form_len One (shape_of s s.result))) stated_is;
    };
  }

  pub taken_left : (before after : List (ℕ × ℕ)) → MayHaveTaken s budget plan before after → (after ≡ before) ⊎ HasTaken s budget before after
  taken_left before after (inl same) = inl same
  taken_left before after (inr taken) = inr (record { plan = h.whole; least = h.least; taken = own_taken before after taken })

-- ---- the plans in turn

-- some plan stands in a place of the list
within : (plans : List (Option Plan)) (v : ℕ) (plan : Plan) → get_or plans v None ≡ Some plan → v < length plans
within plans v plan here = elim (cases_lt v (length plans)) [
  | inl x ↦ x
  | inr x ↦ let none : None ≡ Some plan = sym (get_or_past plans v None x) ∙ here in absurd (cc)
]

module _ (s : Specification) (cut : Cuts) (plans : List (Option Plan)) (n : ℕ) (have : HavePlansFrom s cut plans n) where
  module _ (n_in : n < operations s.tree) (root : is_root s.tree cut n ≡ true) where
    pub plan_place : n < length plans
    plan_place = let h = have n (omega arith) n_in root in within plans n h.plan h.here

    pub some_plan : IsSome (get_or plans n None)
    some_plan = let h = have n (omega arith) n_in root in subst IsSome (sym h.here) refl

    pub taken_plan : (plan : Plan) → get_or plans n None ≡ Some plan → IsPlanOfPiece s cut n plan
    taken_plan plan is =
        let h = have n (omega arith) n_in root in
        let same : Some h.plan ≡ Some plan = sym h.here ∙ is in
        subst (IsPlanOfPiece s cut n) (ap (λ (o : Option Plan). unwrap_or o plan) same) h.is_plan

  pub plans_on : HavePlansFrom s cut plans (n + 1)
  plans_on v low v_in root = have v (omega (arith, low)) v_in root

  pub plans_after : (after : List (Option Plan)) → after ≡ set plans n None → HavePlansFrom s cut after (n + 1)
  plans_after after is v low v_in root =
      let h = have v (omega (arith, low)) v_in root in
      record {
        plan = h.plan;
        here = ap (λ xs. get_or xs v None) is ∙ get_or-set_other plans n v None None (λ e. omega (arith, e, low)) ∙ h.here;
        is_plan = h.is_plan;
      }
