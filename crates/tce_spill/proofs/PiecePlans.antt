-- Plans of the pieces, while cuts are taken back.
use Rattle.std.proofs.Common.{◌≡◌, ℕ, ◌+◌, ◌<◌, ◌≤◌, false, List, [], ◌∷◌, ◌++◌, length, get_or, set, length-set, Option, Some, None, sym, ap, ◌∙◌, subst, inl, inr, arith}
use Rattle.std.specs.Prelude.{IsTrue, IsSomeAnd}
use mathlib.Core.Path.{fun_ext}
use Rattle.std.proofs.lemmas.Bool.{cases_eq, cases_lt}
use Rattle.std.proofs.lemmas.List.{get_or_append_left, get_or-set_same, get_or-set_other}
use Rattle.std.proofs.Math.Seq.{get_or-append_seam}
use Rattle.tce_space.specs.IndexSet.{has}
use Rattle.tce_space.specs.Space.{IndexSpace}
use Rattle.tce_tree.specs.ContractionTree.{ContractionTree, operations}
use Rattle.tce_nesting.specs.declared.plan.Plan.{Plan}
use Rattle.tce_search.specs.LeastPlan.{IsLeastPlan}
use Rattle.tce_spec.specs.Pieces.{Cuts, except, piece, is_root, IsRootOver}
use Rattle.tce_spec.specs.Specification.{Specification}
use Rattle.tce_spec.specs.Operands.{references, each_once}
use Rattle.tce_spec.specs.PieceSpecification.{renumbered, place_in}
use Rattle.tce_spill.specs.InTurn.{AreDecided}
use Rattle.tce_spill.specs.Planned.{IsAbove, IsWithoutRows, IsLeastButRows, IsPlanOfPiece, IsPlanned, HasPlan, HavePlansBelow, HavePlans, ArePlanned}
use Rattle.tce_spill.specs.CutRefusals.{HasLeastMemory}
use Rattle.tce_spill.specs.declared.planned.PlannedCuts.{PlannedCuts}
use Rattle.tce_spill.proofs.Pieces.{except_is, root_some, root_itself}
use Rattle.tce_spill.proofs.Limits.{other_piece}
use Rattle.tce_spill.proofs.Turns.{root_same, goes_on, stays_at, goes_at}
use Rattle.tce_spill.proofs.Renumbered.{plan_is_least}

-- ---- one plan

pub bare_plan : (p : Specification) (space : IndexSpace) (tree : ContractionTree) (whole plan : Plan) → space ≡ p.declarations.space → tree ≡ p.tree
    → IsLeastPlan space tree whole → IsWithoutRows whole plan → IsLeastButRows p.declarations.space p.tree plan
bare_plan p space tree whole plan same_space same_tree least bare = record {
  whole = whole;
  least = subst (λ (k : IndexSpace). IsLeastPlan k p.tree whole) same_space (subst (λ (t : ContractionTree). IsLeastPlan space t whole) same_tree least);
  bare = bare;
}

-- its memory is the least one of the piece
pub plan_memory : (s : Specification) (cut : Cuts) (v : ℕ) (plan : Plan) → IsPlanOfPiece s cut v plan → HasLeastMemory s.declarations.space (piece s.tree cut v) plan.memory
plan_memory s cut v plan h =
    subst (λ n. HasLeastMemory s.declarations.space (piece s.tree cut v) n) (sym h.bare.memory) (plan_is_least s cut v h.whole h.least)

-- ---- the plans one after the other

last_plan : (s : Specification) (cut : Cuts) (plans : List (Option Plan)) (n : ℕ) (found : Option Plan) → length plans ≡ n → IsSomeAnd found (IsPlanOfPiece s cut n)
    → HasPlan s cut (plans ++ found ∷ []) n
last_plan s cut plans n None count one = absurd one
last_plan s cut plans n (Some plan) count one = record {
  plan = plan;
  here = ap (λ k. get_or (plans ++ Some plan ∷ []) k None) (sym count) ∙ get_or-append_seam plans (Some plan) [] None;
  is_plan = one;
}

pub plans_more : (s : Specification) (cut : Cuts) (plans : List (Option Plan)) (n : ℕ) (found : Option Plan) → length plans ≡ n → HavePlansBelow s cut plans n → IsPlanned s cut n found
    → HavePlansBelow s cut (plans ++ found ∷ []) (n + 1)
plans_more s cut plans n found count so_far one v low root =
    elim (cases_lt v n) [
      | inl x ↦
          let h = so_far v x root in
          record { plan = h.plan; here = get_or_append_left plans (found ∷ []) None v (omega (arith, x, count)) ∙ h.here; is_plan = h.is_plan }
      | inr x ↦
          let is : n ≡ v = omega (arith, low, x) in
          subst (HasPlan s cut (plans ++ found ∷ [])) is
          (last_plan s cut plans n found count (one (subst (λ k. IsTrue (is_root s.tree cut k)) (sym is) root)))
    ]

-- ---- the plan of a joined piece

-- the specification of a piece goes by what is left of its tree
same_plan : (s : Specification) (a b : Cuts) (v : ℕ) (plan : Plan) → piece s.tree a v ≡ piece s.tree b v → IsPlanOfPiece s b v plan → IsPlanOfPiece s a v plan
same_plan s a b v plan same h =
    subst (λ (t : ContractionTree). IsLeastButRows s.declarations.space (renumbered (place_in (each_once (references t))) t) plan) (sym same) h

module _ (s : Specification) (cut : Cuts) (plans : List (Option Plan)) (v r : ℕ) (joined : Plan) (count : length plans ≡ operations s.tree) where
  abbrev after : List (Option Plan)
  after = set (set plans v None) r (Some joined)

  pub joined_count : length after ≡ operations s.tree
  joined_count = length-set (set plans v None) r (Some joined) ∙ length-set plans v None ∙ count

  pub joined_plans : v < operations s.tree → HavePlans s cut plans → IsRootOver s.tree (except cut v) v r → IsPlanOfPiece s (except cut v) r joined → HavePlans s (except cut v) after
  joined_plans v_in have top one q q_in root = elim (cases_eq q r) [
    | inl e ↦
        subst (HasPlan s (except cut v) after) (sym e)
        (record { plan = joined; here = get_or-set_same (set plans v None) r (Some joined) None (omega (arith, length-set plans v None, count, top.inside)); is_plan = one })
    | inr ne ↦
        let apart : q ≡ v → ⊥ =
        λ e. ne (e ∙ sym (root_same s.tree (except cut v) v r v top (root_itself s.tree (except cut v) v v_in (subst (λ k. IsTrue (is_root s.tree (except cut v) k)) e root)))) in
        let h = have q q_in (root_some s.tree (except cut v) cut (λ u u_in t. (except_is cut v u t).0) q q_in root) in
        record {
          plan = h.plan;
          here = get_or-set_other (set plans v None) r q (Some joined) None ne ∙ get_or-set_other plans v q None None apart ∙ h.here;
          is_plan = same_plan s (except cut v) cut q h.plan (other_piece s.tree cut v q r top q_in root ne) h.is_plan;
        }
  ]

-- ---- the turn of a node

module _ (s : Specification) (limit : ℕ) (planned : PlannedCuts) (v : ℕ) (before : ArePlanned s limit planned v) where
  -- it is not cut
  pub planned_on : has planned.nodes v ≡ false → ArePlanned s limit planned (v + 1)
  planned_on apart = record { decided = goes_on s.declarations.space s.tree limit (has planned.nodes) v before.decided apart; count = before.count; plans = before.plans }

  module _ (fewer : Cuts) (r : ℕ) (same : (u : ℕ) → fewer u ≡ except (has planned.nodes) v u) (top : IsRootOver s.tree fewer v r) where
    -- its cut stays
    pub planned_stays : IsAbove s fewer r limit → ArePlanned s limit planned (v + 1)
    planned_stays above = record {
      decided = stays_at s limit (has planned.nodes) fewer v r before.decided same top above;
      count = before.count;
      plans = before.plans;
    }

    -- it is taken back
    module _ (joined : Plan) (one : IsPlanOfPiece s fewer r joined) where
      pub goes_planned : v < operations s.tree → HavePlans s fewer (set (set planned.plans.items v None) r (Some joined))
      goes_planned v_in =
          subst (λ c. HavePlans s c (set (set planned.plans.items v None) r (Some joined))) (sym (fun_ext same))
          (joined_plans s (has planned.nodes) planned.plans.items v r joined before.count v_in before.plans
          (subst (λ c. IsRootOver s.tree c v r) (fun_ext same) top) (subst (λ c. IsPlanOfPiece s c r joined) (fun_ext same) one))

      pub goes_decided : v < operations s.tree → joined.memory ≤ limit → AreDecided s.declarations.space s.tree limit fewer (v + 1)
      goes_decided v_in low = goes_at s limit (has planned.nodes) fewer v r before.decided same top joined.memory (plan_memory s fewer r joined one) v_in low
