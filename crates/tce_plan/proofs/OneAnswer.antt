-- `plan` has one answer.
use Rattle.std.proofs.Common.{◌≡◌, refl, subst, ℕ, List, Some, arith}
use Rattle.tce_outside.specs.Files.{Files}
use Rattle.tce_space.specs.Space.{IndexSpace}
use Rattle.tce_tree.specs.ContractionTree.{ContractionTree}
use Rattle.tce_nesting.specs.declared.plan.Plan.{Plan}
use Rattle.tce_search.specs.LeastPlan.{IsLeastPlan}
use Rattle.tce_spec.specs.Specification.{Specification}
use Rattle.tce_command.proofs.Outcomes.{one, not_both}
use Rattle.tce_command.specs.Refusals.{IsFree}
use Rattle.tce_command.specs.declared.refusal.Refusal.{Refusal}
use Rattle.tce_plan.specs.Done.{IsPlanned}
use Rattle.tce_plan.specs.Refusals.{CanPlan, IsPlanRefusal}

pub granted : (files : Files) (spec : List ℕ) (a : Refusal) → CanPlan files spec → IsPlanRefusal files spec a → IsFree a
granted files spec a (s, specified) refused = not_both files spec s a specified refused

-- two least plans of one tree have the same memory
same_memory : (space : IndexSpace) (tree : ContractionTree) (p q : Plan) → IsLeastPlan space tree p → IsLeastPlan space tree q → p.memory ≡ q.memory
same_memory space tree p q a b =
    let below = a.least.least q.fusion.0.items b.least.fits b.least.legal in
    let above = b.least.least p.fusion.0.items a.least.fits a.least.legal in
    let of_p = a.memory_is in
    let of_q = b.memory_is in
    omega (arith, below, above, of_p, of_q)

pub one_memory : (files : Files) (spec report other : List ℕ) (a : IsPlanned (Some files) spec report) (b : IsPlanned (Some files) spec other) → a.planned.plan.memory ≡ b.planned.plan.memory
one_memory files spec report other a b =
    let same = one files spec a.specification b.specification (a.specified files refl) (b.specified files refl) in
    same_memory b.specification.declarations.space b.specification.tree a.planned.plan b.planned.plan
    (subst (λ (s : Specification). IsLeastPlan s.declarations.space s.tree a.planned.plan) same a.planned.least) b.planned.least
