-- There is one right verdict on a plan.
use Rattle.std.proofs.Common.{◌≡◌, ℕ, zero, suc, ◌+◌, ◌-◌, ◌<◌, ◌≤◌, ◌↔◌, inl, inr, refl, sym, ap, ◌∙◌, subst, arith, List}
use Rattle.std.proofs.lemmas.Bool.{cases_eq, cases_order}
use Rattle.tce_space.specs.Space.{IndexSpace}
use Rattle.tce_tree.specs.ContractionTree.{ContractionTree, operations, node_loops}
use Rattle.tce_tree.specs.Orders.{lists_of, LeadsUp}
use Rattle.tce_fusion.specs.Scope.{IsIllegalAt}
use Rattle.tce_tree.specs.Memory.{size_at}
use Rattle.tce_fusion.proofs.Illegal.{none_from_legal}
use Rattle.tce_fusion.specs.Row.{Row, rows_at, step_relation, step_cost}
use Rattle.tce_fusion.specs.Cover.{left_rows, right_rows, StepsCovered}
use Rattle.tce_nesting.specs.declared.plan.Plan.{Plan}
use Rattle.tce_nesting.proofs.NestingLaws.{nestings_are_their_relations}
use Rattle.tce_check.specs.First.{FirstPair}
use Rattle.tce_check.specs.Verdict.{HasSize, IsLegalPlan, IsOrdered, IsSized, IsTotalled, IsCovered, IsAccepted, WhereJoined, IsLeastUncovered, CoversAt, FailsAt, IsBelow, IsVerdict}
use Rattle.tce_check.specs.declared.verdict.Verdict.{Verdict}
use Rattle.tce_check.specs.declared.verdict.Verdict.TheVariants.{Accepted, NotLegal, OrderWrong, SizeWrong, TotalWrong, NotCovered, BelowTotal}
use Rattle.tce_check.proofs.Firsts.{number_meets, pair_not_all, pair_meets}
use Rattle.tce_check.proofs.FromTables.{one_parent}

-- how many rules a plan keeps before the one of the verdict, and these rules
abbrev stage : Verdict → ℕ
stage (NotLegal v) = 0
stage (OrderWrong v) = 1
stage (SizeWrong v size) = 2
stage (TotalWrong total) = 3
stage (NotCovered v fused classes cost) = 4
stage (BelowTotal sum) = 5
stage Accepted = 6

abbrev Keeps : IndexSpace → ContractionTree → Plan → ℕ → Type 0
Keeps space tree plan zero = Unit {0}
Keeps space tree plan (suc zero) = IsLegalPlan tree plan
Keeps space tree plan (suc (suc zero)) = IsOrdered tree plan
Keeps space tree plan (suc (suc (suc zero))) = IsSized space tree plan
Keeps space tree plan (suc (suc (suc (suc zero)))) = IsTotalled space tree plan
Keeps space tree plan (suc (suc (suc (suc (suc zero))))) = IsCovered space tree plan
Keeps space tree plan (suc (suc (suc (suc (suc (suc k)))))) = IsAccepted space tree plan

keeps_less : (space : IndexSpace) (tree : ContractionTree) (plan : Plan) (k : ℕ) → Keeps space tree plan (suc k) → Keeps space tree plan k
keeps_less space tree plan zero keeps = tt
keeps_less space tree plan (suc zero) keeps = keeps.0
keeps_less space tree plan (suc (suc zero)) keeps = keeps.0
keeps_less space tree plan (suc (suc (suc zero))) keeps = keeps.0
keeps_less space tree plan (suc (suc (suc (suc zero)))) keeps = keeps.0
keeps_less space tree plan (suc (suc (suc (suc (suc zero))))) keeps = keeps.0
keeps_less space tree plan (suc (suc (suc (suc (suc (suc k)))))) keeps = keeps

keeps_first : (space : IndexSpace) (tree : ContractionTree) (plan : Plan) (k n : ℕ) → k ≤ n → Keeps space tree plan n → Keeps space tree plan k
keeps_first space tree plan k zero low keeps = let none : 0 ≡ k = omega arith in subst (Keeps space tree plan) none keeps
keeps_first space tree plan k (suc n) low keeps = elim (cases_eq (suc n) k) [
  | inl same ↦ subst (Keeps space tree plan) same keeps
  | inr other ↦ keeps_first space tree plan k n (omega arith) (keeps_less space tree plan n keeps)
]

-- a right verdict says that the rules before its own are kept
kept : (space : IndexSpace) (tree : ContractionTree) (plan : Plan) (v : Verdict) → IsVerdict space tree plan v → Keeps space tree plan (stage v)
kept space tree plan (NotLegal v) is = tt
kept space tree plan (OrderWrong v) is = is.0
kept space tree plan (SizeWrong v size) is = is.0
kept space tree plan (TotalWrong total) is = is.0
kept space tree plan (NotCovered v fused classes cost) is = is.0
kept space tree plan (BelowTotal sum) is = is.0
kept space tree plan Accepted is = is

-- steps that are covered do not lack a row
covered_not_bare : (space : IndexSpace) (tree : ContractionTree) (outer v fused : ℕ) (rows : List Row) (step left right : Row)
    → WhereJoined tree v (StepsCovered space tree outer v rows) left right → IsLeastUncovered space tree outer v rows fused step left right → ⊥
covered_not_bare space tree outer v fused rows step left right covered least = least.uncovered (covered least.is.quiet fused least.is.within least.is.allowed)

covers_not_fails : (space : IndexSpace) (tree : ContractionTree) (tables : List (List Row)) (fused : ℕ) (step : Row) (v : ℕ) → CoversAt space tree tables v
    → FailsAt space tree tables fused step v → ⊥
covers_not_fails space tree tables fused step v covers fails =
    pair_not_all (WhereJoined tree v (StepsCovered space tree (node_loops tree fails.above) v (rows_at tables v)))
    (IsLeastUncovered space tree (node_loops tree fails.above) v (rows_at tables v) fused step)
    (covered_not_bare space tree (node_loops tree fails.above) v fused (rows_at tables v) step)
    (left_rows tree tables v) (right_rows tree tables v) fails.first (covers fails.above fails.parent_is)

not_below : (tree : ContractionTree) (v total sum : ℕ) (left right : Row) → WhereJoined tree v (λ l r. total ≤ l.cost + r.cost) left right → IsBelow tree v total sum left right → ⊥
not_below tree v total sum left right least below = omega (arith, least below.quiet, below.sum_is, below.below)

-- and that its own rule is broken
broken : (space : IndexSpace) (tree : ContractionTree) (plan : Plan) (v : Verdict) → IsVerdict space tree plan v → stage v < 6 → Keeps space tree plan (stage v + 1) → ⊥
broken space tree plan (NotLegal v) is low keeps = none_from_legal tree plan.fusion.0.items keeps v is.inside is.fails
broken space tree plan (OrderWrong v) is low keeps = is.1.fails (keeps.1 v)
broken space tree plan (SizeWrong v size) is low keeps = is.1.fails.1 (keeps.1 v is.1.inside)
broken space tree plan (TotalWrong total) is low keeps = is.2 (keeps.1 ∙ sym is.1)
broken space tree plan (NotCovered v fused classes cost) is low keeps =
    covers_not_fails space tree plan.tables fused (record { classes = classes; cost = cost }) v (keeps.1 v) is.1.fails
broken space tree plan (BelowTotal sum) is low keeps =
    pair_not_all (WhereJoined tree (operations tree - 1) (λ left right. plan.memory ≤ left.cost + right.cost)) (IsBelow tree (operations tree - 1) plan.memory sum)
    (not_below tree (operations tree - 1) plan.memory sum) (left_rows tree plan.tables (operations tree - 1)) (right_rows tree plan.tables (operations tree - 1)) is.1 keeps.1
broken space tree plan Accepted is low keeps = omega arith

-- so two right verdicts have the same stage
not_less : (space : IndexSpace) (tree : ContractionTree) (plan : Plan) (a b : Verdict) → IsVerdict space tree plan a → IsVerdict space tree plan b → stage b ≤ 6 → stage a < stage b → ⊥
not_less space tree plan a b is other top low =
    broken space tree plan a is (omega arith) (keeps_first space tree plan (stage a + 1) (stage b) (omega arith) (kept space tree plan b other))

top_stage : (v : Verdict) → stage v ≤ 6
top_stage (NotLegal v) = omega arith
top_stage (OrderWrong v) = omega arith
top_stage (SizeWrong v size) = omega arith
top_stage (TotalWrong total) = omega arith
top_stage (NotCovered v fused classes cost) = omega arith
top_stage (BelowTotal sum) = omega arith
top_stage Accepted = omega arith

same_stage : (space : IndexSpace) (tree : ContractionTree) (plan : Plan) (a b : Verdict) → IsVerdict space tree plan a → IsVerdict space tree plan b → stage a ≡ stage b
same_stage space tree plan a b is other = elim (cases_order (stage a) (stage b)) [
  | inl same ↦ same
  | inr (inl below) ↦ absurd (not_less space tree plan a b is other (top_stage b) below)
  | inr (inr above) ↦ absurd (not_less space tree plan b a other is (top_stage a) above)
]

-- two least steps from the same rows are one
pub record IsSameStep (fused other : ℕ) (step state : Row) : Type 0 where
  pub set : fused ≡ other
  pub classes : step.classes ≡ state.classes
  pub cost : step.cost ≡ state.cost

same_set : (space : IndexSpace) (tree : ContractionTree) (outer v fused other : ℕ) (rows : List Row) (step state left right : Row)
    → IsLeastUncovered space tree outer v rows fused step left right → IsLeastUncovered space tree outer v rows other state left right → fused ≡ other
same_set space tree outer v fused other rows step state left right p q = elim (cases_order fused other) [
  | inl same ↦ same
  | inr (inl below) ↦ absurd (p.uncovered (q.lesser fused below p.is.within p.is.allowed))
  | inr (inr above) ↦ absurd (q.uncovered (p.lesser other above q.is.within q.is.allowed))
]

same_step : (space : IndexSpace) (tree : ContractionTree) (outer v fused other : ℕ) (rows : List Row) (step state left right : Row)
    → IsLeastUncovered space tree outer v rows fused step left right → IsLeastUncovered space tree outer v rows other state left right → IsSameStep fused other step state
same_step space tree outer v fused other rows step state left right p q =
    let set = same_set space tree outer v fused other rows step state left right p q in
    record {
      set = set;
      classes = nestings_are_their_relations step.classes state.classes p.nesting q.nesting
          (λ i j. p.is.relation_is i j ∙ ap (λ x. step_relation left right x i j) set ∙ sym (q.is.relation_is i j));
      cost = p.is.cost_is ∙ ap (step_cost space tree v left right) set ∙ sym q.is.cost_is;
    }

same_failure : (space : IndexSpace) (tree : ContractionTree) (tables : List (List Row)) (fused other : ℕ) (step state : Row) (v : ℕ)
    → FailsAt space tree tables fused step v → FailsAt space tree tables other state v → IsSameStep fused other step state
same_failure space tree tables fused other step state v p q =
    let outer = node_loops tree p.above in
    let rows = rows_at tables v in
    let Holds = WhereJoined tree v (StepsCovered space tree outer v rows) in
    let same = one_parent tree v q.above p.above q.parent_is p.parent_is in
    pair_meets Holds (IsLeastUncovered space tree outer v rows fused step) (IsLeastUncovered space tree outer v rows other state)
    (covered_not_bare space tree outer v fused rows step) (covered_not_bare space tree outer v other rows state)
    (λ left right. same_step space tree outer v fused other rows step state left right)
    (left_rows tree tables v) (right_rows tree tables v) p.first
    (subst (λ u. FirstPair (WhereJoined tree v (StepsCovered space tree (node_loops tree u) v rows)) (IsLeastUncovered space tree (node_loops tree u) v rows other state)
    (left_rows tree tables v) (right_rows tree tables v)) same q.first)

same_sum : (tree : ContractionTree) (v total sum other : ℕ) (left right : Row) → IsBelow tree v total sum left right → IsBelow tree v total other left right → sum ≡ other
same_sum tree v total sum other left right p q = p.sum_is ∙ sym q.sum_is

same_verdict : (space : IndexSpace) (tree : ContractionTree) (plan : Plan) (a b : Verdict) → stage a ≡ stage b → IsVerdict space tree plan a → IsVerdict space tree plan b → a ≡ b
same_verdict space tree plan (NotLegal v) (NotLegal w) level p q =
    ap NotLegal (number_meets (operations tree) (λ u. IsIllegalAt tree plan.fusion.0.items u → ⊥) (IsIllegalAt tree plan.fusion.0.items) (IsIllegalAt tree plan.fusion.0.items)
    (λ u h f. h f) (λ u h f. h f) v w p q)
same_verdict space tree plan (OrderWrong v) (OrderWrong w) level p q =
    let Leads = LeadsUp tree plan.fusion.0.items (lists_of plan.orders.0.items) in
    ap OrderWrong (number_meets (operations tree - 1) Leads (λ u. Leads u → ⊥) (λ u. Leads u → ⊥) (λ u h f. f h) (λ u h f. f h) v w p.1 q.1)
same_verdict space tree plan (SizeWrong v size) (SizeWrong w other) level p q =
    let Fails = λ (n u : ℕ). (n ≡ size_at space tree plan.fusion.0.items u) × (HasSize space tree plan u → ⊥) in
    let node : v ≡ w = number_meets (operations tree - 1) (HasSize space tree plan) (Fails size) (Fails other) (λ u h f. f.1 h) (λ u h f. f.1 h) v w p.1 q.1 in
    let kept : size ≡ other = p.1.fails.0 ∙ ap (size_at space tree plan.fusion.0.items) node ∙ sym q.1.fails.0 in
    cc
same_verdict space tree plan (TotalWrong total) (TotalWrong other) level p q = ap TotalWrong (p.1 ∙ sym q.1)
same_verdict space tree plan (NotCovered v fused classes cost) (NotCovered w other lists sum) level p q =
    let step : Row = record { classes = classes; cost = cost } in
    let state : Row = record { classes = lists; cost = sum } in
    let node : v ≡ w = number_meets (operations tree - 1) (CoversAt space tree plan.tables) (FailsAt space tree plan.tables fused step) (FailsAt space tree plan.tables other state)
    (covers_not_fails space tree plan.tables fused step) (covers_not_fails space tree plan.tables other state) v w p.1 q.1 in
    let same = same_failure space tree plan.tables fused other step state v p.1.fails (subst (FailsAt space tree plan.tables other state) (sym node) q.1.fails) in
    let sets : fused ≡ other = same.set in
    let nestings : classes ≡ lists = same.classes in
    let costs : cost ≡ sum = same.cost in
    cc
same_verdict space tree plan (BelowTotal sum) (BelowTotal other) level p q =
    let root = operations tree - 1 in
    ap BelowTotal (pair_meets (WhereJoined tree root (λ left right. plan.memory ≤ left.cost + right.cost)) (IsBelow tree root plan.memory sum) (IsBelow tree root plan.memory other)
    (not_below tree root plan.memory sum) (not_below tree root plan.memory other) (same_sum tree root plan.memory sum other)
    (left_rows tree plan.tables root) (right_rows tree plan.tables root) p.1 q.1)
same_verdict space tree plan Accepted Accepted level p q = refl
same_verdict space tree plan a b level p q = absurd (omega arith)

-- a right verdict is the only one
pub one_verdict : (space : IndexSpace) (tree : ContractionTree) (plan : Plan) (verdict : Verdict) → IsVerdict space tree plan verdict
    → (other : Verdict) → (verdict ≡ other) ↔ IsVerdict space tree plan other
one_verdict space tree plan verdict is other = (
  λ same. subst (IsVerdict space tree plan) same is,
  λ right. same_verdict space tree plan verdict other (same_stage space tree plan verdict other is right) is right,
)
