-- Plans of tails, made or not.
use Rattle.std.proofs.Common.{◌≡◌, false, IsTrue, List, [], ◌∷◌, sym, ◌∙◌}
use Rattle.std.specs.List.{All, AllByRecursion}
use Rattle.std.proofs.lemmas.Bool.{true≢false}
use Rattle.std.proofs.lemmas.List.Elements.{All-cons, All-nil}
use Rattle.tce_exec.specs.NodeStates.{Places}
use Rattle.tce_exec.specs.Plans.{IsPlan}
use Rattle.tce_exec.specs.declared.plan.Plan.{Plan}

pub none_made : (p : Places) (plans : List Plan) → AllByRecursion (λ (plan : Plan). plan.made ≡ false) plans → All (λ (plan : Plan). IsTrue plan.made → IsPlan p plan) plans
none_made p [] h = All-nil (λ (plan : Plan). IsTrue plan.made → IsPlan p plan)
none_made p (x ∷ xs) h = All-cons (λ (plan : Plan). IsTrue plan.made → IsPlan p plan) x xs (λ made. absurd (true≢false (sym made ∙ h.0))) (none_made p xs h.1)
