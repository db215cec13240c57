use Rattle.std.proofs.lemmas.Bool.{false≢true, both_ways}
use Rattle.tce_search.proofs.steps.step.Goals as goal

pub returns-then-not-allowed-clause-allowed : goal.returns-then-not-allowed-clause-allowed
returns-then-not-allowed-clause-allowed c =
    rw (← c.joined.view_is) (
      (λ h. absurd (false≢true h)),
      (λ h. absurd (both_ways c.allowed.result c.if-not-allowed.true (c.allowed.ensures.1 h))),
    )
