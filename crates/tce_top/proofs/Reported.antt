-- The report of a command over files that tell nothing.
use Rattle.std.proofs.Common.{◌≡◌, ℕ, List, [], Option, None, subst}
use Rattle.tce_outside.specs.Files.{Files}
use Rattle.tce_top.specs.Answer.{IsReport}
use Rattle.tce_top.specs.Outcome.{IsFinished}

pub reported : (words : List (List ℕ)) (before after : Option Files) (taken taken_after : List (ℕ × ℕ)) (report : List ℕ) → before ≡ None → taken ≡ [] → IsFinished words before after taken taken_after report → IsReport words report
reported words before after taken taken_after report nothing none done =
    (after, taken_after, subst (λ told. IsFinished words told after [] taken_after report) nothing (subst (λ had. IsFinished words before after had taken_after report) none done))
