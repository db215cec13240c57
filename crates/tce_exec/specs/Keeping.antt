-- What stays from one runner to a later one.
use Rattle.std.specs.Prelude.{◌≡◌, Bool, true, false}
use Rattle.tce_exec.specs.Workspace.{Workspace}
use Rattle.tce_exec.specs.Steps.{IsKept, IsContinued}

-- what is kept in every outcome, and what is kept besides as long as no call has failed
pub record IsLater (before now : Workspace) (failed_before failed_now : Bool) : Type 0 where
  pub kept : IsKept before now
  pub failed : failed_before ≡ true → failed_now ≡ true
  pub continued : failed_now ≡ false → IsContinued before now
