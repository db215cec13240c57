use Rattle.tce_exec.proofs.Following.{read_on, change_on, changed_twice}
use Rattle.tce_exec.specs.Following.{kept_on, continued_on}
use Rattle.tce_exec.proofs.workspace_laws.steps_follow.Goals as goal

pub returns : goal.returns
returns c = record { kept = kept_on; continued = continued_on; read = read_on; changed = change_on; twice = changed_twice }
