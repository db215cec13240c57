use Rattle.tce_exec.proofs.Changes as changes
use Rattle.tce_exec.proofs.window_laws.windows_are_apart.Goals as goal

pub returns : goal.returns
returns c = changes.windows_are_apart
