use Rattle.tce_exec.proofs.Workspaces.{touched_keeps, touched_reads}
use Rattle.tce_exec.proofs.workspace_laws.touches_are_reads.Goals as goal

pub returns : goal.returns
returns c = record { kept = touched_keeps; read = touched_reads }
