use Rattle.tce_exec.proofs.Changes as changes
use Rattle.tce_exec.proofs.window_laws.changes_keep_cells.Goals as goal

pub returns : goal.returns
returns c = changes.changes_keep_cells
