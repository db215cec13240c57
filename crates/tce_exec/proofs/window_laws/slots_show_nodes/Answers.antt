use Rattle.tce_exec.proofs.Shown as shown
use Rattle.tce_exec.proofs.window_laws.slots_show_nodes.Goals as goal

pub returns : goal.returns
returns c = shown.slots_show_nodes
