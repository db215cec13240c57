use Rattle.tce_exec.proofs.Workspaces.{kept_setting}
use Rattle.tce_exec.proofs.workspace_laws.settings_stay.Goals as goal

pub returns : goal.returns
returns c = kept_setting
