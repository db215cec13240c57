use Rattle.tce_system.proofs.Tables.{others_kept}
use Rattle.tce_system.proofs.kept.KeptFiles.close.Goals as goal

pub returns-clause-others : goal.returns-clause-others
returns-clause-others c = others_kept c.args.name.now c.args.self.now.files c.remove.new.self _ c.remove.ensures.updates
