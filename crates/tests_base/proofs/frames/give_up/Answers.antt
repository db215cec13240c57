use Rattle.std.proofs.Common.{refl}
use Rattle.tests_base.proofs.frames.give_up.Goals as goal

pub replace-requires-clause-frame : goal.replace-requires-clause-frame
replace-requires-clause-frame c = (_, c.frame-held.ensures, refl)
