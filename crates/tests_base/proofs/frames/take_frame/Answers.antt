use Rattle.std.proofs.Common.{refl}
use Rattle.tce_cache.proofs.Found.{front_frame}
use Rattle.tests_base.proofs.frames.take_frame.Goals as goal

pub replace-requires-clause-frame : goal.replace-requires-clause-frame
replace-requires-clause-frame c = (_, c.frame-last.ensures, refl)

pub returns-then-len-frames-clause-front : goal.returns-then-len-frames-clause-front
returns-then-len-frames-clause-front c = front_frame _ _ _ c.hold.ensures.held

pub returns-else-len-frames-clause-front : goal.returns-else-len-frames-clause-front
returns-else-len-frames-clause-front c = front_frame _ _ _ (c.replace.ensures.held _ _ _ c.frame-last.ensures refl)
