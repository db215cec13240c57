use Rattle.std.proofs.Common.{rules}
use Rattle.tce_system.proofs.Counted.{still_untold, counted_cause_of, counted_told_of}
use Rattle.tce_system.proofs.sink.OutSinkSink.TheImpl.Goals as goal

pub put-tells : goal.put-tells
put-tells g c = record { whole = still_untold c.result _; memory = search rules; prefix = (0, search rules); fault_reported = record { cause = counted_cause_of c.result _ _ _ c.ensures.counted; quiet = counted_told_of c.result _ _ _ c.ensures.failed c.ensures.counted } }
