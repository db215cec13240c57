use Rattle.std.proofs.Common.{rules}
use Rattle.tce_outside.proofs.Puts.{put_prefix}
use Rattle.tce_outside.proofs.faulty_sink.FaultySinkSink.TheImpl.Goals as goal

pub put-tells : goal.put-tells
put-tells c =
    record {
      whole = search rules;
      memory = search rules;
      prefix = put_prefix c.result _ _ _ c.ensures.whole c.ensures.err;
      fault_reported = record { cause = search rules; quiet = search rules };
    }
