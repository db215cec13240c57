use Rattle.std.proofs.Common.{rules, refl}
use Rattle.std.proofs.lemmas.Option.{none-some}
use Rattle.tce_system.proofs.Counted.{untold, untold_read, still_untold, counted_cause, counted_told, failed_cause, failed_told}
use Rattle.tce_system.proofs.disk.FileDiskDisk.TheImpl.Goals as goal

pub size-tells : goal.size-tells
size-tells g c = record { length = untold c.result _; same = search rules; fault_reported = record { cause = counted_cause c.result _ _ c.ensures.counted; quiet = counted_told c.result _ _ c.ensures.counted } }

pub make-tells : goal.make-tells
make-tells g c = record { made = still_untold c.result _; memory = search rules; zeros = λ files told. absurd (none-some files told); others = search rules; fault_reported = record { cause = failed_cause c.result _ _ c.ensures.counted; quiet = failed_told c.result _ _ c.ensures.counted } }

pub read_at-tells : goal.read_at-tells
read_at-tells g c = record { read = untold_read c.result _; same = search rules; fault_reported = record { cause = counted_cause c.result _ _ c.ensures.counted; quiet = counted_told c.result _ _ c.ensures.counted } }

pub write_at-tells : goal.write_at-tells
write_at-tells g c = record { written = still_untold c.result _; before = refl; behind = refl; others = search rules; fault_reported = record { cause = counted_cause c.result _ _ c.ensures.counted; quiet = counted_told c.result _ _ c.ensures.counted } }
