-- Answers that count as a failure.
use Rattle.std.specs.Prelude.{Bool, true, false, Result, Ok, Err}
use Rattle.tce_outside.specs.declared.device.OutFault.{OutFault}
use Rattle.tce_outside.specs.declared.device.OutFault.TheVariants.{Failed, Memory}

-- whether the answer is that the device failed
abbrev pub has_failed : {A : Type 0} → Result A OutFault → Bool
has_failed (Ok _) = false
has_failed (Err Memory) = false
has_failed (Err Failed) = true
