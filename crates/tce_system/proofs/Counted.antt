-- A count that rises by one at each failure gives a failure its cause.
use Rattle.std.proofs.Common.{◌≡◌, ◌≤◌, ℕ, refl, ap, Result, Ok, Err, OnOk, IfOk, IfErr, IsErr, IsErrOf, is_err, None, arith, rules, if◌then◌else◌}
use Rattle.std.specs.Option.{ForSome}
use Rattle.tce_outside.specs.Fault.{HasCause, Rose, TellsFaults}
use Rattle.tce_outside.specs.Fault.{HasFailed}
use Rattle.tce_outside.specs.Schedule.{one_more}
use Rattle.tce_outside.specs.declared.device.OutFault.{OutFault}
use Rattle.tce_outside.specs.declared.device.OutFault.TheVariants.{Failed, Memory}
use Rattle.tce_system.specs.Counted.{has_failed}

one_more_rises : (n : ℕ) → Rose n (one_more n)
one_more_rises n = grind (arith, rules)

one_more_later : (n : ℕ) → n ≤ one_more n
one_more_later n = grind (arith, rules)

-- nothing is claimed of what is not told
pub untold : {T E X : Type 0} (result : Result T E) (P : T → X → Type 0) → IfOk result (λ x. ForSome None (P x))
untold (Ok x) P = search rules
untold (Err e) P = search rules

pub untold_read : {T E X : Type 0} (result : Result T E) (P : X → Type 0) → OnOk result (ForSome None P)
untold_read (Ok x) P = search rules
untold_read (Err e) P = search rules

-- and it stays untold
pub still_untold : {T E A : Type 0} (result : Result T E) (untold : A) → OnOk result (untold ≡ untold)
still_untold (Ok x) untold = refl
still_untold (Err e) untold = search rules

pub counted_cause : {T E : Type 0} (result : Result T E) (old new : ℕ) → new ≡ (if is_err result then one_more old else old) → HasCause old new (IsErr result)
counted_cause (Ok x) old new counted = search rules
counted_cause (Err e) old new counted = rw counted (record { later = one_more_later old; rose = λ _. one_more_rises old })

pub counted_cause_of : {T E : Type 0} (result : Result T E) (fault : E) (old new : ℕ) → new ≡ (if is_err result then one_more old else old) → HasCause old new (IsErrOf result fault)
counted_cause_of (Ok x) fault old new counted = search rules
counted_cause_of (Err e) fault old new counted = rw counted (record { later = one_more_later old; rose = λ _. one_more_rises old })

-- and where no failure is answered, none was counted
pub counted_told : {T E : Type 0} (result : Result T E) (old new : ℕ) → new ≡ (if is_err result then one_more old else old) → TellsFaults old new (IsErr result)
counted_told (Ok x) old new counted = λ _. counted
counted_told (Err e) old new counted = λ fine. absurd (fine (search rules))

pub counted_told_of : {T E : Type 0} (result : Result T E) (fault : E) (old new : ℕ) → IfErr result (λ e. e ≡ fault) → new ≡ (if is_err result then one_more old else old) → TellsFaults old new (IsErrOf result fault)
counted_told_of (Ok x) fault old new only counted = λ _. counted
counted_told_of (Err e) fault old new only counted = λ fine. absurd (fine (ap Err only))

-- Of an answer that may be want of memory, which is no failure of the device.
pub failed_cause : {T : Type 0} (result : Result T OutFault) (old new : ℕ) → new ≡ (if has_failed result then one_more old else old) → HasCause old new (HasFailed result)
failed_cause (Ok x) old new counted = search rules
failed_cause (Err Memory) old new counted = search rules
failed_cause (Err Failed) old new counted = rw counted (record { later = one_more_later old; rose = λ _. one_more_rises old })

pub failed_told : {T : Type 0} (result : Result T OutFault) (old new : ℕ) → new ≡ (if has_failed result then one_more old else old) → TellsFaults old new (HasFailed result)
failed_told (Ok x) old new counted = λ _. counted
failed_told (Err Memory) old new counted = λ _. counted
failed_told (Err Failed) old new counted = λ fine. absurd (fine (search rules))
