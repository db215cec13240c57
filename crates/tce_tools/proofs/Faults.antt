-- What a call answers where one below it was refused.
use Rattle.std.proofs.Common.{◌≡◌, ◌≢◌, refl, Result, Ok, Err, OnOk, sym, subst, inl, inr}
use Rattle.std.specs.Result.{IsErrAnd}
use Rattle.tce_outside.specs.declared.device.OutFault.{OutFault}
use Rattle.tce_outside.specs.declared.device.OutFault.TheVariants as out_fault
use Rattle.tce_array.specs.declared.fault.ArrayFault.{ArrayFault}
use Rattle.tce_array.specs.declared.fault.ArrayFault.TheVariants as array_fault
use Rattle.tce_tools.specs.declared.fault.ToolFault.{ToolFault}
use Rattle.tce_tools.specs.declared.fault.ToolFault.TheVariants.{Array, Disk, Memory}
use Rattle.tce_tools.specs.Faults.{of_making, of_opening}
use Rattle.tce_tools.specs.Answers.{IsOfCopy}

pub refused_for : (P : Result (Unit {0}) ToolFault → Type 0) (answer : Result (Unit {0}) ToolFault) (fault : ToolFault) → IsErrAnd answer (λ e. e ≡ fault) → P (Err fault) → P answer
refused_for P (Ok done) fault is h = absurd is
refused_for P (Err e) fault is h = subst (λ (f : ToolFault). P (Err f)) (sym is) h

-- a file was not made
pub not_made : (P : Result (Unit {0}) ToolFault → Type 0) (answer : Result (Unit {0}) ToolFault) (was : OutFault) → IsErrAnd answer (λ e. e ≡ of_making was)
    → (was ≡ out_fault.Failed → P (Err Disk)) → (was ≡ out_fault.Memory → P (Err Memory)) → P answer
not_made P answer out_fault.Failed is disk memory = refused_for P answer Disk is (disk refl)
not_made P answer out_fault.Memory is disk memory = refused_for P answer Memory is (memory refl)

-- the answer is that of the call that did not make it
pub making_failed : {A B : Type 0} (answer : Result A OutFault) (made : Result B OutFault) (was fault : OutFault) → IsErrAnd answer (λ e. e ≡ was) → made ≡ Err was → answer ≡ Err fault → made ≡ Err fault
making_failed (Ok a) made was fault is told e = absurd is
making_failed (Err x) made was fault is told e = cc

pub failed_making : {A B : Type 0} (answer : Result A OutFault) (made : Result B OutFault) (was fault : OutFault) → IsErrAnd answer (λ e. e ≡ was) → made ≡ Err was → made ≡ Err fault → answer ≡ Err fault
failed_making (Ok a) made was fault is told e = absurd is
failed_making (Err x) made was fault is told e = cc

-- an array file was not opened
pub not_opened : (P : Result (Unit {0}) ToolFault → Type 0) (answer : Result (Unit {0}) ToolFault) (was : ArrayFault) → IsErrAnd answer (λ e. e ≡ of_opening was)
    → (was ≢ array_fault.Disk → P (Err (Array was))) → (was ≡ array_fault.Disk → P (Err Disk)) → P answer
not_opened P answer array_fault.NoFile is array disk = refused_for P answer (Array array_fault.NoFile) is (array (λ e. absurd cc))
not_opened P answer (array_fault.BadLength n) is array disk = refused_for P answer (Array (array_fault.BadLength n)) is (array (λ e. absurd cc))
not_opened P answer (array_fault.BadHeader p) is array disk = refused_for P answer (Array (array_fault.BadHeader p)) is (array (λ e. absurd cc))
not_opened P answer array_fault.Disk is array disk = refused_for P answer Disk is (disk refl)

-- whatever copying answers
pub copied_or_not : (P : Result (Unit {0}) ToolFault → Type 0) (answer : Result (Unit {0}) ToolFault) → IsOfCopy answer → ((done : Unit {0}) → P (Ok done)) → P (Err Disk) → P (Err Memory) → P answer
copied_or_not P (Ok done) own ok disk memory = ok done
copied_or_not P (Err fault) (inl is) ok disk memory = subst (λ (f : ToolFault). P (Err f)) (sym is) disk
copied_or_not P (Err fault) (inr is) ok disk memory = subst (λ (f : ToolFault). P (Err f)) (sym is) memory

pub on_ok : {A E : Type 0} (answer : Result A E) (P Q : Type 0) → (P → Q) → OnOk answer P → OnOk answer Q
on_ok (Ok a) P Q turned h = turned h
on_ok (Err e) P Q turned h = tt
