-- Answers that are not the same.
use Rattle.std.proofs.Common.{◌≡◌, true, Option, Some, None, Result, Ok, Err, is_err}
use Rattle.tce_outside.specs.declared.device.OutFault.{OutFault}
use Rattle.tce_outside.specs.declared.device.OutFault.TheVariants.{Failed, Memory}
use Rattle.tce_array.specs.declared.form.Form.{Form}
use Rattle.tce_array.specs.declared.fault.ArrayFault.{ArrayFault}
use Rattle.tce_tools.specs.declared.fault.ToolFault.{ToolFault}
use Rattle.tce_tools.specs.declared.fault.ToolFault.TheVariants as tool
use Rattle.tce_tools.specs.declared.storage.Storage.{Storage}
use Rattle.tce_tools.specs.declared.storage.Storage.TheVariants as storage

pub ok_not_err : {A E : Type 0} {x : A} {e : E} → Ok x ≡ Err e → ⊥
ok_not_err h = cc

pub failed_not_ok : {A E : Type 0} (answer : Result A E) (x : A) → is_err answer ≡ true → answer ≡ Ok x → ⊥
failed_not_ok (Ok y) x failed ok = cc
failed_not_ok (Err e) x failed ok = cc

pub failed_not_memory : {A : Type 0} (answer : Result A OutFault) → answer ≡ Err Failed → answer ≡ Err Memory → ⊥
failed_not_memory answer failed memory = cc

pub array_not_disk : {A : Type 0} (answer : Result A ToolFault) (fault : ArrayFault) → answer ≡ Err (tool.Array fault) → answer ≡ Err tool.Disk → ⊥
array_not_disk answer fault array disk = cc

pub memory_not_disk : {A : Type 0} (answer : Result A ToolFault) → answer ≡ Err tool.Memory → answer ≡ Err tool.Disk → ⊥
memory_not_disk answer memory disk = cc

pub same_err : {A E : Type 0} (answer : Result A E) (x y : E) → answer ≡ Err x → answer ≡ Err y → x ≡ y
same_err answer x y one other = cc

pub none_not_some : {A E : Type 0} (answer : Result (Option A) E) (x : A) → answer ≡ Ok None → answer ≡ Ok (Some x) → ⊥
none_not_some answer x none some = cc

pub same_some : {A E : Type 0} (answer : Result (Option A) E) (x y : A) → answer ≡ Ok (Some x) → answer ≡ Ok (Some y) → x ≡ y
same_some answer x y one other = cc

pub flat_not_array : (kind : Storage) (form : Form) → kind ≡ storage.Flat → kind ≡ storage.Array form → ⊥
flat_not_array kind form flat array = cc
