-- What the tools refuse, as the refusals of a tensor's files, and their failures of the disk.
use Rattle.std.proofs.Common.{◌≡◌, ◌≢◌, refl, sym, ap, subst, ◌⊎◌, inl, inr, ℕ, List, Result, Err}
use Rattle.tce_outside.specs.Fault.{HasCause, TellsFaults}
use Rattle.tce_outside.specs.Files.{Files, file}
use Rattle.tce_outside.proofs.Causes.{cause_as, told_as}
use Rattle.tce_space.specs.Tiling.{Tiling}
use Rattle.tce_array.specs.declared.form.Form.{Form}
use Rattle.tce_array.specs.declared.fault.ArrayFault.{ArrayFault}
use Rattle.tce_array.specs.declared.fault.ArrayFault.TheVariants as array_fault
use Rattle.tce_tools.specs.Answers.{IsRefused, IsPackAnswer, IsUnpackAnswer, IsConvertAnswer}
use Rattle.tce_tools.specs.declared.fault.ToolFault.{ToolFault}
use Rattle.tce_tools.specs.declared.fault.ToolFault.TheVariants as tool
use Rattle.tce_command.specs.Report.{fault_of}
use Rattle.tce_command.specs.Refusals.{NamesFile, IsFree}
use Rattle.tce_command.specs.declared.refusal.Refusal.{Refusal}
use Rattle.tce_command.specs.declared.refusal.Refusal.TheVariants.{Missing, Array, Disk}
use Rattle.tce_command.proofs.Refused.{refused, same_refused}
use Rattle.tce_flat.specs.Refusals.{IsFlatRefusal, IsArrayRefusal, IsFormRefusal}
use Rattle.tce_flat.specs.Tensors.{array_file}
use Rattle.tce_flat.specs.Tools.{KeepsFault, Stands}

-- the disk is told as the disk, and nothing else is
disk_alone : (tensor input : List ℕ) (fault : ToolFault) (refusal : Refusal) → Stands tensor input fault refusal → refusal ≡ Disk → fault ≡ tool.Disk
disk_alone tensor input tool.NoFlat refusal stands e = absurd (subst (NamesFile input) e stands)
disk_alone tensor input (tool.FlatLength n) refusal stands e = absurd (cc)
disk_alone tensor input (tool.Array array_fault.NoFile) refusal stands e = absurd (subst (NamesFile input) e stands)
disk_alone tensor input (tool.Array (array_fault.BadLength n)) refusal stands e = absurd (subst (KeepsFault tensor (tool.Array (array_fault.BadLength n))) e stands)
disk_alone tensor input (tool.Array (array_fault.BadHeader p)) refusal stands e = absurd (subst (KeepsFault tensor (tool.Array (array_fault.BadHeader p))) e stands)
disk_alone tensor input (tool.Array array_fault.Disk) refusal stands e = absurd (subst (KeepsFault tensor (tool.Array array_fault.Disk)) e stands)
disk_alone tensor input (tool.DoesNotFit k) refusal stands e = absurd (cc)
disk_alone tensor input tool.Disk refusal stands e = refl
disk_alone tensor input tool.Memory refusal stands e = absurd (cc)

disk_told : (tensor input : List ℕ) (fault : ToolFault) (refusal : Refusal) → Stands tensor input fault refusal → fault ≡ tool.Disk → refusal ≡ Disk
disk_told tensor input fault refusal stands e = subst (λ f. Stands tensor input f refusal) e stands

abbrev tool_refused : ToolFault → Result (Unit {0}) ToolFault
tool_refused fault = Err fault

same_fault : (a b : ToolFault) → tool_refused a ≡ tool_refused b → a ≡ b
same_fault a b e = cc

pub tool_cause : {A : Type 0} (tensor input : List ℕ) (fault : ToolFault) (refusal : Refusal) (before after : ℕ) → Stands tensor input fault refusal
    → HasCause before after (tool_refused fault ≡ tool_refused tool.Disk) → HasCause before after (refused {A = A} refusal ≡ refused {A = A} Disk)
tool_cause {A} tensor input fault refusal before after stands cause =
    cause_as before after (λ e. ap tool_refused (disk_alone tensor input fault refusal stands (same_refused {A = A} refusal Disk e))) cause

pub tool_told : {A : Type 0} (tensor input : List ℕ) (fault : ToolFault) (refusal : Refusal) (before after : ℕ) → Stands tensor input fault refusal
    → TellsFaults before after (tool_refused fault ≡ tool_refused tool.Disk) → TellsFaults before after (refused {A = A} refusal ≡ refused {A = A} Disk)
tool_told {A} tensor input fault refusal before after stands told =
    told_as before after (λ e. ap (refused {A = A}) (disk_told tensor input fault refusal stands (same_fault fault tool.Disk e))) told

pub tool_keeps : {S : Type 0} (tensor input : List ℕ) (fault : ToolFault) (refusal : Refusal) (before after : S) → Stands tensor input fault refusal
    → (fault ≢ tool.Disk → after ≡ before) → refusal ≢ Disk → after ≡ before
tool_keeps tensor input fault refusal before after stands keeps other = keeps (λ e. other (disk_told tensor input fault refusal stands e))

-- why a flat file is refused
pub flat_refused : (files : Files) (tensor flat : List ℕ) (shape : Tiling) (fault : ToolFault) (refusal : Refusal) → Stands tensor flat fault refusal
    → IsPackAnswer shape (file files flat) (Err fault) → IsFree refusal ⊎ IsFlatRefusal files flat shape refusal
flat_refused files tensor flat shape tool.NoFlat (Missing name) stands answer = inr (stands, answer)
flat_refused files tensor flat shape tool.NoFlat refusal stands answer = absurd stands
flat_refused files tensor flat shape (tool.FlatLength n) refusal stands answer = inr (subst (IsFlatRefusal files flat shape) (sym stands) answer)
flat_refused files tensor flat shape (tool.Array fault) refusal stands answer = absurd answer
flat_refused files tensor flat shape (tool.DoesNotFit k) refusal stands answer = absurd answer
flat_refused files tensor flat shape tool.Disk refusal stands answer = inl (subst IsFree (sym stands) tt)
flat_refused files tensor flat shape tool.Memory refusal stands answer = inl (subst IsFree (sym stands) tt)

same_array : (a b : ArrayFault) → tool.Array a ≡ tool.Array b → a ≡ b
same_array a b e = cc

-- why the array file of a tensor is refused
damaged : (files : Files) (tensor : List ℕ) (shape : Tiling) (fault : ArrayFault) (refusal : Refusal) → KeepsFault tensor (tool.Array fault) refusal
    → IsRefused shape (file files (array_file tensor)) fault → IsArrayRefusal files tensor shape refusal
damaged files tensor shape fault (Array name kept) keeps wrong =
    (keeps.1, subst (IsRefused shape (file files (array_file tensor))) (same_array fault (fault_of kept) keeps.0) wrong)
damaged files tensor shape fault refusal keeps wrong = absurd keeps

array_refusal : (files : Files) (tensor : List ℕ) (shape : Tiling) (fault : ArrayFault) (refusal : Refusal) → Stands tensor (array_file tensor) (tool.Array fault) refusal
    → IsRefused shape (file files (array_file tensor)) fault → IsArrayRefusal files tensor shape refusal
array_refusal files tensor shape array_fault.NoFile (Missing name) stands wrong = (stands, wrong.0)
array_refusal files tensor shape array_fault.NoFile refusal stands wrong = absurd stands
array_refusal files tensor shape (array_fault.BadLength n) refusal stands wrong = damaged files tensor shape (array_fault.BadLength n) refusal stands wrong
array_refusal files tensor shape (array_fault.BadHeader p) refusal stands wrong = damaged files tensor shape (array_fault.BadHeader p) refusal stands wrong
array_refusal files tensor shape array_fault.Disk refusal stands wrong = absurd (wrong.1 refl)

pub array_refused : (files : Files) (tensor : List ℕ) (shape : Tiling) (fault : ToolFault) (refusal : Refusal) → Stands tensor (array_file tensor) fault refusal
    → IsUnpackAnswer shape (file files (array_file tensor)) (Err fault) → IsFree refusal ⊎ IsArrayRefusal files tensor shape refusal
array_refused files tensor shape tool.NoFlat refusal stands answer = absurd answer
array_refused files tensor shape (tool.FlatLength n) refusal stands answer = absurd answer
array_refused files tensor shape (tool.Array fault) refusal stands answer = inr (array_refusal files tensor shape fault refusal stands answer)
array_refused files tensor shape (tool.DoesNotFit k) refusal stands answer = absurd answer
array_refused files tensor shape tool.Disk refusal stands answer = inl (subst IsFree (sym stands) tt)
array_refused files tensor shape tool.Memory refusal stands answer = inl (subst IsFree (sym stands) tt)

-- why it is not converted to a form
of_form : (files : Files) (tensor : List ℕ) (form : Form) (shape : Tiling) (refusal : Refusal) → IsArrayRefusal files tensor shape refusal → IsFormRefusal files tensor form shape refusal
of_form files tensor form shape (Missing name) is = is
of_form files tensor form shape (Array name kept) is = is
of_form files tensor form shape refusal is = absurd is

pub form_refused : (files : Files) (tensor : List ℕ) (form : Form) (shape : Tiling) (fault : ToolFault) (refusal : Refusal) → Stands tensor (array_file tensor) fault refusal
    → IsConvertAnswer form shape (file files (array_file tensor)) (Err fault) → IsFree refusal ⊎ IsFormRefusal files tensor form shape refusal
form_refused files tensor form shape tool.NoFlat refusal stands answer = absurd answer
form_refused files tensor form shape (tool.FlatLength n) refusal stands answer = absurd answer
form_refused files tensor form shape (tool.Array fault) refusal stands answer = inr (of_form files tensor form shape refusal (array_refusal files tensor shape fault refusal stands answer))
form_refused files tensor form shape (tool.DoesNotFit k) refusal stands answer = inr (subst (IsFormRefusal files tensor form shape) (sym stands) answer)
form_refused files tensor form shape tool.Disk refusal stands answer = inl (subst IsFree (sym stands) tt)
form_refused files tensor form shape tool.Memory refusal stands answer = inl (subst IsFree (sym stands) tt)
