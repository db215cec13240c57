-- Files of stored elements, as refusals.
use Rattle.std.proofs.Common.{◌≡◌, ◌≢◌, refl, sym, subst, ap, ◌⊎◌, inl, inr, ℕ, nat_eq, List, slice_index, Option, Result, Err, IfOk, String, Global, codes}
use Rattle.std.proofs.lemmas.Bool.{true≢false}
use Rattle.std.proofs.lemmas.List.{append_cancel_left}
use Rattle.std.specs.String.{string_bytes}
use Rattle.std.specs.Option.{ForSome}
use Rattle.tce_outside.specs.Fault.{HasCause, TellsFaults}
use Rattle.tce_outside.specs.Files.{Files, file}
use Rattle.tce_outside.proofs.Causes.{cause_as, told_as}
use Rattle.tce_space.specs.Tiling.{Tiling}
use Rattle.tce_sym.specs.declared.symmetry.Symmetry.{Symmetry}
use Rattle.tce_sym.specs.declared.fault.SymFault.{SymFault}
use Rattle.tce_sym.specs.declared.fault.SymFault.TheVariants as sym_fault
use Rattle.tce_sym.specs.Faults.{IsFault}
use Rattle.tce_command.specs.Refusals.{IsFree, NamesFile}
use Rattle.tce_command.specs.declared.trouble.SymTrouble.{SymTrouble}
use Rattle.tce_command.specs.declared.trouble.SymTrouble.TheVariants as trouble
use Rattle.tce_command.specs.declared.refusal.Refusal.{Refusal}
use Rattle.tce_command.specs.declared.refusal.Refusal.TheVariants.{Missing, Symmetry as Stored, Disk}
use Rattle.tce_flat.specs.Refusals.{IsSymRefusal}
use Rattle.tce_flat.specs.Tensors.{HasTensor, array_file, sym_file}
use Rattle.tce_flat.specs.Tools.{KeepsTrouble, SymStands}
use Rattle.tce_flat.specs.Done.{IsExpanding, IsExpanded}
use Rattle.tce_flat.proofs.Tools.{if_ok}
use Rattle.tce_command.proofs.Refused.{refused, same_refused}

-- the two files of a tensor differ
pub files_apart : (tensor : List ℕ) → sym_file tensor ≢ array_file tensor
files_apart tensor e = true≢false (ap (λ xs. nat_eq (slice_index xs 1) 115) (append_cancel_left tensor (codes ".sym") (codes ".tca") e))

-- a tensor that was found, and expanded after that, is expanded as the command says
pub expanded_from : {E : Type 0} (r : Result (String Global) E) (told before after : Option Files) (spec tensor : List ℕ) (shape : Tiling)
    → told ≡ before → ForSome before (λ files. HasTensor files spec tensor shape)
    → IfOk r (λ report. IsExpanding told after shape tensor (string_bytes report)) → IfOk r (λ report. IsExpanded before after spec tensor (string_bytes report))
expanded_from r told before after spec tensor shape same there p =
    if_ok r (λ report q. record { shape = shape; tensor_is = there; expanding = subst (λ b. IsExpanding b after shape tensor (string_bytes report)) same q }) p

-- what is wrong with a file of stored elements
sym_alone : (tensor : List ℕ) (fault : SymFault) (refusal : Refusal) → SymStands tensor fault refusal → refusal ≡ Disk → fault ≡ sym_fault.Disk
sym_alone tensor sym_fault.NoFile refusal stands e = absurd (subst (NamesFile (sym_file tensor)) e stands)
sym_alone tensor (sym_fault.BadLength n) refusal stands e = absurd (subst (KeepsTrouble tensor (trouble.BadLength n)) e stands)
sym_alone tensor (sym_fault.BadHeader p) refusal stands e = absurd (subst (KeepsTrouble tensor (trouble.BadHeader p)) e stands)
sym_alone tensor sym_fault.Disk refusal stands e = refl

sym_told_disk : (tensor : List ℕ) (fault : SymFault) (refusal : Refusal) → SymStands tensor fault refusal → fault ≡ sym_fault.Disk → refusal ≡ Disk
sym_told_disk tensor fault refusal stands e = subst (λ f. SymStands tensor f refusal) e stands

abbrev not_opened : SymFault → Result Symmetry SymFault
not_opened fault = Err fault

same_trouble : (a b : SymFault) → not_opened a ≡ not_opened b → a ≡ b
same_trouble a b e = cc

pub sym_cause : {A : Type 0} (tensor : List ℕ) (fault : SymFault) (refusal : Refusal) (before after : ℕ) → SymStands tensor fault refusal
    → HasCause before after (not_opened fault ≡ not_opened sym_fault.Disk) → HasCause before after (refused {A = A} refusal ≡ refused {A = A} Disk)
sym_cause {A} tensor fault refusal before after stands cause =
    cause_as before after (λ e. ap not_opened (sym_alone tensor fault refusal stands (same_refused {A = A} refusal Disk e))) cause

pub sym_told : {A : Type 0} (tensor : List ℕ) (fault : SymFault) (refusal : Refusal) (before after : ℕ) → SymStands tensor fault refusal
    → TellsFaults before after (not_opened fault ≡ not_opened sym_fault.Disk) → TellsFaults before after (refused {A = A} refusal ≡ refused {A = A} Disk)
sym_told {A} tensor fault refusal before after stands told =
    told_as before after (λ e. ap (refused {A = A}) (sym_told_disk tensor fault refusal stands (same_trouble fault sym_fault.Disk e))) told

pub sym_refused : (files : Files) (tensor : List ℕ) (shape : Tiling) (fault : SymFault) (refusal : Refusal) → SymStands tensor fault refusal
    → IsFault shape.extents (file files (sym_file tensor)) fault → IsFree refusal ⊎ IsSymRefusal files tensor shape refusal
sym_refused files tensor shape sym_fault.NoFile (Missing name) stands wrong = inr (stands, wrong)
sym_refused files tensor shape sym_fault.NoFile refusal stands wrong = absurd stands
sym_refused files tensor shape (sym_fault.BadLength n) (Stored name kept) stands wrong =
    inr (subst (λ (k : SymTrouble). IsSymRefusal files tensor shape (Stored name k)) stands.0 (stands.1, wrong))
sym_refused files tensor shape (sym_fault.BadLength n) refusal stands wrong = absurd stands
sym_refused files tensor shape (sym_fault.BadHeader p) (Stored name kept) stands wrong =
    inr (subst (λ (k : SymTrouble). IsSymRefusal files tensor shape (Stored name k)) stands.0 (stands.1, wrong))
sym_refused files tensor shape (sym_fault.BadHeader p) refusal stands wrong = absurd stands
sym_refused files tensor shape sym_fault.Disk refusal stands wrong = inl (subst IsFree (sym stands) tt)
