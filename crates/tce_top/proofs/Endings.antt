-- Statuses that do not come.
use Rattle.std.proofs.Common.{◌≡◌, refl, sym, ap, subst, ◌∙◌, inl, inr, ℕ, Bool, true, false, if◌then◌else◌, List, [], ◌++◌, append-nil, Option, Some, None}
use Rattle.std.specs.Prelude.{⊤}
use Rattle.std.specs.Option.{option_map}
use Rattle.tce_spec.specs.declared.fault.SpecFault.{SpecFault}
use Rattle.tce_command.specs.Outcome.{HasErrorLine, HasLine, IsKept, IsRefusal, IsReported}
use Rattle.tce_command.specs.Report.{LineNames, einsum_status, ending_of, wants_memory}
use Rattle.tce_command.specs.declared.trouble.EinsumTrouble.{EinsumTrouble}
use Rattle.tce_command.specs.declared.trouble.EinsumTrouble.TheVariants as einsums
use Rattle.tce_command.specs.declared.refusal.Refusal.TheVariants.{Specification, Missing, Array, Budget, Intermediates, Flat, Tensor, Misfit, Einsum, Spill, Symmetry, Disk, Memory}
use Rattle.tce_command.specs.declared.command_refusal.CommandRefusal.{CommandRefusal}
use Rattle.tce_command.specs.declared.command_refusal.CommandRefusal.TheVariants.{Common, Certificate}
use Rattle.tce_command.specs.declared.status.Status.{Status}
use Rattle.tce_command.specs.declared.status.Status.TheVariants.{Done, BadWords, SpecRefused, EinsumRefused, DiskFault, SinkFault, WantOfMemory}

-- Of words that are those of no command.

abbrev pub OfWords : Status → Type 0
OfWords BadWords = ⊤
OfWords WantOfMemory = ⊤
OfWords status = ⊥

of_words : (status : Status) → IsKept BadWords status → OfWords status
of_words status (inl kept) = subst OfWords (sym kept) tt
of_words status (inr memory) = subst OfWords (sym memory.0) tt

pub words_end : (status other : Status) → IsKept BadWords status → status ≡ other → OfWords other
words_end status other kept e = subst OfWords e (of_words status kept)

-- Of a report that was put.

abbrev pub OfReport : Status → Type 0
OfReport Done = ⊤
OfReport SinkFault = ⊤
OfReport WantOfMemory = ⊤
OfReport status = ⊥

of_report : (status : Status) → IsReported status → OfReport status
of_report status (inl done) = subst OfReport (sym done) tt
of_report status (inr (inl cut)) = subst OfReport (sym cut) tt
of_report status (inr (inr memory)) = subst OfReport (sym memory) tt

pub report_ends : (status other : Status) → IsReported status → status ≡ other → OfReport other
report_ends status other put e = subst OfReport e (of_report status put)

pub no_refusal_ends : (status : Status) → IsReported status → IsRefusal status → ⊥
no_refusal_ends status (inl done) refused = subst IsRefusal done refused
no_refusal_ends status (inr (inl cut)) refused = subst IsRefusal cut refused
no_refusal_ends status (inr (inr memory)) refused = subst IsRefusal memory refused

-- without memory for a report nothing is put, which is no byte of the status's line
none_put : (put : Option (List ℕ)) → put ≡ option_map (λ bytes. bytes ++ []) put
none_put None = refl
none_put (Some bytes) = ap Some (sym (append-nil bytes))

pub report_line : (names : LineNames) (status : Status) (before after : Option (List ℕ)) (faults faults_after : ℕ) → IsReported status → (status ≡ WantOfMemory → after ≡ before) → HasLine status
    → HasErrorLine names status before after faults faults_after
report_line names status before after faults faults_after (inl done) same line = absurd (subst HasLine done line)
report_line names status before after faults faults_after (inr (inl cut)) same line = absurd (subst HasLine cut line)
report_line names status before after faults faults_after (inr (inr memory)) same line = record {
  part = (0, same memory ∙ none_put before);
  whole = λ refused. absurd (subst IsRefusal memory refused);
}

-- Of a refusal: the status of a failing disk is that of this refusal alone.

abbrev pub OfRefusal : CommandRefusal → Status → Type 0
OfRefusal r Done = ⊥
OfRefusal r BadWords = ⊥
OfRefusal r SinkFault = ⊥
OfRefusal r DiskFault = r ≡ Common Disk
OfRefusal r status = ⊤

of_text : (r : CommandRefusal) (fault : SpecFault) (b : Bool) → OfRefusal r (if b then WantOfMemory else SpecRefused fault)
of_text r fault true = tt
of_text r fault false = tt

of_produced : (r : CommandRefusal) (fault : SpecFault) (b : Bool) → OfRefusal r (if b then WantOfMemory else EinsumRefused (einsums.Spec fault))
of_produced r fault true = tt
of_produced r fault false = tt

of_einsum : (r : CommandRefusal) (trouble : EinsumTrouble) → OfRefusal r (einsum_status trouble)
of_einsum r einsums.BadText = tt
of_einsum r (einsums.BadSize label) = tt
of_einsum r (einsums.BadPath item) = tt
of_einsum r (einsums.Spec fault) = of_produced r fault (wants_memory fault)

of_refusal : (r : CommandRefusal) → OfRefusal r (ending_of r)
of_refusal (Certificate flaw line) = tt
of_refusal (Common (Specification fault)) = of_text _ fault (wants_memory fault)
of_refusal (Common (Einsum trouble)) = of_einsum _ trouble
of_refusal (Common (Missing name)) = tt
of_refusal (Common (Array name fault)) = tt
of_refusal (Common (Budget n)) = tt
of_refusal (Common (Intermediates n)) = tt
of_refusal (Common (Flat n)) = tt
of_refusal (Common (Tensor name)) = tt
of_refusal (Common (Misfit n)) = tt
of_refusal (Common (Spill trouble)) = tt
of_refusal (Common (Symmetry tensor trouble)) = tt
of_refusal (Common Disk) = refl
of_refusal (Common Memory) = tt

as_kept : (r : CommandRefusal) (status : Status) → IsKept (ending_of r) status → OfRefusal r status
as_kept r status (inl kept) = subst (OfRefusal r) (sym kept) (of_refusal r)
as_kept r status (inr memory) = subst (OfRefusal r) (sym memory.0) tt

pub refusal_ends : (r : CommandRefusal) (status other : Status) → IsKept (ending_of r) status → status ≡ other → OfRefusal r other
refusal_ends r status other kept e = subst (OfRefusal r) e (as_kept r status kept)
