-- Statuses of refusals, and their lines.
use Rattle.std.proofs.Common.{◌≡◌, refl, sym, ap, ◌∙◌, ◌⊎◌, inl, inr, ℕ, nat_eq, List, ◌++◌, Bool, true, false, if◌then◌else◌, codes}
use Rattle.tce_command.specs.Outcome.{HasLine}
use Rattle.tce_command.specs.Refusals.{IsFree, SameRefusal}
use Rattle.tce_command.specs.CommandRefusals.{EndsAlike, HasNames, MayReplace}
use Rattle.tce_command.specs.Report.{LineNames, IsWellFormed, IsWrong, NamesNoIndex, NamesNothing, code_of, einsum_status, ending_of, error_text, line_over, refusal_line, status_of, sym_line, trouble_of, wants_memory}
use Rattle.tce_tree.specs.declared.fault.TreeFault.TheVariants as trees
use Rattle.tce_spec.specs.declared.fault.SpecFault.{SpecFault}
use Rattle.tce_spec.specs.declared.fault.SpecFault.TheVariants.{Memory, Tree}
use Rattle.tce_command.specs.declared.trouble.ArrayTrouble.TheVariants as contents
use Rattle.tce_command.specs.declared.trouble.CertFlaw.{CertFlaw}
use Rattle.tce_command.specs.declared.trouble.CertFlaw.TheVariants as flaws
use Rattle.tce_command.specs.declared.trouble.EinsumTrouble.{EinsumTrouble}
use Rattle.tce_command.specs.declared.trouble.EinsumTrouble.TheVariants as einsums
use Rattle.tce_command.specs.declared.refusal.Refusal.{Refusal}
use Rattle.tce_command.specs.declared.refusal.Refusal.TheVariants as refusals
use Rattle.tce_command.specs.declared.command_refusal.CommandRefusal.{CommandRefusal}
use Rattle.tce_command.specs.declared.command_refusal.CommandRefusal.TheVariants.{Common, Certificate}
use Rattle.tce_command.specs.declared.status.Status.{Status}
use Rattle.tce_command.specs.declared.status.Status.TheVariants.{Done, BadWords, SpecRefused, NoFile, ArrayRefused, BudgetTooSmall, IntermediatesTooLarge, CertRefused, DiskFault, SinkFault, WantOfMemory, FlatRefused, UnknownTensor, DoesNotFit, EinsumRefused, SpillRefused, SymRefused}

-- what a refusal's status has
pub record IsPlain (status : Status) : Type 0 where
  pub line : HasLine status
  pub plain : NamesNoIndex status

by_memory : (fault : SpecFault) (b : Bool) → IsPlain (if b then WantOfMemory else SpecRefused fault)
by_memory fault true = record { line = tt; plain = tt }
by_memory fault false = record { line = tt; plain = tt }

by_einsum : (fault : SpecFault) (b : Bool) → IsPlain (if b then WantOfMemory else EinsumRefused (einsums.Spec fault))
by_einsum fault true = record { line = tt; plain = tt }
by_einsum fault false = record { line = tt; plain = tt }

of_einsum : (trouble : EinsumTrouble) → IsPlain (einsum_status trouble)
of_einsum einsums.BadText = record { line = tt; plain = tt }
of_einsum (einsums.BadSize label) = record { line = tt; plain = tt }
of_einsum (einsums.BadPath item) = record { line = tt; plain = tt }
of_einsum (einsums.Spec fault) = by_einsum fault (wants_memory fault)

pub is_plain : (refusal : Refusal) → IsPlain (status_of refusal)
is_plain (refusals.Specification fault) = by_memory fault (wants_memory fault)
is_plain (refusals.Missing name) = record { line = tt; plain = tt }
is_plain (refusals.Array tensor fault) = record { line = tt; plain = tt }
is_plain (refusals.Budget least) = record { line = tt; plain = tt }
is_plain (refusals.Intermediates memory) = record { line = tt; plain = tt }
is_plain (refusals.Flat len) = record { line = tt; plain = tt }
is_plain (refusals.Tensor name) = record { line = tt; plain = tt }
is_plain (refusals.Misfit place) = record { line = tt; plain = tt }
is_plain (refusals.Einsum trouble) = of_einsum trouble
is_plain (refusals.Spill trouble) = record { line = tt; plain = tt }
is_plain (refusals.Symmetry tensor trouble) = record { line = tt; plain = tt }
is_plain refusals.Disk = record { line = tt; plain = tt }
is_plain refusals.Memory = record { line = tt; plain = tt }

-- and it holds no fault that is told by another one
of_text : (fault : SpecFault) → IsWellFormed (if wants_memory fault then WantOfMemory else SpecRefused fault)
of_text Memory = tt
of_text (Tree line trees.Memory) = tt
of_text fault = tt

of_text_of_einsum : (fault : SpecFault) → IsWellFormed (if wants_memory fault then WantOfMemory else EinsumRefused (einsums.Spec fault))
of_text_of_einsum Memory = tt
of_text_of_einsum (Tree line trees.Memory) = tt
of_text_of_einsum fault = tt

pub well_formed : (refusal : Refusal) → IsWellFormed (status_of refusal)
well_formed (refusals.Specification fault) = of_text fault
well_formed (refusals.Array tensor (contents.BadLength len)) = tt
well_formed (refusals.Array tensor (contents.BadHeader place)) = tt
well_formed (refusals.Einsum (einsums.Spec fault)) = of_text_of_einsum fault
well_formed (refusals.Einsum trouble) = tt
well_formed refusal = tt

pub is_wrong : (flaw : CertFlaw) → IsWrong (trouble_of flaw)
is_wrong (flaws.BadText line) = tt
is_wrong (flaws.WrongTree line) = tt
is_wrong (flaws.NotLegal v) = tt
is_wrong (flaws.OrderWrong v) = tt
is_wrong (flaws.SizeWrong v size) = tt
is_wrong (flaws.TotalWrong total) = tt
is_wrong (flaws.NotCovered v fused classes cost) = tt
is_wrong (flaws.BelowTotal sum) = tt

pub ends_well_formed : (refusal : CommandRefusal) → IsWellFormed (ending_of refusal)
ends_well_formed (Common refusal) = well_formed refusal
ends_well_formed (Certificate flaw line) = is_wrong flaw

-- what a line names is all that it says beside its status
pub over : (names : LineNames) (status : Status) → NamesNothing status → error_text status ≡ line_over names status
over names Done plain = refl
over names BadWords plain = refl
over names (SpecRefused fault) plain = refl
over names (NoFile name) plain = refl
over names (ArrayRefused tensor fault) plain = refl
over names (BudgetTooSmall least) plain = refl
over names (IntermediatesTooLarge memory) plain = refl
over names (CertRefused trouble) plain = absurd plain
over names DiskFault plain = refl
over names SinkFault plain = refl
over names WantOfMemory plain = refl
over names (FlatRefused len) plain = refl
over names (UnknownTensor name) plain = refl
over names (DoesNotFit place) plain = refl
over names (EinsumRefused trouble) plain = refl
over names (SpillRefused trouble) plain = refl
over names (SymRefused trouble) plain = absurd plain

-- a line that names no index is told by the exit status and what the status says
abbrev line_of : LineNames → ℕ → List ℕ → List ℕ
line_of names code text = if nat_eq code 16 then codes "error 16: " ++ names.tensor ++ codes ".sym: " ++ text ++ codes "\n" else text

told_by_code : (names : LineNames) (status : Status) → NamesNoIndex status → line_over names status ≡ line_of names (code_of status) (error_text status)
told_by_code names (CertRefused trouble) plain = absurd plain
told_by_code names (SymRefused trouble) plain = refl
told_by_code names Done plain = refl
told_by_code names BadWords plain = refl
told_by_code names (SpecRefused fault) plain = refl
told_by_code names (NoFile name) plain = refl
told_by_code names (ArrayRefused tensor fault) plain = refl
told_by_code names (BudgetTooSmall least) plain = refl
told_by_code names (IntermediatesTooLarge memory) plain = refl
told_by_code names DiskFault plain = refl
told_by_code names SinkFault plain = refl
told_by_code names WantOfMemory plain = refl
told_by_code names (FlatRefused len) plain = refl
told_by_code names (UnknownTensor name) plain = refl
told_by_code names (DoesNotFit place) plain = refl
told_by_code names (EinsumRefused trouble) plain = refl
told_by_code names (SpillRefused trouble) plain = refl

-- statuses that say the same and have one exit status have one line
over_alike : (names : LineNames) (s t : Status) → NamesNoIndex s → NamesNoIndex t → code_of s ≡ code_of t → error_text s ≡ error_text t → line_over names s ≡ line_over names t
over_alike names s t plain other code text =
    told_by_code names s plain
    ∙ ap (λ n. line_of names n (error_text s)) code
    ∙ ap (line_of names (code_of t)) text
    ∙ sym (told_by_code names t other)

-- refusals that users cannot tell apart end alike
alike : (a b : Refusal) → SameRefusal a b → EndsAlike (Common a) (Common b)
alike a b same = (same.0, λ names. over_alike names (status_of a) (status_of b) (is_plain a).plain (is_plain b).plain same.0 same.1)

pub or_alike : (a b : Refusal) → IsFree a ⊎ SameRefusal a b → MayReplace (Common a) ⊎ EndsAlike (Common a) (Common b)
or_alike a b (inl free) = inl free
or_alike a b (inr same) = inr (alike a b same)

-- the line of a refusal that names this tensor, if any
by_fault : (names : LineNames) (fault : SpecFault) (b : Bool) → error_text (if b then WantOfMemory else SpecRefused fault) ≡ line_over names (if b then WantOfMemory else SpecRefused fault)
by_fault names fault true = refl
by_fault names fault false = refl

by_einsum_fault : (names : LineNames) (fault : SpecFault) (b : Bool)
    → error_text (if b then WantOfMemory else EinsumRefused (einsums.Spec fault)) ≡ line_over names (if b then WantOfMemory else EinsumRefused (einsums.Spec fault))
by_einsum_fault names fault true = refl
by_einsum_fault names fault false = refl

by_trouble : (names : LineNames) (trouble : EinsumTrouble) → error_text (einsum_status trouble) ≡ line_over names (einsum_status trouble)
by_trouble names einsums.BadText = refl
by_trouble names (einsums.BadSize label) = refl
by_trouble names (einsums.BadPath item) = refl
by_trouble names (einsums.Spec fault) = by_einsum_fault names fault (wants_memory fault)

pub written : (names : LineNames) (refusal : Refusal) → HasNames names (Common refusal) → refusal_line refusal ≡ line_over names (status_of refusal)
written names (refusals.Specification fault) is = by_fault names fault (wants_memory fault)
written names (refusals.Missing name) is = refl
written names (refusals.Array tensor fault) is = refl
written names (refusals.Budget least) is = refl
written names (refusals.Intermediates memory) is = refl
written names (refusals.Flat len) is = refl
written names (refusals.Tensor name) is = refl
written names (refusals.Misfit place) is = refl
written names (refusals.Einsum trouble) is = by_trouble names trouble
written names (refusals.Spill trouble) is = refl
written names (refusals.Symmetry tensor trouble) is = ap (λ bytes. sym_line bytes trouble) is
written names refusals.Disk is = refl
written names refusals.Memory is = refl
