-- The command has one answer.
use Rattle.std.proofs.Common.{◌≡◌, ℕ, ◌⊎◌, List, ◌++◌, Option, Some, inl, inr, refl, sym, ap, ◌∙◌, subst, codes}
use Rattle.tce_outside.specs.Files.{Files, file}
use Rattle.tce_array.specs.declared.fault.ArrayFault.TheVariants as array_fault
use Rattle.tce_spec.specs.Specification.{Specification}
use Rattle.tce_job.specs.TensorFiles.{name_of, file_of}
use Rattle.tce_job.specs.declared.opening.Refused.{Refused}
use Rattle.tce_job.specs.Opened.{IsRefused, IsRefusedOn}
use Rattle.tce_job.specs.declared.fault.JobFault.{JobFault}
use Rattle.tce_job.specs.declared.fault.JobFault.TheVariants as faults
use Rattle.tce_job.specs.Refusals.{IsCause, MustBeRefused, CanRun, IsFree as IsFreeFault}
use Rattle.tce_job.proofs.Causes as causes
use Rattle.tce_command.specs.Report.{status_of, code_of, error_text, array_text}
use Rattle.tce_command.specs.Refusals.{IsFree, SameRefusal}
use Rattle.tce_command.specs.declared.status.Status.TheVariants as statuses
use Rattle.tce_command.specs.declared.trouble.ArrayTrouble.TheVariants as contents
use Rattle.tce_command.specs.declared.refusal.Refusal.{Refusal}
use Rattle.tce_command.specs.declared.refusal.Refusal.TheVariants.{Missing, Array, Budget, Intermediates, Disk, Memory}
use Rattle.tce_command.proofs.Outcomes.{one, one_refusal, not_both}
use Rattle.tce_run.specs.Done.{IsRun}
use Rattle.tce_run.specs.Refusals.{CanRunFile, IsJobRefusal, IsRunRefusal}

-- the exit status and the line by which a fault of a run is told
abbrev told_code : JobFault → ℕ
told_code (faults.BudgetTooSmall n) = 5
told_code (faults.IntermediatesTooLarge n) = 6
told_code (faults.Array t array_fault.NoFile) = 3
told_code (faults.Array t fault) = 4
told_code faults.Disk = 8
told_code faults.Memory = 10

abbrev told_line : Specification → JobFault → List ℕ
told_line s (faults.BudgetTooSmall n) = error_text (statuses.BudgetTooSmall n)
told_line s (faults.IntermediatesTooLarge n) = error_text (statuses.IntermediatesTooLarge n)
told_line s (faults.Array t array_fault.NoFile) = codes "error 3: no file " ++ file_of s t ++ codes "\n"
told_line s (faults.Array t fault) = codes "error 4: " ++ name_of s t ++ codes ".tca: " ++ array_text fault ++ codes "\n"
told_line s faults.Disk = error_text statuses.DiskFault
told_line s faults.Memory = error_text statuses.WantOfMemory

-- a refusal tells a fault that has a cause
pub record Reason (files : Files) (s : Specification) (budget : ℕ) (a : Refusal) : Type 0 where
  pub fault : JobFault
  pub cause : IsCause (IsRefused files s) s budget fault
  pub free : IsFreeFault fault → IsFree a
  pub code_is : code_of (status_of a) ≡ told_code fault
  pub line_is : error_text (status_of a) ≡ told_line s fault

reason : (files : Files) (s : Specification) (budget : ℕ) (a : Refusal) → IsJobRefusal files s budget a → Reason files s budget a
reason files s budget (Budget n) p = record { fault = faults.BudgetTooSmall n; cause = p; free = λ h. absurd h; code_is = refl; line_is = refl }
reason files s budget (Intermediates n) p = record { fault = faults.IntermediatesTooLarge n; cause = p; free = λ h. absurd h; code_is = refl; line_is = refl }
reason files s budget (Missing name) (t, first, is) = record {
  fault = faults.Array t array_fault.NoFile;
  cause = (first.affordable, first.refused, λ e. absurd (cc));
  free = λ h. absurd h;
  code_is = refl;
  line_is = ap (λ n. codes "error 3: no file " ++ n ++ codes "\n") is;
}
reason files s budget (Array name (contents.BadLength n)) (t, first, is) = record {
  fault = faults.Array t (array_fault.BadLength n);
  cause = (first.affordable, first.refused, λ e. absurd (cc));
  free = λ h. absurd h;
  code_is = refl;
  line_is = ap (λ x. codes "error 4: " ++ x ++ codes ".tca: " ++ array_text (array_fault.BadLength n) ++ codes "\n") is;
}
reason files s budget (Array name (contents.BadHeader n)) (t, first, is) = record {
  fault = faults.Array t (array_fault.BadHeader n);
  cause = (first.affordable, first.refused, λ e. absurd (cc));
  free = λ h. absurd h;
  code_is = refl;
  line_is = ap (λ x. codes "error 4: " ++ x ++ codes ".tca: " ++ array_text (array_fault.BadHeader n) ++ codes "\n") is;
}
reason files s budget Disk p = record { fault = faults.Disk; cause = tt; free = λ h. tt; code_is = refl; line_is = refl }
reason files s budget Memory p = record { fault = faults.Memory; cause = tt; free = λ h. tt; code_is = refl; line_is = refl }
reason files s budget a p = absurd p

-- a cause stays one where more is refused
pub cause_map : (P Q : Refused → Type 0) (s : Specification) (budget : ℕ) (f : JobFault) → ((r : Refused) → P r → Q r) → IsCause P s budget f → IsCause Q s budget f
cause_map P Q s budget (faults.BudgetTooSmall n) h p = p
cause_map P Q s budget (faults.IntermediatesTooLarge n) h p = p
cause_map P Q s budget (faults.Array t fault) h p = (p.0, h (record { tensor = t; fault = fault }) p.1, p.2)
cause_map P Q s budget faults.Disk h p = tt
cause_map P Q s budget faults.Memory h p = tt

may : (files : Files) (s : Specification) (budget : ℕ) (f : JobFault) → IsCause (IsRefused files s) s budget f → IsCause (IsRefusedOn (Some files) s) s budget f
may files s budget f = cause_map (IsRefused files s) (IsRefusedOn (Some files) s) s budget f (λ r p others told. let same : files ≡ others = cc in subst (λ x. IsRefused x s r) same p)

must : (files : Files) (s : Specification) (budget : ℕ) (f : JobFault) → IsCause (IsRefused files s) s budget f → IsCause (MustBeRefused (Some files) s) s budget f
must files s budget f = cause_map (IsRefused files s) (MustBeRefused (Some files) s) s budget f (λ r p. p)

one_job : (files : Files) (s : Specification) (budget : ℕ) (a b : Refusal) → IsJobRefusal files s budget a → IsJobRefusal files s budget b → (IsFree b → ⊥) → IsFree a ⊎ SameRefusal a b
one_job files s budget a b p q free = by_reasons (reason files s budget a p) (reason files s budget b q)
  where
    by_reasons : Reason files s budget a → Reason files s budget b → IsFree a ⊎ SameRefusal a b
    by_reasons x y = by_cases (causes.one_told_reason (Some files) s budget x.fault y.fault (may files s budget x.fault x.cause) (λ h. free (y.free h)) (must files s budget y.fault y.cause))
      where
        by_cases : (x.fault ≡ y.fault) ⊎ IsFreeFault x.fault → IsFree a ⊎ SameRefusal a b
        by_cases (inl same) = inr (x.code_is ∙ ap told_code same ∙ sym y.code_is, x.line_is ∙ ap (told_line s) same ∙ sym y.line_is)
        by_cases (inr fault) = inl (x.free fault)

pub alone : (files : Files) (spec : List ℕ) (budget : ℕ) (a b : Refusal) → IsRunRefusal files spec budget a → IsRunRefusal files spec budget b → (IsFree b → ⊥) → IsFree a ⊎ SameRefusal a b
alone files spec budget a b (inl p) (inl q) free = one_refusal spec (file files spec) a b p q free
alone files spec budget a b (inl p) (inr (s, specified, q)) free = inl (not_both files spec s a specified p)
alone files spec budget a b (inr (s, specified, p)) (inl q) free = absurd (free (not_both files spec s b specified q))
alone files spec budget a b (inr (s, specified, p)) (inr (t, also, q)) free =
    one_job files t budget a b (subst (λ u. IsJobRefusal files u budget a) (one files spec s t specified also) p) q free

pub granted : (files : Files) (spec : List ℕ) (budget : ℕ) (a : Refusal) → CanRunFile files spec budget → IsRunRefusal files spec budget a → IsFree a
granted files spec budget a (s, specified, can) (inl p) = not_both files spec s a specified p
granted files spec budget a (s, specified, can) (inr (t, also, p)) =
    let x = reason files t budget a p in
    x.free (causes.granted_told (Some files) t budget x.fault (may files t budget x.fault x.cause) files refl (subst (λ u. CanRun files u budget) (one files spec s t specified also) can))

pub possible : (files : Files) (after : Option Files) (taken taken_after : List (ℕ × ℕ)) (spec : List ℕ) (budget : ℕ) (report : List ℕ) → IsRun (Some files) after taken taken_after spec budget report → CanRunFile files spec budget
possible files after taken taken_after spec budget report ran = (ran.specification, ran.specified files refl, ran.able files refl)
