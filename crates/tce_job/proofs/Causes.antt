-- A run is refused for one reason.
use Rattle.std.proofs.Common.{◌≡◌, ◌≢◌, ℕ, ◌⊎◌, Bool, true, false, List, Option, Some, None, Result, Ok, Err, inl, inr, refl, sym, ap, ◌∙◌, subst, arith}
use Rattle.std.proofs.lemmas.Bool.{cases_lt, true≢false}
use Rattle.std.specs.Option.{ForSome, IsSomeAnd}
use Rattle.tce_outside.specs.Files.{Files, file}
use Rattle.tce_space.specs.Tiling.{Tiling}
use Rattle.tce_array.specs.declared.form.Form.{Form}
use Rattle.tce_array.specs.declared.fault.ArrayFault.{ArrayFault}
use Rattle.tce_array.specs.declared.fault.ArrayFault.TheVariants as array_fault
use Rattle.tce_array.specs.Forms.{form_of, IsArray}
use Rattle.tce_array.specs.Faults.{IsFault}
use Rattle.tce_array.proofs.OneAnswer.{agree}
use Rattle.tce_nesting.specs.declared.plan.Plan.{Plan}
use Rattle.tce_search.specs.LeastPlan.{IsLeastPlan}
use Rattle.tce_spec.specs.Specification.{Specification}
use Rattle.tce_spec.specs.Operands.{shape_of}
use Rattle.tce_job.specs.TensorFiles.{file_of}
use Rattle.tce_job.specs.declared.opening.Refused.{Refused}
use Rattle.tce_job.specs.Opened.{operand, operand_count, HasArray, HasOperands, form_at, IsOpened, AreOpened, IsRefusedAt, IsRefused, IsRefusedOn}
use Rattle.tce_job.specs.declared.fault.JobFault.{JobFault}
use Rattle.tce_job.specs.declared.fault.JobFault.TheVariants.{BudgetTooSmall, IntermediatesTooLarge, Array, Disk, Memory}
use Rattle.tce_job.specs.Refusals.{IsLeastMemory, IsAffordable, IsCause, MayBeRefused, MustBeRefused, NamesDeclared, CanRun, IsFree}

-- the least memory is one
pub one_memory : (s : Specification) (n m : ℕ) → IsLeastMemory s n → IsLeastMemory s m → n ≡ m
one_memory s n m p q =
    let up = p.least.least q.fusion q.least.fits q.least.legal in
    let down = q.least.least p.fusion p.least.fits p.least.legal in
    omega (arith, up, down, p.is, q.is)

pub least_memory : (s : Specification) (plan : Plan) → IsLeastPlan s.declarations.space s.tree plan → IsLeastMemory s plan.memory
least_memory s plan l = record { fusion = plan.fusion.0.items; least = l.least; is = l.memory_is }

-- whether a file is opened, and with which fault it is not
abbrev pub opens : Result Form ArrayFault → Bool
opens (Ok form) = true
opens (Err f) = false

abbrev pub fault_in : Result Form ArrayFault → ArrayFault
fault_in (Ok form) = array_fault.Disk
fault_in (Err f) = f

-- an array has no fault
pub no_fault : (shape : Tiling) (found : Option (List ℕ)) (f : ArrayFault) → IsSomeAnd found (IsArray shape) → IsFault shape found f → f ≢ array_fault.Disk → ⊥
no_fault shape None f h fault real = h
no_fault shape (Some bytes) f h fault real =
    true≢false (ap opens (agree shape (Some bytes) (Ok (form_of bytes)) (Err f) (refl, h) fault (λ e. true≢false (ap opens e)) (λ e. real (ap fault_in e))))

pub one_fault : (shape : Tiling) (found : Option (List ℕ)) (f g : ArrayFault) → IsFault shape found f → IsFault shape found g → f ≢ array_fault.Disk → g ≢ array_fault.Disk → f ≡ g
one_fault shape found f g p q nf ng = ap fault_in (agree shape found (Err f) (Err g) p q (λ e. nf (ap fault_in e)) (λ e. ng (ap fault_in e)))

-- an operand that is refused has no array
no_array : (files : Files) (s : Specification) (d : ℕ) (r : Refused) → IsRefusedAt files s d r → r.fault ≢ array_fault.Disk → HasArray files s (operand s d) → ⊥
no_array files s d r p real has =
    no_fault (shape_of s r.tensor) (file files (file_of s r.tensor)) r.fault (subst (HasArray files s) (sym p.tensor) has) p.fault real

-- the first operand that is refused is one, with one fault
pub one_refused : (files : Files) (s : Specification) (r q : Refused) → IsRefused files s r → IsRefused files s q → r.fault ≢ array_fault.Disk → q.fault ≢ array_fault.Disk → (r.tensor ≡ q.tensor) × (r.fault ≡ q.fault)
one_refused files s r q (d, p) (e, o) nr nq =
    elim (cases_lt d e) [
      | inl before ↦ absurd (no_array files s d r p nr (o.before d before))
      | inr past ↦ elim (cases_lt e d) [
        | inl before ↦ absurd (no_array files s e q o nq (p.before e before))
        | inr not_past ↦
            let same : d ≡ e = omega arith in
            let tensors : r.tensor ≡ q.tensor = p.tensor ∙ ap (operand s) same ∙ sym o.tensor in (
              tensors,
              one_fault (shape_of s q.tensor) (file files (file_of s q.tensor)) r.fault q.fault
                  (subst (λ t. IsFault (shape_of s t) (file files (file_of s t)) r.fault) tensors p.fault) o.fault nr nq,
            )
      ]
    ]

-- what is opened has an array
has_array : (files : Files) (s : Specification) (forms : List Form) (t : ℕ) → IsOpened files s forms t → HasArray files s t
has_array files s forms t h = by_file (file files (file_of s t)) h
  where
    by_file : (found : Option (List ℕ)) → IsSomeAnd found (λ bytes. (form_of bytes ≡ form_at forms t) × IsArray (shape_of s t) bytes) → IsSomeAnd found (IsArray (shape_of s t))
    by_file None h = h
    by_file (Some bytes) h = h.1

pub have_operands : (files : Files) (s : Specification) (forms : List Form) → AreOpened files s forms (operand_count s) → HasOperands files s (operand_count s)
have_operands files s forms opened d h = has_array files s forms (operand s d) (opened d h)

-- what was tested can be run
pub can_run : (told : Option Files) (s : Specification) (budget : ℕ) (forms : List Form) → IsAffordable s budget → ForSome told (λ files. AreOpened files s forms (operand_count s))
    → ForSome told (λ files. CanRun files s budget)
can_run told s budget forms able opened files is = record { affordable = able; operands = have_operands files s forms (opened files is) }

pub none_refused : (files : Files) (s : Specification) (r : Refused) → HasOperands files s (operand_count s) → IsRefused files s r → r.fault ≢ array_fault.Disk → ⊥
none_refused files s r has (d, p) real = no_array files s d r p real (has d p.one_of_them)

-- what is known where it tells nothing is left out
only_told : (told : Option Files) (s : Specification) (budget : ℕ) (f : JobFault) → IsCause (MayBeRefused told s) s budget f → IsCause (IsRefusedOn told s) s budget f
only_told told s budget (BudgetTooSmall n) p = p
only_told told s budget (IntermediatesTooLarge n) p = p
only_told told s budget (Array t fault) p = (p.0, p.1.1, p.2)
only_told told s budget Disk p = tt
only_told told s budget Memory p = tt

-- a cause names declared tensors alone
pub names_declared : (told : Option Files) (s : Specification) (budget : ℕ) (f : JobFault) → IsCause (MayBeRefused told s) s budget f → NamesDeclared s f
names_declared told s budget (BudgetTooSmall n) p = tt
names_declared told s budget (IntermediatesTooLarge n) p = tt
names_declared told s budget (Array t fault) p = p.1.0
names_declared told s budget Disk p = tt
names_declared told s budget Memory p = tt

-- two reasons are one, but for faults
both : (told : Option Files) (s : Specification) (t u : ℕ) (f g : ArrayFault) → IsRefusedOn told s (record { tensor = t; fault = f }) → MustBeRefused told s (record { tensor = u; fault = g })
    → f ≢ array_fault.Disk → g ≢ array_fault.Disk → (t ≡ u) × (f ≡ g)
both None s t u f g may must nf ng = absurd must
both (Some files) s t u f g may must nf ng = one_refused files s (record { tensor = t; fault = f }) (record { tensor = u; fault = g }) (may files refl) must nf ng

pub one_told_reason : (told : Option Files) (s : Specification) (budget : ℕ) (f due : JobFault) → IsCause (IsRefusedOn told s) s budget f → (IsFree due → ⊥) → IsCause (MustBeRefused told s) s budget due
    → (f ≡ due) ⊎ IsFree f
one_told_reason told s budget Disk due p free q = inr tt
one_told_reason told s budget Memory due p free q = inr tt
one_told_reason told s budget f Disk p free q = absurd (free tt)
one_told_reason told s budget f Memory p free q = absurd (free tt)
one_told_reason told s budget (BudgetTooSmall n) (BudgetTooSmall m) p free q = inl (ap BudgetTooSmall (p.0 ∙ sym q.0))
one_told_reason told s budget (BudgetTooSmall n) (IntermediatesTooLarge m) p free q = absurd (omega (arith, p.0, p.1, q.0))
one_told_reason told s budget (BudgetTooSmall n) (Array u g) p free q = absurd (omega (arith, p.0, p.1, q.0.enough))
one_told_reason told s budget (IntermediatesTooLarge n) (BudgetTooSmall m) p free q = absurd (omega (arith, p.0, q.0, q.1))
one_told_reason told s budget (IntermediatesTooLarge n) (IntermediatesTooLarge m) p free q = inl (ap IntermediatesTooLarge (one_memory s n m p.1 q.1))
one_told_reason told s budget (IntermediatesTooLarge n) (Array u g) p free q = let small = q.0.small n p.1 in absurd (omega (arith, small, p.2))
one_told_reason told s budget (Array t f) (BudgetTooSmall m) p free q = absurd (omega (arith, p.0.enough, q.0, q.1))
one_told_reason told s budget (Array t f) (IntermediatesTooLarge m) p free q = let small = p.0.small m q.1 in absurd (omega (arith, small, q.2))
one_told_reason told s budget (Array t f) (Array u g) p free q =
    let same = both told s t u f g p.1 q.1 p.2 q.2 in
    inl (ap (λ x. Array x f) same.0 ∙ ap (Array u) same.1)

pub one_reason : (told : Option Files) (s : Specification) (budget : ℕ) (f due : JobFault) → IsCause (MayBeRefused told s) s budget f → (IsFree due → ⊥) → IsCause (MustBeRefused told s) s budget due
    → (f ≡ due) ⊎ IsFree f
one_reason told s budget f due p = one_told_reason told s budget f due (only_told told s budget f p)

-- what can be run has no reason to be refused
pub no_reason : (told : Option Files) (s : Specification) (budget : ℕ) (due : JobFault) → IsAffordable s budget → ForSome told (λ files. HasOperands files s (operand_count s))
    → (IsFree due → ⊥) → IsCause (MustBeRefused told s) s budget due → ⊥
no_reason told s budget Disk able has free q = free tt
no_reason told s budget Memory able has free q = free tt
no_reason told s budget (BudgetTooSmall m) able has free q = omega (arith, able.enough, q.0, q.1)
no_reason told s budget (IntermediatesTooLarge m) able has free q = let small = able.small m q.1 in omega (arith, small, q.2)
no_reason None s budget (Array u g) able has free q = q.1
no_reason (Some files) s budget (Array u g) able has free q = none_refused files s (record { tensor = u; fault = g }) (has files refl) q.1 q.2

granted_err : (files : Files) (s : Specification) (budget : ℕ) (f : JobFault) → CanRun files s budget → IsCause (IsRefusedOn (Some files) s) s budget f → IsFree f
granted_err files s budget Disk can p = tt
granted_err files s budget Memory can p = tt
granted_err files s budget (BudgetTooSmall m) can p = absurd (omega (arith, can.affordable.enough, p.0, p.1))
granted_err files s budget (IntermediatesTooLarge m) can p = let small = can.affordable.small m p.1 in absurd (omega (arith, small, p.2))
granted_err files s budget (Array u g) can p = absurd (none_refused files s (record { tensor = u; fault = g }) can.operands (p.1 files refl) p.2)

-- so where the disk tells its files, all that is there makes a refusal a free one
pub granted_told : (told : Option Files) (s : Specification) (budget : ℕ) (f : JobFault) → IsCause (IsRefusedOn told s) s budget f → ForSome told (λ files. CanRun files s budget → IsFree f)
granted_told told s budget f why files is can = granted_err files s budget f can (subst (λ (o : Option Files). IsCause (IsRefusedOn o s) s budget f) is why)

pub granted : (told : Option Files) (s : Specification) (budget : ℕ) (f : JobFault) → IsCause (MayBeRefused told s) s budget f → ForSome told (λ files. CanRun files s budget → IsFree f)
granted told s budget f why = granted_told told s budget f (only_told told s budget f why)

-- a cause by the budget is one whatever is refused
pub any_refused : (told : Option Files) (s : Specification) (budget : ℕ) (f : JobFault) → IsCause (λ _. ⊥) s budget f → IsCause (MayBeRefused told s) s budget f
any_refused told s budget (BudgetTooSmall m) p = p
any_refused told s budget (IntermediatesTooLarge m) p = p
any_refused told s budget (Array u g) p = absurd p.1
any_refused told s budget Disk p = tt
any_refused told s budget Memory p = tt
