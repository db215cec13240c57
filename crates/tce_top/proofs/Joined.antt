-- The answers of the commands, joined.
use Rattle.std.proofs.Common.{◌≡◌, refl, sym, ap, subst, ◌∙◌, ◌⊎◌, inl, inr, ℕ, Bool, true, false, if◌then◌else◌, List, length, take, Option, arith}
use Rattle.std.proofs.Math.Seq.{take-length}
use Rattle.std.specs.Option.{ForSome, option_map}
use Rattle.tce_outside.specs.Files.{Files, file}
use Rattle.tce_spec.specs.declared.fault.SpecFault.{SpecFault}
use Rattle.tce_command.specs.Command.{Command, run, batch, spill, plan, cert, check, pack, unpack, convert, expand, einsum, demo, KeepsRules}
use Rattle.tce_command.specs.Report.{status_of, ending_of, code_of, line_over, wants_memory}
use Rattle.tce_command.specs.Refusals.{IsFree, SameRefusal}
use Rattle.tce_command.specs.CommandRefusals.{EndsAlike, MayReplace, OnCommon}
use Rattle.tce_command.proofs.Statuses.{or_alike}
use Rattle.tce_command.specs.Outcome.{Answers, IsFault, IsRefusal, IsReported}
use Rattle.tce_command.specs.declared.refusal.Refusal.{Refusal}
use Rattle.tce_command.specs.declared.refusal.Refusal.TheVariants.{Specification, Missing, Array, Budget, Intermediates, Flat, Tensor, Misfit, Einsum, Spill, Symmetry, Disk, Memory}
use Rattle.tce_command.specs.declared.command_refusal.CommandRefusal.{CommandRefusal}
use Rattle.tce_command.specs.declared.command_refusal.CommandRefusal.TheVariants.{Common, Certificate}
use Rattle.tce_command.specs.declared.trouble.EinsumTrouble.TheVariants as einsums
use Rattle.tce_command.specs.declared.status.Status.{Status}
use Rattle.tce_command.specs.declared.status.Status.TheVariants.{Done, SpecRefused, EinsumRefused, DiskFault, SinkFault, WantOfMemory}
use Rattle.tce_spec.specs.Specification.{Specification as Specified}
use Rattle.tce_job.specs.Several.{files_after, HasTakenEach}
use Rattle.tce_tree.specs.ContractionTree.{operations}
use Rattle.tce_run.specs.BatchDone.{IsBatchPrefix, IsBatchRun}
use Rattle.tce_run.specs.SpillDone.{IsSpillPrefix, IsSpillRun}
use Rattle.tce_command.proofs.Outcomes.{not_both, one_refusal as one_source_refusal}
use Rattle.tce_run.proofs.Reasons as runs
use Rattle.tce_run.proofs.BatchReasons as batches
use Rattle.tce_run.proofs.SpillReasons as spills
use Rattle.tce_plan.proofs.OneEinsum as einsum_answers
use Rattle.tce_plan.proofs.Judged.{could_verify}
use Rattle.tce_plan.proofs.OneVerification as verifications
use Rattle.tce_tools.specs.Answers.{HasFlat, HasArray, HasFitting}
use Rattle.tce_flat.specs.Tensors.{array_file, sym_file}
use Rattle.tce_flat.specs.Refusals.{HasPairs, IsFlatRefusal, IsArrayRefusal, IsFormRefusal, IsSymRefusal}
use Rattle.tce_flat.proofs.Stages.{same_refusal, ready_not_refused}
use Rattle.tce_flat.proofs.Inputs.{one_flat_refusal, flat_not_refused, one_array_refusal, array_not_refused, one_form_refusal, form_not_refused}
use Rattle.tce_flat.proofs.SymInputs.{one_sym_refusal, sym_not_refused}
use Rattle.tce_top.specs.Performed.{CanDo, IsCommandRefusal, IsDone, MayRefuse, MayTake}
use Rattle.tce_top.specs.Cause.{IsCause, HasRefusal, MayEnd}

-- Each command has one answer.

common_alone : (P : Refusal → Type 0) → ((a b : Refusal) → P a → P b → (IsFree b → ⊥) → IsFree a ⊎ SameRefusal a b) → (a b : CommandRefusal) → OnCommon P a → OnCommon P b → (MayReplace b → ⊥)
    → MayReplace a ⊎ EndsAlike a b
common_alone P alone (Common a) (Common b) p q free = or_alike a b (alone a b p q free)
common_alone P alone (Certificate trouble line) b p q free = absurd p
common_alone P alone (Common a) (Certificate trouble line) p q free = absurd q

common_free : (P : Refusal → Type 0) → ((a : Refusal) → P a → IsFree a) → (a : CommandRefusal) → OnCommon P a → MayReplace a
common_free P free (Common a) p = free a p
common_free P free (Certificate trouble line) p = absurd p

one_refusal : (files : Files) (command : Command) (a b : CommandRefusal) → KeepsRules command → IsCommandRefusal files command a → IsCommandRefusal files command b → (MayReplace b → ⊥) → MayReplace a ⊎ EndsAlike a b
one_refusal files (run spec budget) a b rules p q free = common_alone _ (runs.alone files spec budget) a b p q free
one_refusal files (batch spec budget) a b rules p q free = common_alone _ (batches.alone_batch files spec budget) a b p q free
one_refusal files (spill spec budget limit) a b rules p q free = common_alone _ (spills.alone_spill files spec budget limit) a b p q free
one_refusal files (plan spec) a b rules p q free = common_alone _ (one_source_refusal spec (file files spec)) a b p q free
one_refusal files (cert spec name) a b rules p q free = common_alone _ (one_source_refusal spec (file files spec)) a b p q free
one_refusal files (check spec name) a b rules p q free = verifications.alone files spec name a b p q free
one_refusal files (pack spec tensor flat) a b rules p q free =
    common_alone _ (λ x y. same_refusal files spec tensor (IsFlatRefusal files flat) x y (λ shape. one_flat_refusal files flat shape x y)) a b p q free
one_refusal files (unpack spec tensor flat) a b rules p q free =
    common_alone _ (λ x y. same_refusal files spec tensor (IsArrayRefusal files tensor) x y (λ shape. one_array_refusal files tensor shape x y)) a b p q free
one_refusal files (convert spec tensor form) a b rules p q free =
    common_alone _ (λ x y. same_refusal files spec tensor (IsFormRefusal files tensor form) x y (λ shape. one_form_refusal files tensor form shape x y)) a b p q free
one_refusal files (expand spec tensor) a b rules p q free =
    common_alone _ (λ x y. same_refusal files spec tensor (IsSymRefusal files tensor) x y (λ shape. one_sym_refusal files tensor shape x y)) a b p q free
one_refusal files (einsum text path spec) a b rules p q free = common_alone _ (λ x y. einsum_answers.alone text path x y rules.0) a b p q free
one_refusal files (demo seed v o) a b rules p q free = inl (common_free IsFree (λ x free. free) a p)

can_free : (files : Files) (command : Command) (a : CommandRefusal) → KeepsRules command → CanDo files command → IsCommandRefusal files command a → MayReplace a
can_free files (run spec budget) a rules can p = common_free _ (λ x. runs.granted files spec budget x can) a p
can_free files (batch spec budget) a rules can p = common_free _ (λ x. batches.granted_batch files spec budget x can) a p
can_free files (spill spec budget limit) a rules can p = common_free _ (λ x. spills.granted_spill files spec budget limit x can) a p
can_free files (plan spec) a rules can p = common_free _ (λ x. not_both files spec can.0 x can.1) a p
can_free files (cert spec name) a rules can p = common_free _ (λ x. not_both files spec can.0 x can.1) a p
can_free files (check spec name) a rules can p = verifications.granted files spec name a can p
can_free files (pack spec tensor flat) a rules can p =
    common_free _ (λ x. ready_not_refused files spec tensor (λ shape. HasFlat shape (file files flat)) (IsFlatRefusal files flat) x (λ shape. flat_not_refused files flat shape x) can) a p
can_free files (unpack spec tensor flat) a rules can p =
    common_free _ (λ x. ready_not_refused files spec tensor (λ shape. HasArray shape (file files (array_file tensor))) (IsArrayRefusal files tensor) x (λ shape. array_not_refused files tensor shape x) can) a p
can_free files (convert spec tensor form) a rules can p =
    common_free _
    (λ x. ready_not_refused files spec tensor (λ shape. HasFitting form shape (file files (array_file tensor))) (IsFormRefusal files tensor form) x (λ shape. form_not_refused files tensor form shape x) can) a p
can_free files (expand spec tensor) a rules can p =
    common_free _ (λ x. ready_not_refused files spec tensor (λ shape. HasPairs shape (file files (sym_file tensor))) (IsSymRefusal files tensor) x (λ shape. sym_not_refused files tensor shape x) can) a p
can_free files (einsum text path spec) a rules can p = common_free _ (λ x. einsum_answers.granted text path x rules.0 can) a p
can_free files (demo seed v o) a rules can p = common_free IsFree (λ x free. free) a p

-- what is done could be done, and took what it may take
pub done_can : (command : Command) (before after : Option Files) (taken taken_after : List (ℕ × ℕ)) (report : List ℕ) → IsDone command before after taken taken_after report
    → ForSome before (λ files. CanDo files command)
done_can (run spec budget) before after taken taken_after report done = λ files told. (done.specification, done.specified files told, done.able files told)
done_can (batch spec budget) before after taken taken_after report done = λ files told. (done.formulas, done.specified files told, done.able files told)
done_can (spill spec budget limit) before after taken taken_after report done = λ files told. (done.specification, done.specified files told, done.able files told)
done_can (plan spec) before after taken taken_after report done = λ files told. (done.0.specification, done.0.specified files told)
done_can (cert spec name) before after taken taken_after report done = λ files told. (done.0.specification, done.0.specified files told)
done_can (check spec name) before after taken taken_after report done = λ files told. could_verify before files spec name report told done.0
done_can (pack spec tensor flat) before after taken taken_after report done = λ files told. (done.0.shape, done.0.tensor_is files told, done.0.packing.found files told)
done_can (unpack spec tensor flat) before after taken taken_after report done = λ files told. (done.0.shape, done.0.tensor_is files told, done.0.unpacking.found files told)
done_can (convert spec tensor form) before after taken taken_after report done = λ files told. (done.0.shape, done.0.tensor_is files told, done.0.converting.found files told)
done_can (expand spec tensor) before after taken taken_after report done =
    λ files told. (done.0.shape, done.0.tensor_is files told, (done.0.expanding.symmetry, done.0.expanding.found files told))
done_can (einsum text path spec) before after taken taken_after report done = λ files told. (done.0.specification, done.0.produced)
done_can (demo seed v o) before after taken taken_after report done = λ files told. tt

-- all formulas were run in turn
all_formulas : (before after : Option Files) (taken taken_after : List (ℕ × ℕ)) (spec : List ℕ) (budget : ℕ) (report : List ℕ) → IsBatchRun before after taken taken_after spec budget report
    → IsBatchPrefix before after taken taken_after spec budget
all_formulas before after taken taken_after spec budget report done =
    let all : take (length done.formulas) done.formulas ≡ done.formulas = take-length done.formulas in
    let given : HasTakenEach done.formulas budget taken taken_after = record { plans = done.run.plans; least = done.run.least; taken = done.run.taken } in
    record {
      formulas = done.formulas;
      specified = done.specified;
      run = record {
        count = length done.formulas;
        within = omega arith;
        files_are = inl (done.written ∙ ap (λ (ss : List Specified). option_map (files_after ss) before) (sym all));
        takings = inl (subst (λ (ss : List Specified). HasTakenEach ss budget taken taken_after) (sym all) given);
      };
    }

-- and so were all pieces
all_pieces : (before after : Option Files) (taken taken_after : List (ℕ × ℕ)) (spec : List ℕ) (budget limit : ℕ) (report : List ℕ) → IsSpillRun before after taken taken_after spec budget limit report
    → IsSpillPrefix before after taken taken_after spec budget limit
all_pieces before after taken taken_after spec budget limit report done = record {
  specification = done.specification;
  specified = done.specified;
  run = record {
    cut = done.run.cut;
    are_cut = done.run.are_cut;
    here = record {
      end = operations done.specification.tree;
      files_are = inl (record { inside = omega arith; files = done.run.files });
      takings = inl (record { plans = done.run.reported.plans; least = done.run.reported.least; taken = done.run.reported.taken });
    };
  };
}

pub done_takes : (command : Command) (before after : Option Files) (taken taken_after : List (ℕ × ℕ)) (report : List ℕ) → IsDone command before after taken taken_after report
    → MayTake command before after taken taken_after
done_takes (run spec budget) before after taken taken_after report done =
    inr (record { specification = done.specification; specified = done.specified; able = done.able; plan = done.plan; least = done.least; taking = done.taking })
done_takes (batch spec budget) before after taken taken_after report done = inr (all_formulas before after taken taken_after spec budget report done)
done_takes (spill spec budget limit) before after taken taken_after report done = inr (all_pieces before after taken taken_after spec budget limit report done)
done_takes (plan spec) before after taken taken_after report done = done.2
done_takes (cert spec name) before after taken taken_after report done = done.1
done_takes (check spec name) before after taken taken_after report done = done.2
done_takes (pack spec tensor flat) before after taken taken_after report done = done.1
done_takes (unpack spec tensor flat) before after taken taken_after report done = done.1
done_takes (convert spec tensor form) before after taken taken_after report done = done.1
done_takes (expand spec tensor) before after taken taken_after report done = done.1
done_takes (einsum text path spec) before after taken taken_after report done = done.1
done_takes (demo seed v o) before after taken taken_after report done =
    inr (record { specification = done.specification; specified = done.specified; able = done.able; taking = record { plan = done.run.plan; least = done.run.least; taken = done.run.taken } })

-- Statuses of refusals.

free_of : (r : Refusal) → IsFree r → IsFault (status_of r)
free_of Disk f = tt
free_of Memory f = tt
free_of (Specification fault) f = absurd f
free_of (Missing name) f = absurd f
free_of (Array tensor fault) f = absurd f
free_of (Budget least) f = absurd f
free_of (Intermediates memory) f = absurd f
free_of (Flat len) f = absurd f
free_of (Tensor name) f = absurd f
free_of (Misfit place) f = absurd f
free_of (Einsum trouble) f = absurd f
free_of (Spill trouble) f = absurd f
free_of (Symmetry tensor trouble) f = absurd f

pub free_fault : (r : CommandRefusal) → MayReplace r → IsFault (ending_of r)
free_fault (Common r) f = free_of r f
free_fault (Certificate trouble line) f = absurd f

-- Causes.

cause_by : (files : Files) (command : Command) (fault : SpecFault) (b : Bool) → wants_memory fault ≡ b → IsCommandRefusal files command (Common (Specification fault))
    → IsCause files command (if b then WantOfMemory else SpecRefused fault)
cause_by files command fault true e p = tt
cause_by files command fault false e p = record { refusal = Common (Specification fault); cause = p; same = ap (λ c. if c then WantOfMemory else SpecRefused fault) (sym e) }

einsum_by : (files : Files) (command : Command) (fault : SpecFault) (b : Bool) → wants_memory fault ≡ b → IsCommandRefusal files command (Common (Einsum (einsums.Spec fault)))
    → IsCause files command (if b then WantOfMemory else EinsumRefused (einsums.Spec fault))
einsum_by files command fault true e p = tt
einsum_by files command fault false e p =
    record { refusal = Common (Einsum (einsums.Spec fault)); cause = p; same = ap (λ c. if c then WantOfMemory else EinsumRefused (einsums.Spec fault)) (sym e) }

cause_of : (files : Files) (command : Command) (r : CommandRefusal) → IsCommandRefusal files command r → IsCause files command (ending_of r)
cause_of files command (Common (Specification fault)) p = cause_by files command fault (wants_memory fault) refl p
cause_of files command (Common (Missing name)) p = record { refusal = Common (Missing name); cause = p; same = refl }
cause_of files command (Common (Array tensor fault)) p = record { refusal = Common (Array tensor fault); cause = p; same = refl }
cause_of files command (Common (Budget least)) p = record { refusal = Common (Budget least); cause = p; same = refl }
cause_of files command (Common (Intermediates memory)) p = record { refusal = Common (Intermediates memory); cause = p; same = refl }
cause_of files command (Common (Flat len)) p = record { refusal = Common (Flat len); cause = p; same = refl }
cause_of files command (Common (Tensor name)) p = record { refusal = Common (Tensor name); cause = p; same = refl }
cause_of files command (Common (Misfit place)) p = record { refusal = Common (Misfit place); cause = p; same = refl }
cause_of files command (Common (Einsum (einsums.Spec fault))) p = einsum_by files command fault (wants_memory fault) refl p
cause_of files command (Common (Einsum einsums.BadText)) p = record { refusal = Common (Einsum einsums.BadText); cause = p; same = refl }
cause_of files command (Common (Einsum (einsums.BadSize label))) p = record { refusal = Common (Einsum (einsums.BadSize label)); cause = p; same = refl }
cause_of files command (Common (Einsum (einsums.BadPath item))) p = record { refusal = Common (Einsum (einsums.BadPath item)); cause = p; same = refl }
cause_of files command (Common (Spill trouble)) p = record { refusal = Common (Spill trouble); cause = p; same = refl }
cause_of files command (Common (Symmetry tensor trouble)) p = record { refusal = Common (Symmetry tensor trouble); cause = p; same = refl }
cause_of files command (Common Disk) p = tt
cause_of files command (Common Memory) p = tt
cause_of files command (Certificate trouble line) p = record { refusal = Certificate trouble line; cause = p; same = refl }

-- how the line of a refusal was put
abbrev pub Kept : CommandRefusal → Status → Type 0
Kept r status = (status ≡ ending_of r) ⊎ ((status ≡ WantOfMemory) × (ending_of r ≡ DiskFault → ⊥))

-- how the command may have been refused, where the status is that of a refusal
pub may_end : (command : Command) (r : CommandRefusal) (status : Status) → Kept r status → IsRefusal status → MayRefuse command r → MayEnd command status
may_end command r status (inl kept) refused may = record { refusal = r; possible = may; same = kept }
may_end command r status (inr memory) refused may = absurd (subst IsRefusal memory.0 refused)

pub refused_cause : (files : Files) (command : Command) (r : CommandRefusal) (status : Status) → Kept r status → IsCommandRefusal files command r → IsCause files command status
refused_cause files command r status (inl kept) p = subst (IsCause files command) (sym kept) (cause_of files command r p)
refused_cause files command r status (inr memory) p = subst (IsCause files command) (sym memory.0) tt

pub done_cause : (files : Files) (command : Command) (status : Status) → IsReported status → CanDo files command → IsCause files command status
done_cause files command status (inl done) can = subst (IsCause files command) (sym done) can
done_cause files command status (inr (inl failed)) can = subst (IsCause files command) (sym failed) can
done_cause files command status (inr (inr memory)) can = subst (IsCause files command) (sym memory) tt

-- what another cause has of the refusal that came
other_answers : (files : Files) (command : Command) (r : CommandRefusal) (due : Status) → KeepsRules command → IsCommandRefusal files command r → (IsFault due → ⊥) → HasRefusal files command due → Answers (ending_of r) due
other_answers files command r due rules p free other =
    elim (one_refusal files command r other.refusal rules p other.cause (λ f. free (subst IsFault (sym other.same) (free_fault other.refusal f)))) [
      | inl f ↦ inl (free_fault r f)
      | inr same ↦ inr (same.0 ∙ ap code_of (sym other.same), λ space. same.1 space ∙ ap (line_over space) (sym other.same))
    ]

due_answers : (files : Files) (command : Command) (r : CommandRefusal) (due : Status) → KeepsRules command → IsCommandRefusal files command r → (IsFault due → ⊥) → IsCause files command due → Answers (ending_of r) due
due_answers files command r Done rules p free cause = inl (free_fault r (can_free files command r rules cause p))
due_answers files command r DiskFault rules p free cause = absurd (free tt)
due_answers files command r SinkFault rules p free cause = absurd (free tt)
due_answers files command r WantOfMemory rules p free cause = absurd (free tt)
due_answers files command r due rules p free cause = other_answers files command r due rules p free cause

pub refused_answers : (files : Files) (command : Command) (r : CommandRefusal) (status due : Status) → KeepsRules command → Kept r status → IsCommandRefusal files command r → (IsFault due → ⊥) → IsCause files command due
    → Answers status due
refused_answers files command r status due rules (inl kept) p free cause = subst (λ s. Answers s due) (sym kept) (due_answers files command r due rules p free cause)
refused_answers files command r status due rules (inr memory) p free cause = inl (subst IsFault (sym memory.0) tt)

no_other : (files : Files) (command : Command) (due : Status) → KeepsRules command → CanDo files command → (IsFault due → ⊥) → HasRefusal files command due → ⊥
no_other files command due rules can free other = free (subst IsFault (sym other.same) (free_fault other.refusal (can_free files command other.refusal rules can other.cause)))

is_done : (files : Files) (command : Command) (due : Status) → KeepsRules command → CanDo files command → (IsFault due → ⊥) → IsCause files command due → due ≡ Done
is_done files command Done rules can free cause = refl
is_done files command DiskFault rules can free cause = absurd (free tt)
is_done files command SinkFault rules can free cause = absurd (free tt)
is_done files command WantOfMemory rules can free cause = absurd (free tt)
is_done files command due rules can free cause = absurd (no_other files command due rules can free cause)

pub done_answers : (files : Files) (command : Command) (status due : Status) → KeepsRules command → IsReported status → CanDo files command → (IsFault due → ⊥) → IsCause files command due → Answers status due
done_answers files command status due rules (inl done) can free cause =
    let same : status ≡ due = done ∙ sym (is_done files command due rules can free cause) in
    inr (ap code_of same, λ space. ap (line_over space) same)
done_answers files command status due rules (inr (inl failed)) can free cause = inl (subst IsFault (sym failed) tt)
done_answers files command status due rules (inr (inr memory)) can free cause = inl (subst IsFault (sym memory) tt)
