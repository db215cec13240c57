-- The file of several formulas has one outcome.
use Rattle.std.proofs.Common.{◌≡◌, sym, subst, ◌∙◌, ◌⊎◌, ℕ, List, Option, Some, None, Ok, Err}
use Rattle.std.specs.Option.{IsSomeAnd}
use Rattle.tce_outside.specs.Files.{Files, file}
use Rattle.tce_spec.specs.Specification.{Specification as Specified}
use Rattle.tce_spec.specs.FaultCode.{Shows}
use Rattle.tce_spec.specs.declared.fault.SpecFault.{SpecFault}
use Rattle.tce_command.specs.Refusals.{IsFree, SameRefusal}
use Rattle.tce_command.specs.declared.refusal.Refusal.{Refusal}
use Rattle.tce_command.specs.declared.refusal.Refusal.TheVariants.{Specification}
use Rattle.tce_batch.specs.Outcome.{IsBatchOutcome}
use Rattle.tce_batch.proofs.Computed.{batch_only}
use Rattle.tce_run.specs.BatchSource.{HasBatch, HasBatchFault, IsBatchSourceRefusal}
use Rattle.tce_command.proofs.Faults.{told, told_alike}
use Rattle.tce_command.proofs.Outcomes.{text_refusal, not_refused}

same_batch_fault : (text : List ℕ) (f g : SpecFault) → HasBatchFault text f → HasBatchFault text g → SameRefusal (Specification f) (Specification g)
same_batch_fault text f g p q =
    let e : Err p.found ≡ Err q.found = batch_only text (Err p.found) p.outcome ∙ sym (batch_only text (Err q.found) q.outcome) in
    let same : Some p.found ≡ Some q.found = cc in
    told_alike (Some q.found) f g (told (Some q.found) f (subst (λ o. Shows o f) same p.shown) p.no_memory) (told (Some q.found) g q.shown q.no_memory)

pub one_batch_refusal : (name : List ℕ) (found : Option (List ℕ)) (a b : Refusal) → IsBatchSourceRefusal name found a → IsBatchSourceRefusal name found b → (IsFree b → ⊥) → IsFree a ⊎ SameRefusal a b
one_batch_refusal name found a b p q free = text_refusal HasBatchFault name found a b same_batch_fault p q free

batch_not_faulty : (text : List ℕ) (batch : List Specified) (f : SpecFault) → IsBatchOutcome text (Ok batch) → HasBatchFault text f → ⊥
batch_not_faulty text batch f p q = let e : Ok batch ≡ Err q.found = batch_only text (Ok batch) p ∙ sym (batch_only text (Err q.found) q.outcome) in absurd (cc)

pub not_both_batch : (files : Files) (spec : List ℕ) (batch : List Specified) (a : Refusal) → HasBatch files spec batch → IsBatchSourceRefusal spec (file files spec) a → IsFree a
not_both_batch files spec batch a p q = not_refused HasBatchFault (λ text. IsBatchOutcome text (Ok batch)) spec (file files spec) a (λ text. batch_not_faulty text batch) p q

-- a file specifies one list of formulas
one_batch_of : (found : Option (List ℕ)) (batch other : List Specified) → IsSomeAnd found (λ text. IsBatchOutcome text (Ok batch)) → IsSomeAnd found (λ text. IsBatchOutcome text (Ok other)) → batch ≡ other
one_batch_of None batch other p q = absurd p
one_batch_of (Some text) batch other p q = let e = batch_only text (Ok batch) p ∙ sym (batch_only text (Ok other) q) in cc

pub one_batch : (files : Files) (spec : List ℕ) (batch other : List Specified) → HasBatch files spec batch → HasBatch files spec other → batch ≡ other
one_batch files spec batch other p q = one_batch_of (file files spec) batch other p q
