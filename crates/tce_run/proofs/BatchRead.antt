-- What is read from a file of several formulas.
use Rattle.std.proofs.Common.{◌≡◌, ◌≢◌, refl, sym, ap, subst, ℕ, ◌<◌, ◌^◌, List, length, Option, Some, None, Result, Ok, Err, if◌then◌else◌, nat_lt, true, arith}
use Rattle.std.specs.Option.{IsSomeAnd}
use Rattle.std.proofs.lemmas.Bool.Decides.{nat_tests}
use Rattle.std.proofs.lemmas.Option.{none-some}
use Rattle.tce_spec.specs.Faults.{Fault, too_long}
use Rattle.tce_spec.specs.FaultCode.{Shows}
use Rattle.tce_spec.specs.TextCode.{fault_in}
use Rattle.tce_spec.specs.declared.fault.SpecFault.{SpecFault}
use Rattle.tce_spec.specs.declared.fault.SpecFault.TheVariants.{TooLong, Memory}
use Rattle.tce_spec.specs.Specification.{Specification}
use Rattle.tce_batch.specs.Outcome.{IsBatchOutcome, together}
use Rattle.tce_batch.specs.BatchCode as batches
use Rattle.tce_batch.proofs.Computed.{batch_computed, batch_is}
use Rattle.tce_command.specs.declared.refusal.Refusal.{Refusal}
use Rattle.tce_command.specs.Source.{IsTooLong, IsTextRefusal, MayRefuseText}
use Rattle.tce_run.specs.BatchSource.{HasBatchFault, IsBatchSourceRefusal}
use Rattle.tce_command.proofs.Read.{may_more, refused_more, shown_is}

long_batch_text : (text : List ℕ) → 2 ^ 16 < length text → HasBatchFault text TooLong
long_batch_text text h =
    let some = batch_is text in
    let long : nat_lt (2 ^ 16) (length text) ≡ true = grind (arith, nat_tests) in
    record {
      found = too_long;
      outcome = record {
        of_lines = some.of_lines;
        are_lines = some.are_lines;
        found = some.found;
        each = some.each;
        same = sym (ap (λ b. if b then Err too_long else together some.found) long);
      };
      shown = refl;
      no_memory = λ e. absurd (cc);
    }

long_batch : (text : List ℕ) (f : SpecFault) → IsTooLong text f → HasBatchFault text f
long_batch text f (is, h) = subst (HasBatchFault text) (sym is) (long_batch_text text h)

pub may_unread_batch : (name : List ℕ) (a : Refusal) → MayRefuseText IsTooLong name a → MayRefuseText HasBatchFault name a
may_unread_batch name a p = may_more IsTooLong HasBatchFault name a long_batch p

pub unread_batch : (name : List ℕ) (found : Option (List ℕ)) (a : Refusal) → IsTextRefusal IsTooLong name found a → IsBatchSourceRefusal name found a
unread_batch name found a p = refused_more IsTooLong HasBatchFault name found a long_batch p

pub formulas_specified : (found : Option (List ℕ)) (text : List ℕ) (batch : List Specification) → found ≡ Some text
    → ((outcome : Result (List Specification) Fault) → IsBatchOutcome text outcome → batches.Answers outcome (Ok batch)) → IsSomeAnd found (λ t. IsBatchOutcome t (Ok batch))
formulas_specified found text batch e answers =
    subst (λ o. IsSomeAnd o (λ t. IsBatchOutcome t (Ok batch))) (sym e) (subst (IsBatchOutcome text) (answers (batch_computed text) (batch_is text)) (batch_is text))

has_batch_fault : (text : List ℕ) (outcome : Result (List Specification) Fault) (f : SpecFault) → IsBatchOutcome text outcome → Shows (fault_in outcome) f → f ≢ Memory → HasBatchFault text f
has_batch_fault text (Ok batch) f is shows n = absurd (none-some _ (shown_is None f shows n).1)
has_batch_fault text (Err found) f is shows n = record { found = found; outcome = is; shown = shows; no_memory = n }

pub formulas_faulty : (found : Option (List ℕ)) (text : List ℕ) (f : SpecFault) → found ≡ Some text → f ≢ Memory
    → ((outcome : Result (List Specification) Fault) → IsBatchOutcome text outcome → batches.Answers outcome (Err f)) → IsSomeAnd found (λ t. HasBatchFault t f)
formulas_faulty found text f e n answers =
    subst (λ o. IsSomeAnd o (λ t. HasBatchFault t f)) (sym e) (has_batch_fault text (batch_computed text) f (batch_is text) (answers (batch_computed text) (batch_is text)) n)
