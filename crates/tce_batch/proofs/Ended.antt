-- What is left where a formula fails.
use Rattle.std.proofs.Common.{inl, inr, ◌⊎◌, ◌≡◌, ℕ, ◌+◌, List, length, take, Option, Some, None, All, refl, sym, subst, ◌∙◌, ap, arith}
use Rattle.std.specs.Prelude.{slice_get}
use Rattle.std.specs.Option.{ForSome}
use Rattle.std.proofs.lemmas.List.Elements.{All-take, All-get_or}
use Rattle.std.proofs.lemmas.Option.{slice_get_within, get_or_from_slice_get}
use Rattle.tce_outside.specs.Files.{Files, others}
use Rattle.tce_spec.specs.Specification.{Specification, IsSpecification}
use Rattle.tce_spec.proofs.Seen.{operand_declared}
use Rattle.tce_job.specs.TensorFiles.{file_of}
use Rattle.tce_job.specs.Laws.{LeavesNoHalfResult}
use Rattle.tce_job.proofs.Ended.{same_is_no_half}
use Rattle.tce_job.specs.ResultLaws.{IsTensorOf}
use Rattle.tce_job.specs.Opened.{operand, operand_count, HasOperands}
use Rattle.tce_job.specs.declared.fault.JobFault.{JobFault}
use Rattle.tce_job.specs.declared.fault.JobFault.TheVariants.{BudgetTooSmall, IntermediatesTooLarge, Array, Disk, Memory}
use Rattle.tce_job.specs.Refusals.{IsAffordable, IsCause, MayBeRefused, IsFree}
use Rattle.tce_job.specs.Prepared.{HasTaken, IsRoomLeft as IsRoomLeftByOne}
use Rattle.tce_job.proofs.Causes.{granted}
use Rattle.tce_batch.specs.BatchCode.{IsBatch}
use Rattle.tce_job.specs.Several.{files_after, HasTakenEach}
use Rattle.tce_batch.specs.Refusals.{AffordableBelow, SourcesBelow, IsCauseAt}
use Rattle.tce_batch.specs.Left.{files_at, HasTakenTo, IsLeftAt}
use Rattle.tce_batch.proofs.Afforded.{some_at}
use Rattle.tce_batch.proofs.Files.{has_after, none_after}
use Rattle.tce_batch.proofs.Reports.{taken_more, none_taken}

-- what holds of each holds of the one at a place
pub at_all : (P : Specification → Type 0) (batch : List Specification) (number : ℕ) (s : Specification) → All P batch → slice_get batch number ≡ Some s → P s
at_all P batch number s all at = subst P (get_or_from_slice_get batch number s s at) (All-get_or P batch number s (slice_get_within batch number s at) all)

-- the operands of a formula are there when its turn comes
has_operands : (batch : List Specification) (files : Files) (number : ℕ) (s : Specification) → IsBatch batch → slice_get batch number ≡ Some s → SourcesBelow files batch (length batch)
    → HasOperands (files_after (take number batch) files) s (operand_count s)
has_operands batch files number s rules at sources d within =
    let here : IsSpecification s = at_all IsSpecification batch number s rules.rules at in
    let over = at_all (λ (x : Specification). x.declarations ≡ rules.declarations) batch number s rules.same at in
    let declared : IsTensorOf s (operand s d) = operand_declared s here.contraction.leaves_fit d within in
    let front = All-take (λ (x : Specification). x.declarations ≡ rules.declarations) number batch rules.same in
    has_after (take number batch) files s (operand s d) here declared
    (subst (λ d. All (λ (x : Specification). x.declarations ≡ d) (take number batch)) (sym over) front)
    (All-take IsSpecification number batch rules.rules) (λ source. sources number s (slice_get_within batch number s at) at d within source)

-- what is known of a formula that failed
pub record HasFailed (start now : Option Files) (batch : List Specification) (budget number : ℕ) (s : Specification) (fault : JobFault) : Type 0 where
  pub at : slice_get batch number ≡ Some s
  pub able : AffordableBelow batch budget (length batch)
  pub is : now ≡ files_at start batch number
  pub free : ForSome start (λ _. IsFree fault)
  pub why : IsCause (MayBeRefused now s) s budget fault

-- where the disk tells its files it is the disk, or want of memory
pub has_failed : (start now : Option Files) (batch : List Specification) (budget number : ℕ) (s : Specification) (fault : JobFault) → IsBatch batch → slice_get batch number ≡ Some s
    → AffordableBelow batch budget (length batch) → ForSome start (λ files. SourcesBelow files batch (length batch)) → now ≡ files_at start batch number → IsCause (MayBeRefused now s) s budget fault
    → HasFailed start now batch budget number s fault
has_failed start now batch budget number s fault rules at able sources is why = record {
  at = at;
  able = able;
  is = is;
  free = λ files told. granted now s budget fault why (files_after (take number batch) files) (is ∙ ap (λ o. files_at o batch number) told)
      (record { affordable = able number s (slice_get_within batch number s at) at; operands = has_operands batch files number s rules at (sources files told) });
  why = why;
}

within_budget : {A : Type 0} (s : Specification) (budget n : ℕ) (refused : _) → IsAffordable s budget → IsCause refused s budget (BudgetTooSmall n) → A
within_budget s budget n refused able why = absurd (omega (arith, able.enough, why.0, why.1))

within_memory : {A : Type 0} (s : Specification) (budget n : ℕ) (refused : _) → IsAffordable s budget → IsCause refused s budget (IntermediatesTooLarge n) → A
within_memory s budget n refused able why = let small = able.small n why.1 in absurd (omega (arith, small, why.2))

able_at : (start now : Option Files) (batch : List Specification) (budget number : ℕ) (s : Specification) (fault : JobFault) → HasFailed start now batch budget number s fault → IsAffordable s budget
able_at start now batch budget number s fault h = h.able number s (slice_get_within batch number s h.at) h.at

pub failed_cause : (start now : Option Files) (batch : List Specification) (budget number : ℕ) (s : Specification) (fault : JobFault) → HasFailed start now batch budget number s fault
    → IsCauseAt start batch budget (number + 1) fault
failed_cause start now batch budget number s (BudgetTooSmall n) h = within_budget s budget n (MayBeRefused now s) (able_at start now batch budget number s (BudgetTooSmall n) h) h.why
failed_cause start now batch budget number s (IntermediatesTooLarge n) h = within_memory s budget n (MayBeRefused now s) (able_at start now batch budget number s (IntermediatesTooLarge n) h) h.why
failed_cause start now batch budget number s (Array t u) h =
    record { number = number; specification = s; counted = refl; at = h.at; here = (h.able, h.why.2, h.why.1.0, (λ files told. absurd (h.free files told))) }
failed_cause start now batch budget number s Disk h = let w = slice_get_within batch number s h.at in record { some = omega arith; within = omega (arith, w) }
failed_cause start now batch budget number s Memory h = let w = slice_get_within batch number s h.at in record { some = omega arith; within = omega (arith, w) }

-- no file changed where the disk tells nothing
untold : (start now after : Option Files) (batch : List Specification) (number : ℕ) → now ≡ files_at start batch number → after ≡ now → (ForSome start (λ _. ⊥)) → after ≡ start
untold None now after batch number is same none = same ∙ is
untold (Some files) now after batch number is same none = absurd (none files refl)

-- the takings of the formulas in front, or of this one too
taken_to : (batch : List Specification) (budget number : ℕ) (s : Specification) (before then after : List (ℕ × ℕ)) → slice_get batch number ≡ Some s → HasTakenEach (take number batch) budget before then
    → (after ≡ then) ⊎ HasTaken s budget then after → HasTakenTo before after batch budget number
taken_to batch budget number s before then after at front (inl same) = inl (subst (HasTakenEach (take number batch) budget before) (sym same) front)
taken_to batch budget number s before then after at front (inr one) = inr (taken_more budget batch number s before then after at front one)

-- what one formula does to files and room where it fails
pub record Fails (now after : Option Files) (then taken_after : List (ℕ × ℕ)) (budget : ℕ) (s : Specification) (fault : JobFault) : Type 0 where
  pub same : (fault ≡ Disk) ⊎ (after ≡ now)
  pub others_are : others (file_of s s.result) after ≡ others (file_of s s.result) now
  pub no_half : LeavesNoHalfResult s now after
  pub room : IsRoomLeftByOne fault s budget then taken_after

same_files : (fault : JobFault) (A : Type 0) → (fault ≡ Disk) ⊎ A → (fault ≡ Disk → ⊥) → A
same_files fault A (inl failed) other = absurd (other failed)
same_files fault A (inr same) other = same

pub failed_left : (start now after : Option Files) (batch : List Specification) (budget number : ℕ) (s : Specification) (fault : JobFault) (before then taken_after : List (ℕ × ℕ)) → HasFailed start now batch budget number s fault
    → HasTakenEach (take number batch) budget before then → Fails now after then taken_after budget s fault → IsLeftAt start after before taken_after batch budget (number + 1) fault
failed_left start now after batch budget number s (BudgetTooSmall n) before then taken_after h front left = within_budget s budget n (MayBeRefused now s) (able_at start now batch budget number s (BudgetTooSmall n) h) h.why
failed_left start now after batch budget number s (IntermediatesTooLarge n) before then taken_after h front left =
    within_memory s budget n (MayBeRefused now s) (able_at start now batch budget number s (IntermediatesTooLarge n) h) h.why
failed_left start now after batch budget number s (Array t u) before then taken_after h front left = (
  untold start now after batch number h.is (same_files (Array t u) (after ≡ now) left.same (λ failed. absurd (cc))) h.free,
  λ files told. absurd (h.free files told),
  record { number = number; specification = s; counted = refl; at = h.at; here = inr (subst (HasTakenEach (take number batch) budget before) (sym left.room) front) },
)
failed_left start now after batch budget number s Disk before then taken_after h front left = record {
  number = number;
  specification = s;
  counted = refl;
  at = h.at;
  here = (
    record { others_are = left.others_are ∙ ap (others (file_of s s.result)) h.is; no_half = subst (λ o. LeavesNoHalfResult s o after) h.is left.no_half },
    taken_to batch budget number s before then taken_after h.at front left.room,
  );
}
failed_left start now after batch budget number s Memory before then taken_after h front left = record {
  number = number;
  specification = s;
  counted = refl;
  at = h.at;
  here = inl (same_files Memory (after ≡ now) left.same (λ failed. absurd (cc)) ∙ h.is, taken_to batch budget number s before then taken_after h.at front left.room);
}

-- where a batch is refused before any formula is run, all is as it was
pub left_before : (start after : Option Files) (batch : List Specification) (budget formula : ℕ) (fault : JobFault) (taken : List (ℕ × ℕ)) → after ≡ start → (IsFree fault → formula ≡ 1) → IsCauseAt start batch budget formula fault
    → IsLeftAt start after taken taken batch budget formula fault
left_before start after batch budget formula (BudgetTooSmall n) taken same first why = (same, refl)
left_before start after batch budget formula (IntermediatesTooLarge n) taken same first why = (same, refl)
left_before start after batch budget formula (Array t u) taken same first why =
    (same, λ files told. refl, record { number = why.number; specification = why.specification; counted = why.counted; at = why.at; here = inl refl })
left_before start after batch budget formula Disk taken same first why =
    let (s, at) = some_at batch 0 (omega (arith, why.some, why.within)) in
    let none = same ∙ none_after start batch in
    record {
      number = 0;
      specification = s;
      counted = first tt;
      at = at;
      here = (record { others_are = ap (others (file_of s s.result)) none; no_half = same_is_no_half s (files_at start batch 0) after none }, inl (none_taken batch budget taken));
    }
left_before start after batch budget formula Memory taken same first why =
    let (s, at) = some_at batch 0 (omega (arith, why.some, why.within)) in
    record { number = 0; specification = s; counted = first tt; at = at; here = inl (same ∙ none_after start batch, inl (none_taken batch budget taken)) }
