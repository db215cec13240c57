-- What is read from a file.
use Rattle.std.proofs.Common.{◌≡◌, ◌≢◌, refl, sym, ap, subst, ℕ, ◌<◌, ◌^◌, List, length, replicate, Option, Some, None, Result, Ok, Err, if◌then◌else◌, nat_lt, true, false, Bool, IsTrue, arith}
use Rattle.std.specs.Option.{IsSomeAnd, option_map}
use Rattle.std.proofs.lemmas.Bool.Decides.{nat_tests}
use Rattle.std.proofs.lemmas.Option.{none-some}
use Rattle.std.proofs.lemmas.List.{length-replicate}
use Rattle.tce_spec.specs.Faults.{Fault, too_long}
use Rattle.tce_spec.specs.FaultCode.{Shows}
use Rattle.tce_spec.specs.TextCode.{fault_in}
use Rattle.tce_spec.specs.declared.fault.SpecFault.{SpecFault}
use Rattle.tce_spec.specs.declared.fault.SpecFault.TheVariants.{TooLong, BadText, TooManyNodes, NameTwice, UnknownName, BadNumber, LimitPassed, RankDiffers, RangeDiffers, IndexTwice, ResultIsOperand, Tree, ResultIndices, Memory}
use Rattle.tce_tree.specs.declared.fault.TreeFault.TheVariants as trees
use Rattle.tce_spec.specs.Specification.{Specification}
use Rattle.tce_spec.specs.Outcome.{IsOutcome, outcome}
use Rattle.tce_spec.specs.OutcomeCode.{Answers}
use Rattle.tce_spec.proofs.Reading.{computed, computed_is}
use Rattle.tce_command.specs.declared.refusal.Refusal.{Refusal}
use Rattle.tce_command.specs.declared.refusal.Refusal.TheVariants as refusals
use Rattle.tce_command.specs.declared.refusal.Refusal.TheVariants.{Missing, Specification as OfText, Disk}
use Rattle.tce_command.specs.Source.{Specifies, HasFault, IsTooLong, IsTextRefusal, IsSourceRefusal, MayRefuseSource, MayRefuseText}

-- a text that is too long has this fault, unread
too_long_text : (text : List ℕ) → 2 ^ 16 < length text → HasFault text TooLong
too_long_text text h =
    let some = computed_is text in
    let long : nat_lt (2 ^ 16) (length text) ≡ true = grind (arith, nat_tests) in
    record {
      found = too_long;
      outcome = record {
        of_lines = some.of_lines;
        are_lines = some.are_lines;
        same = sym (ap (λ b. if b then Err too_long else outcome some.of_lines) long);
      };
      shown = refl;
      no_memory = λ e. absurd (cc);
    }

long_text : (text : List ℕ) (f : SpecFault) → IsTooLong text f → HasFault text f
long_text text f (is, h) = subst (HasFault text) (sym is) (too_long_text text h)

pub long_file : (found : Option (List ℕ)) (len : ℕ) → Some len ≡ option_map length found → 2 ^ 16 < len → IsSomeAnd found (λ text. IsTooLong text TooLong)
long_file None len e h = absurd (cc)
long_file (Some text) len e h = let same : len ≡ length text = cc in (refl, omega (arith, h, same))

-- a refusal stands where a text has more faults
found_more : (P Q : List ℕ → SpecFault → Type 0) (found : Option (List ℕ)) (f : SpecFault) → ((text : List ℕ) → P text f → Q text f) → IsSomeAnd found (λ text. P text f) → IsSomeAnd found (λ text. Q text f)
found_more P Q None f more p = absurd p
found_more P Q (Some text) f more p = more text p

pub refused_more : (P Q : List ℕ → SpecFault → Type 0) (name : List ℕ) (found : Option (List ℕ)) (a : Refusal) → ((text : List ℕ) (f : SpecFault) → P text f → Q text f) → IsTextRefusal P name found a → IsTextRefusal Q name found a
refused_more P Q name found (Missing x) more p = p
refused_more P Q name found (OfText f) more p = found_more P Q found f (λ text. more text f) p
refused_more P Q name found Disk more p = tt
refused_more P Q name found refusals.Memory more p = tt
refused_more P Q name found a more p = absurd p

pub may_more : (P Q : List ℕ → SpecFault → Type 0) (name : List ℕ) (a : Refusal) → ((text : List ℕ) (f : SpecFault) → P text f → Q text f) → MayRefuseText P name a → MayRefuseText Q name a
may_more P Q name (Missing x) more p = p
may_more P Q name (OfText f) more (text, p) = (text, more text f p)
may_more P Q name Disk more p = tt
may_more P Q name refusals.Memory more p = tt
may_more P Q name a more p = absurd p

-- a file that is too long may be refused so
pub long_may : (len : ℕ) → 2 ^ 16 < len → (text : List ℕ) × IsTooLong text TooLong
long_may len h = let same = length-replicate {A = ℕ} len 0 in (replicate len 0, (refl, omega (arith, h, same)))

pub may_unread : (name : List ℕ) (a : Refusal) → MayRefuseText IsTooLong name a → MayRefuseSource name a
may_unread name a p = may_more IsTooLong HasFault name a long_text p

pub unread : (name : List ℕ) (found : Option (List ℕ)) (a : Refusal) → IsTextRefusal IsTooLong name found a → IsSourceRefusal name found a
unread name found a p = refused_more IsTooLong HasFault name found a long_text p

-- the reader's answers tell what a text specifies
pub specified : (found : Option (List ℕ)) (text : List ℕ) (s : Specification) → found ≡ Some text
    → ((outcome : Result Specification Fault) → IsOutcome text outcome → Answers outcome (Ok s)) → IsSomeAnd found (λ t. Specifies t s)
specified found text s e answers =
    subst (λ o. IsSomeAnd o (λ t. Specifies t s)) (sym e) (subst (IsOutcome text) (answers (computed text) (computed_is text)) (computed_is text))

-- a fault that is shown, but for want of memory, is there
pub shown_is : (o : Option Fault) (f : SpecFault) → Shows o f → f ≢ Memory → (found : Fault) × (o ≡ Some found)
shown_is o TooLong s n = (_, s)
shown_is o (BadText line) s n = (_, s)
shown_is o (TooManyNodes line) s n = (_, s)
shown_is o (NameTwice line name) s n = (_, s)
shown_is o (UnknownName line name) s n = (_, s)
shown_is o (BadNumber line) s n = (_, s)
shown_is o (LimitPassed line limit) s n = (_, s)
shown_is o (RankDiffers line name) s n = (_, s)
shown_is o (RangeDiffers line name) s n = (_, s)
shown_is o (IndexTwice line name) s n = (_, s)
shown_is o (ResultIsOperand line name) s n = (_, s)
shown_is o (Tree line trees.NoOperation) s n = (_, s)
shown_is o (Tree line (trees.SumOverAbsent name)) s n = (_, s)
shown_is o (Tree line (trees.TooManyLoops node)) s n = (_, s)
shown_is o (Tree line (trees.VolumeTooLarge node)) s n = (_, s)
shown_is o (Tree line trees.Memory) s n = absurd s
shown_is o (ResultIndices line) s n = (_, s)
shown_is o Memory s n = absurd (n refl)

has_fault : (text : List ℕ) (outcome : Result Specification Fault) (f : SpecFault) → IsOutcome text outcome → Shows (fault_in outcome) f → f ≢ Memory → HasFault text f
has_fault text (Ok s) f is shows n = absurd (none-some _ (shown_is None f shows n).1)
has_fault text (Err found) f is shows n = record { found = found; outcome = is; shown = shows; no_memory = n }

pub faulty : (found : Option (List ℕ)) (text : List ℕ) (f : SpecFault) → found ≡ Some text → f ≢ Memory
    → ((outcome : Result Specification Fault) → IsOutcome text outcome → Answers outcome (Err f)) → IsSomeAnd found (λ t. HasFault t f)
faulty found text f e n answers =
    subst (λ o. IsSomeAnd o (λ t. HasFault t f)) (sym e) (has_fault text (computed text) f (computed_is text) (answers (computed text) (computed_is text)) n)

pub not_true : (b : Bool) → b ≡ false → IsTrue b → ⊥
not_true true e t = absurd (cc)
not_true false e t = absurd (cc)

-- want of memory and a refused text are no failures of the disk
pub memory_no_disk : {A : Type 0} (given : Result A Refusal) → given ≡ Err refusals.Memory → given ≡ Err Disk → ⊥
memory_no_disk given is failed = absurd (cc)

pub text_no_disk : {A : Type 0} (fault : SpecFault) (given : Result A Refusal) → given ≡ Err (OfText fault) → given ≡ Err Disk → ⊥
text_no_disk fault given is failed = absurd (cc)
