-- `einsum` has one answer.
use Rattle.std.proofs.Common.{◌≡◌, refl, sym, ap, subst, ◌∙◌, ◌⊎◌, inl, inr, ℕ, List, ◌++◌, length, Some, Ok, Err, Result, codes}
use Rattle.std.specs.Fmt.{decimal}
use Rattle.tce_spec.specs.Faults.{Fault}
use Rattle.tce_spec.specs.FaultCode.{Shows}
use Rattle.tce_spec.specs.declared.fault.SpecFault.{SpecFault}
use Rattle.tce_spec.specs.Specification.{Specification as Specified}
use Rattle.tce_spec.proofs.Reading.{computed, computed_only}
use Rattle.tce_einsum.specs.Text.{IsText}
use Rattle.tce_einsum.specs.Text.{Einsum as Parts}
use Rattle.tce_einsum.specs.Sizes.{IsBadSize, AreSized}
use Rattle.tce_einsum.specs.Path.{Item, IsPath, IsBadItem, item_texts}
use Rattle.tce_einsum.specs.Input.{IsInput, HasBadItem}
use Rattle.tce_einsum.specs.Produced.{produced_text}
use Rattle.tce_einsum.specs.Answer.{Produces, ProducesFault}
use Rattle.tce_einsum.proofs.OneReading.{texts_have_one_reading}
use Rattle.tce_command.specs.Command.{IsHeld}
use Rattle.tce_command.specs.Report.{label_text}
use Rattle.tce_command.specs.Refusals.{IsFree, SameRefusal}
use Rattle.tce_command.specs.declared.trouble.EinsumTrouble.{EinsumTrouble}
use Rattle.tce_command.specs.declared.trouble.EinsumTrouble.TheVariants.{BadText, BadSize, BadPath, Spec}
use Rattle.tce_command.specs.declared.refusal.Refusal.{Refusal}
use Rattle.tce_command.specs.declared.refusal.Refusal.TheVariants.{Einsum, Disk, Memory}
use Rattle.tce_plan.specs.EinsumRefusals.{CanWriteEinsum, IsEinsumRefusal}
use Rattle.tce_command.proofs.Faults.{told}
use Rattle.tce_plan.proofs.EinsumFaults.{told_alike}
use Rattle.tce_plan.proofs.OnePath.{few_operands, sized_or_bad, one_label, same_items, one_bad_item, bad_or_read}

-- Two readings of one text.

same_size : (text : List ℕ) (e f : Parts) (label : ℕ) → IsText text e → IsText text f → IsBadSize f label → IsBadSize e label
same_size text e f label p q bad = subst (λ x. IsBadSize x label) (texts_have_one_reading text f e q p) bad

same_path : (text path : List ℕ) (e f : Parts) (k : ℕ) → IsText text e → IsText text f → IsBadItem (length f.operands) (item_texts path) k → IsBadItem (length e.operands) (item_texts path) k
same_path text path e f k p q bad = subst (λ x. IsBadItem (length x.operands) (item_texts path) k) (texts_have_one_reading text f e q p) bad

sized_not_bad : (text : List ℕ) (e f : Parts) (label : ℕ) → IsText text e → AreSized e → IsText text f → IsBadSize f label → ⊥
sized_not_bad text e f label p sized q bad = sized_or_bad e label sized (same_size text e f label p q bad)

-- an item of a path that is read is not bad
read_not_bad : (text path : List ℕ) (e : Parts) (is : List Item) (k : ℕ) → IsHeld text → IsInput text path e is → HasBadItem text path k → ⊥
read_not_bad text path e is k held read bad =
    bad_or_read (length e.operands) (item_texts path) k is (few_operands text e held read.of_text) (same_path text path e bad.einsum k read.of_text bad.of_text bad.bad) read.of_path

-- what a text and a path produce has one outcome
one_outcome : (text path : List ℕ) (a b : Result Specified Fault) → IsHeld text → Produces text path a → Produces text path b → a ≡ b
one_outcome text path a b held p q =
    let e : p.einsum ≡ q.einsum = texts_have_one_reading text p.einsum q.einsum p.input.of_text q.input.of_text in
    let read : IsPath (length q.einsum.operands) path p.items = subst (λ (x : Parts). IsPath (length x.operands) path p.items) e p.input.of_path in
    let same = same_items (length q.einsum.operands) (item_texts path) p.items q.items 1 1 (few_operands text q.einsum held q.input.of_text) read q.input.of_path in
    computed_only (produced_text p.einsum p.items) a p.outcome
    ∙ (λ k. computed (produced_text (e k) (same.items k)))
    ∙ sym (computed_only (produced_text q.einsum q.items) b q.outcome)

specified_not_faulty : (text path : List ℕ) (s : Specified) (f : SpecFault) → IsHeld text → Produces text path (Ok s) → ProducesFault text path f → ⊥
specified_not_faulty text path s f held p q = let e : Ok s ≡ Err q.found = one_outcome text path (Ok s) (Err q.found) held p q.produced in absurd (cc)

-- two faults of one produced text are told alike
same_fault : (text path : List ℕ) (f g : SpecFault) → IsHeld text → IsEinsumRefusal text path (Einsum (Spec f)) → IsEinsumRefusal text path (Einsum (Spec g)) → SameRefusal (Einsum (Spec f)) (Einsum (Spec g))
same_fault text path f g held p q =
    let e : Err p.0.found ≡ Err q.0.found = one_outcome text path (Err p.0.found) (Err q.0.found) held p.0.produced q.0.produced in
    let same : Some p.0.found ≡ Some q.0.found = cc in
    told_alike (Some q.0.found) f g (told (Some q.0.found) f (subst (λ o. Shows o f) same p.0.shown) p.1) (told (Some q.0.found) g q.0.shown q.1)

-- Answers.

pub granted : (text path : List ℕ) (a : Refusal) → IsHeld text → CanWriteEinsum text path → IsEinsumRefusal text path a → IsFree a
granted text path (Einsum BadText) held (s, can) p = absurd (p can.einsum can.input.of_text)
granted text path (Einsum (BadSize label)) held (s, can) p = absurd (sized_not_bad text can.einsum p.einsum label can.input.of_text can.input.sized p.of_text p.bad)
granted text path (Einsum (BadPath k)) held (s, can) p = absurd (read_not_bad text path can.einsum can.items k held can.input p)
granted text path (Einsum (Spec f)) held (s, can) p = absurd (specified_not_faulty text path s f held can p.0)
granted text path Disk held can p = tt
granted text path Memory held can p = tt
granted text path a held can p = absurd p

-- one reason is told, whatever is wrong with an einsum
alike : (text path : List ℕ) (t u : EinsumTrouble) → IsHeld text → IsEinsumRefusal text path (Einsum t) → IsEinsumRefusal text path (Einsum u) → SameRefusal (Einsum t) (Einsum u)
alike text path BadText BadText held p q = (refl, refl)
alike text path BadText (BadSize m) held p q = absurd (p q.einsum q.of_text)
alike text path BadText (BadPath j) held p q = absurd (p q.einsum q.of_text)
alike text path BadText (Spec g) held p q = absurd (p q.0.produced.einsum q.0.produced.input.of_text)
alike text path (BadSize l) BadText held p q = absurd (q p.einsum p.of_text)
alike text path (BadSize l) (BadSize m) held p q =
    let e : l ≡ m = one_label p.einsum l m p.bad (same_size text p.einsum q.einsum m p.of_text q.of_text q.bad) in
    (refl, ap (λ x. codes "error 14: " ++ label_text x ++ codes "\n") e)
alike text path (BadSize l) (BadPath j) held p q = absurd (sized_not_bad text q.einsum p.einsum l q.of_text q.sized p.of_text p.bad)
alike text path (BadSize l) (Spec g) held p q =
    absurd (sized_not_bad text q.0.produced.einsum p.einsum l q.0.produced.input.of_text q.0.produced.input.sized p.of_text p.bad)
alike text path (BadPath k) BadText held p q = absurd (q p.einsum p.of_text)
alike text path (BadPath k) (BadSize m) held p q = absurd (sized_not_bad text p.einsum q.einsum m p.of_text p.sized q.of_text q.bad)
alike text path (BadPath k) (BadPath j) held p q =
    let e : k ≡ j = one_bad_item (length p.einsum.operands) (item_texts path) k j (few_operands text p.einsum held p.of_text) p.bad (same_path text path p.einsum q.einsum j p.of_text q.of_text q.bad) in
    (refl, ap (λ x. codes "error 14: " ++ (codes "path item " ++ decimal x ++ codes "") ++ codes "\n") e)
alike text path (BadPath k) (Spec g) held p q = absurd (read_not_bad text path q.0.produced.einsum q.0.produced.items k held q.0.produced.input p)
alike text path (Spec f) BadText held p q = absurd (q p.0.produced.einsum p.0.produced.input.of_text)
alike text path (Spec f) (BadSize m) held p q =
    absurd (sized_not_bad text p.0.produced.einsum q.einsum m p.0.produced.input.of_text p.0.produced.input.sized q.of_text q.bad)
alike text path (Spec f) (BadPath j) held p q = absurd (read_not_bad text path p.0.produced.einsum p.0.produced.items j held p.0.produced.input q)
alike text path (Spec f) (Spec g) held p q = same_fault text path f g held p q

pub alone : (text path : List ℕ) (a b : Refusal) → IsHeld text → IsEinsumRefusal text path a → IsEinsumRefusal text path b → (IsFree b → ⊥) → IsFree a ⊎ SameRefusal a b
alone text path (Einsum t) (Einsum u) held p q free = inr (alike text path t u held p q)
alone text path (Einsum t) Disk held p q free = absurd (free tt)
alone text path (Einsum t) Memory held p q free = absurd (free tt)
alone text path (Einsum t) b held p q free = absurd q
alone text path Disk b held p q free = inl tt
alone text path Memory b held p q free = inl tt
alone text path a b held p q free = absurd p
