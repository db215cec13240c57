-- The plans that are kept of formulas until they are run.
use Rattle.std.proofs.Common.{inl, inr, ◌⊎◌, ◌≡◌, ℕ, ◌+◌, ◌<◌, ◌≤◌, List, [], ◌∷◌, ◌++◌, length, get_or, Some, refl, sym, subst, ◌∙◌, ap, arith}
use Rattle.std.specs.Prelude.{slice_get}
use Rattle.std.proofs.lemmas.Bool.{cases_lt}
use Rattle.std.proofs.lemmas.List.{length-append, get_or_append_left}
use Rattle.std.proofs.Math.Seq.{get_or-append_seam}
use Rattle.std.proofs.lemmas.Option.{slice_get_within, slice_get-get_or, get_or_from_slice_get, slice_get_read}
use Rattle.tce_batch.specs.declared.plans.KeptPlan.{KeptPlan}
use Rattle.tce_spec.specs.Specification.{Specification}
use Rattle.tce_batch.specs.Plans.{IsKeptFor, IsKeptIn, IsKeptBehind, IsOneMore, AreKept}
use Rattle.tce_batch.proofs.Afforded.{at_place}

-- an element of a list and one more is in the list, or that one
one_of_more : {X : Type 0} (xs : List X) (x y : X) (k : ℕ) → slice_get (xs ++ x ∷ []) k ≡ Some y → (slice_get xs k ≡ Some y) ⊎ ((k ≡ length xs) × (x ≡ y))
one_of_more xs x y k at = by_place (cases_lt k (length xs))
  where
    by_place : (k < length xs) ⊎ (length xs ≤ k) → (slice_get xs k ≡ Some y) ⊎ ((k ≡ length xs) × (x ≡ y))
    by_place (inl first) = inl (slice_get-get_or xs k y first ∙ ap Some (sym (get_or_append_left xs (x ∷ []) y k first) ∙ get_or_from_slice_get (xs ++ x ∷ []) k y y at))
    by_place (inr last) =
        let within = slice_get_within (xs ++ x ∷ []) k y at in
        let same : k ≡ length xs = omega (arith, last, within, length-append xs (x ∷ [])) in
        inr (same, sym (get_or-append_seam xs x [] y) ∙ ap (λ n. get_or (xs ++ x ∷ []) n y) (sym same) ∙ get_or_from_slice_get (xs ++ x ∷ []) k y y at)

pub kept_more : (batch : List Specification) (number : ℕ) (before after : List KeptPlan) → AreKept batch number before → IsOneMore batch number before after → AreKept batch (number + 1) after
kept_more batch number before after front one = subst (AreKept batch (number + 1)) (sym one.added) (record {
  count_is = omega (arith, length-append before (one.kept ∷ []), front.count_is);
  each = λ k kept at. by_place k kept (one_of_more before one.kept kept k at);
})
  where
    by_place : (k : ℕ) (kept : KeptPlan) → (slice_get before k ≡ Some kept) ⊎ ((k ≡ length before) × (one.kept ≡ kept)) → (kept.number ≡ k) × IsKeptIn batch kept
    by_place k kept (inl first) = front.each k kept first
    by_place k kept (inr (last, same)) =
        subst (λ (x : KeptPlan). (x.number ≡ k) × IsKeptIn batch x) same (omega (arith, one.numbered, last, front.count_is), one.kept_in)

pub one_more : (batch : List Specification) (number : ℕ) (s : Specification) (before after : List KeptPlan) → slice_get batch number ≡ Some s → IsKeptBehind s number before after
    → IsOneMore batch number before after
one_more batch number s before after at h = record {
  kept = h.kept;
  numbered = h.numbered;
  kept_in = λ x there.
      at_place (λ (y : Specification). IsKeptFor y h.kept) s x (slice_get batch number) at h.kept_for (subst (λ (n : ℕ). slice_get batch n ≡ Some x) h.numbered there);
  added = h.added;
}

-- the plan at a place is that of the formula there
pub kept_place : (batch : List Specification) (plans : List KeptPlan) (number : ℕ) (kept : KeptPlan) (s : Specification) → AreKept batch (length batch) plans → number < length batch → kept ≡ get_or plans number kept
    → slice_get batch number ≡ Some s → slice_get batch kept.number ≡ Some s
kept_place batch plans number kept s are within is at =
    let here : kept.number ≡ number = (are.each number kept (slice_get_read plans (length plans) number kept refl (omega (arith, within, are.count_is)) is)).0 in
    ap (slice_get batch) here ∙ at
