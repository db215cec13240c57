-- What is left of the arrays of the operands, wherever their maker ends.
use Rattle.std.proofs.Common.{◌≡◌, ◌≢◌, ◌∙◌, ℕ, zero, suc, ◌+◌, ◌<◌, ◌≤◌, nat_eq, List, slice_index, Option, Some, None, inl, inr, refl, sym, ap, subst, arith, codes}
use Rattle.std.proofs.lemmas.Bool.{cases_lt, true≢false}
use Rattle.std.proofs.lemmas.Option.{none-some}
use Rattle.tce_outside.specs.Files.{Files, file, others}
use Rattle.tce_array.specs.Files.{LeavesNoHalf}
use Rattle.tce_tools.specs.NoHalf.{LeavesNoHalfOf}
use Rattle.tce_spec.specs.Specification.{Specification}
use Rattle.tce_job.specs.TensorFiles.{file_of}
use Rattle.tce_run.specs.DemoSpecification.{IsDemo, demo_specification}
use Rattle.tce_run.specs.DemoFiles.{found, number_before, LeavesArray, LeavesOperands}
use Rattle.tce_run.proofs.OtherFiles.{same_found}

-- what is left of a file stays so where the file stays as it is
pub left_then : (name : List ℕ) (last : ℕ) (whole : List ℕ) (before middle after : Option Files) → LeavesNoHalfOf name last (λ _. whole) before middle → found name after ≡ found name middle
    → LeavesNoHalfOf name last (λ _. whole) before after
left_then name last whole before None after left same fs told gs here = absurd (none-some (file gs name) (sym same ∙ ap (found name) here))
left_then name last whole before (Some ms) after left same fs told gs here =
    let both : Some (file gs name) ≡ Some (file ms name) = ap (found name) (sym here) ∙ same in
    let is : file ms name ≡ file gs name = cc in
    subst (LeavesNoHalf last whole (file fs name)) is (left fs told ms refl)

-- and it is left so of the file that was there before
pub left_from : (name : List ℕ) (last : ℕ) (whole : List ℕ) (before middle after : Option Files) → found name middle ≡ found name before → LeavesNoHalfOf name last (λ _. whole) middle after
    → LeavesNoHalfOf name last (λ _. whole) before after
left_from name last whole before None after same left fs told gs here = absurd (none-some (file fs name) (same ∙ ap (found name) told))
left_from name last whole before (Some ms) after same left fs told gs here =
    let both : Some (file ms name) ≡ Some (file fs name) = same ∙ ap (found name) told in
    let is : file ms name ≡ file fs name = cc in
    subst (λ o. LeavesNoHalf last whole o (file gs name)) is (left ms refl gs here)

pub kept : (name : List ℕ) (last : ℕ) (whole : Files → List ℕ) (before after : Option Files) → found name after ≡ found name before → LeavesNoHalfOf name last whole before after
kept name last whole before after same fs told gs here =
    let both : Some (file gs name) ≡ Some (file fs name) = ap (found name) (sym here) ∙ same ∙ ap (found name) told in
    inl cc

-- so many of the arrays may be there, and the others are as they were
pub record AreLeft (s : Specification) (seed count : ℕ) (before after : Option Files) : Type 0 where
  pub made : (t : ℕ) → t < count → LeavesArray s t (number_before s seed t) before after
  pub same : (t : ℕ) → count ≤ t → t < 5 → found (file_of s t) after ≡ found (file_of s t) before

pub none_left : (s : Specification) (seed : ℕ) (before : Option Files) → AreLeft s seed 0 before before
none_left s seed before = record { made = λ t lt. absurd (omega arith); same = λ t le lt. refl }

-- different tensors have different files
apart_in : (v o t u : ℕ) → t < 5 → u < 5 → t ≢ u → file_of (demo_specification v o) t ≢ file_of (demo_specification v o) u
apart_in v o zero zero ht hu other = absurd (other refl)
apart_in v o zero (suc zero) ht hu other = λ e. true≢false (ap (λ xs. nat_eq (slice_index xs 4) 65) e)
apart_in v o zero (suc (suc zero)) ht hu other = λ e. true≢false (ap (λ xs. nat_eq (slice_index xs 4) 65) e)
apart_in v o zero (suc (suc (suc zero))) ht hu other = λ e. true≢false (ap (λ xs. nat_eq (slice_index xs 4) 65) e)
apart_in v o zero (suc (suc (suc (suc zero)))) ht hu other = λ e. true≢false (ap (λ xs. nat_eq (slice_index xs 4) 65) e)
apart_in v o (suc zero) zero ht hu other = λ e. true≢false (ap (λ xs. nat_eq (slice_index xs 4) 66) e)
apart_in v o (suc zero) (suc zero) ht hu other = absurd (other refl)
apart_in v o (suc zero) (suc (suc zero)) ht hu other = λ e. true≢false (ap (λ xs. nat_eq (slice_index xs 4) 66) e)
apart_in v o (suc zero) (suc (suc (suc zero))) ht hu other = λ e. true≢false (ap (λ xs. nat_eq (slice_index xs 4) 66) e)
apart_in v o (suc zero) (suc (suc (suc (suc zero)))) ht hu other = λ e. true≢false (ap (λ xs. nat_eq (slice_index xs 4) 66) e)
apart_in v o (suc (suc zero)) zero ht hu other = λ e. true≢false (ap (λ xs. nat_eq (slice_index xs 4) 67) e)
apart_in v o (suc (suc zero)) (suc zero) ht hu other = λ e. true≢false (ap (λ xs. nat_eq (slice_index xs 4) 67) e)
apart_in v o (suc (suc zero)) (suc (suc zero)) ht hu other = absurd (other refl)
apart_in v o (suc (suc zero)) (suc (suc (suc zero))) ht hu other = λ e. true≢false (ap (λ xs. nat_eq (slice_index xs 4) 67) e)
apart_in v o (suc (suc zero)) (suc (suc (suc (suc zero)))) ht hu other = λ e. true≢false (ap (λ xs. nat_eq (slice_index xs 4) 67) e)
apart_in v o (suc (suc (suc zero))) zero ht hu other = λ e. true≢false (ap (λ xs. nat_eq (slice_index xs 4) 68) e)
apart_in v o (suc (suc (suc zero))) (suc zero) ht hu other = λ e. true≢false (ap (λ xs. nat_eq (slice_index xs 4) 68) e)
apart_in v o (suc (suc (suc zero))) (suc (suc zero)) ht hu other = λ e. true≢false (ap (λ xs. nat_eq (slice_index xs 4) 68) e)
apart_in v o (suc (suc (suc zero))) (suc (suc (suc zero))) ht hu other = absurd (other refl)
apart_in v o (suc (suc (suc zero))) (suc (suc (suc (suc zero)))) ht hu other = λ e. true≢false (ap (λ xs. nat_eq (slice_index xs 4) 68) e)
apart_in v o (suc (suc (suc (suc zero)))) zero ht hu other = λ e. true≢false (ap (λ xs. nat_eq (slice_index xs 4) 83) e)
apart_in v o (suc (suc (suc (suc zero)))) (suc zero) ht hu other = λ e. true≢false (ap (λ xs. nat_eq (slice_index xs 4) 83) e)
apart_in v o (suc (suc (suc (suc zero)))) (suc (suc zero)) ht hu other = λ e. true≢false (ap (λ xs. nat_eq (slice_index xs 4) 83) e)
apart_in v o (suc (suc (suc (suc zero)))) (suc (suc (suc zero))) ht hu other = λ e. true≢false (ap (λ xs. nat_eq (slice_index xs 4) 83) e)
apart_in v o (suc (suc (suc (suc zero)))) (suc (suc (suc (suc zero)))) ht hu other = absurd (other refl)
apart_in v o (suc (suc (suc (suc (suc t))))) u ht hu other = absurd (omega arith)
apart_in v o t (suc (suc (suc (suc (suc u))))) ht hu other = absurd (omega arith)

pub apart : (s : Specification) → IsDemo s → (t u : ℕ) → t < 5 → u < 5 → t ≢ u → file_of s t ≢ file_of s u
apart s d t u ht hu other = subst (λ (x : Specification). file_of x t ≢ file_of x u) (sym d.is) (apart_in d.v d.o t u ht hu other)

pub result_is_last : (s : Specification) → IsDemo s → s.result ≡ 4
result_is_last s d = ap (λ (x : Specification). x.result) d.is

pub one_more : (s : Specification) → IsDemo s → (seed count x : ℕ) (before middle after : Option Files) → count < 4 → x ≡ number_before s seed count → AreLeft s seed count before middle
    → others (file_of s count) after ≡ others (file_of s count) middle → LeavesArray s count x middle after → AreLeft s seed (count + 1) before after
one_more s d seed count x before middle after few is so alone left = record {
  made = λ t lt. elim (cases_lt t count) [
    | inl low ↦ left_then (file_of s t) _ _ before middle after (so.made t low) (same_found (file_of s count) middle after alone (file_of s t) (apart s d t count (omega arith) (omega arith) (λ e. omega arith)))
    | inr high ↦
        let at : count ≡ t = omega arith in
        subst (λ u. LeavesArray s u (number_before s seed u) before after) at
        (subst (λ y. LeavesArray s count y before after) is (left_from (file_of s count) _ _ before middle after (so.same count (omega arith) (omega arith)) left))
  ];
  same = λ t le lt. same_found (file_of s count) middle after alone (file_of s t) (apart s d t count lt (omega arith) (λ e. omega arith)) ∙ so.same t (omega arith) lt;
}

result_same : (s : Specification) → IsDemo s → (before after : Option Files) → found (file_of s 4) after ≡ found (file_of s 4) before → found (file_of s s.result) after ≡ found (file_of s s.result) before
result_same s d before after same = subst (λ t. found (file_of s t) after ≡ found (file_of s t) before) (sym (result_is_last s d)) same

pub operands_left : (s : Specification) → IsDemo s → (seed count : ℕ) (before after : Option Files) → count ≤ 4 → AreLeft s seed count before after → LeavesOperands s seed before after
operands_left s d seed count before after few so = record {
  arrays = λ t lt. elim (cases_lt t count) [
    | inl low ↦ so.made t low
    | inr high ↦ kept (file_of s t) _ _ before after (so.same t high (omega arith))
  ];
  result = result_same s d before after (so.same 4 few (omega arith));
}

-- the text of the specification stands in a file of its own
named_apart : (v o t : ℕ) → t < 5 → file_of (demo_specification v o) t ≢ codes "demo.tce"
named_apart v o zero h = λ e. true≢false (ap (λ xs. nat_eq (slice_index xs 4) 65) e)
named_apart v o (suc zero) h = λ e. true≢false (ap (λ xs. nat_eq (slice_index xs 4) 66) e)
named_apart v o (suc (suc zero)) h = λ e. true≢false (ap (λ xs. nat_eq (slice_index xs 4) 67) e)
named_apart v o (suc (suc (suc zero))) h = λ e. true≢false (ap (λ xs. nat_eq (slice_index xs 4) 68) e)
named_apart v o (suc (suc (suc (suc zero)))) h = λ e. true≢false (ap (λ xs. nat_eq (slice_index xs 4) 83) e)
named_apart v o (suc (suc (suc (suc (suc t))))) h = absurd (omega arith)

text_apart : (s : Specification) → IsDemo s → (t : ℕ) → t < 5 → file_of s t ≢ codes "demo.tce"
text_apart s d t h = subst (λ (x : Specification). file_of x t ≢ codes "demo.tce") (sym d.is) (named_apart d.v d.o t h)

beside_text : (s : Specification) → IsDemo s → (before after : Option Files) → others (codes "demo.tce") after ≡ others (codes "demo.tce") before → (t : ℕ) → t < 5 → found (file_of s t) after ≡ found (file_of s t) before
beside_text s d before after same t lt = same_found (codes "demo.tce") before after same (file_of s t) (text_apart s d t lt)

pub text_left : (s : Specification) → IsDemo s → (seed : ℕ) (before after : Option Files) → others (codes "demo.tce") after ≡ others (codes "demo.tce") before → LeavesOperands s seed before after
text_left s d seed before after same = record {
  arrays = λ t lt. kept (file_of s t) _ _ before after (beside_text s d before after same t (omega arith));
  result = result_same s d before after (beside_text s d before after same 4 (omega arith));
}

pub left_behind_text : (s : Specification) → IsDemo s → (seed : ℕ) (before middle after : Option Files) → others (codes "demo.tce") middle ≡ others (codes "demo.tce") before → LeavesOperands s seed middle after
    → LeavesOperands s seed before after
left_behind_text s d seed before middle after same left = record {
  arrays = λ t lt. left_from (file_of s t) _ _ before middle after (beside_text s d before middle same t (omega arith)) (left.arrays t lt);
  result = left.result ∙ result_same s d before middle (beside_text s d before middle same 4 (omega arith));
}
