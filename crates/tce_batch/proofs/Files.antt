-- The files that formulas leave: the operands of each are there.
use Rattle.std.proofs.Common.{◌≡◌, ◌≢◌, ℕ, suc, ◌+◌, ◌<◌, Bool, true, false, List, [], ◌∷◌, ◌++◌, length, map, take, eqb, eqb-true, eq-eqb, Option, Some, None, All, codes, refl, sym, subst, ◌∙◌, ap, arith}
use Rattle.std.specs.Prelude.{slice_get, IsSomeAnd}
use Rattle.std.specs.Option.{option_map}
use Rattle.std.proofs.Math.Seq.{take-suc}
use Rattle.std.proofs.lemmas.Bool.{true≢false}
use Rattle.std.proofs.lemmas.Option.{slice_get_within, get_or_from_slice_get}
use Rattle.tce_outside.specs.Files.{Files, file}
use Rattle.tce_outside.proofs.Files.{without_file-with_file, file-with_file}
use Rattle.tce_outside.proofs.Told.{other_files}
use Rattle.tce_space.specs.Space.{tiling_of}
use Rattle.tce_array.specs.declared.form.Form.TheVariants.{One}
use Rattle.tce_array.specs.Forms.{form_of, IsForm, IsArray}
use Rattle.tce_array.proofs.FormOf.{form_of_file}
use Rattle.tce_spec.specs.Declarations.{Declarations, tensor_at}
use Rattle.tce_spec.specs.Specification.{Specification, IsSpecification}
use Rattle.tce_spec.specs.Operands.{shape_of}
use Rattle.tce_job.specs.TensorFiles.{file_of, bytes_in}
use Rattle.tce_job.specs.ResultLaws.{IsTensorOf}
use Rattle.tce_job.specs.ResultBytes.{with_result, result_bytes}
use Rattle.tce_job.proofs.Names.{different_files}
use Rattle.tce_job.proofs.Results.{result_holds}
use Rattle.tce_job.specs.Opened.{HasArray}
use Rattle.tce_batch.specs.Refusals.{IsSource}
use Rattle.tce_job.specs.Several.{files_after}
use Rattle.tce_job.proofs.Several.{after_more}
use Rattle.tce_batch.specs.Left.{files_at}

-- one formula more
pub take_one : (batch : List Specification) (number : ℕ) (s : Specification) → slice_get batch number ≡ Some s → take (number + 1) batch ≡ take number batch ++ s ∷ []
take_one batch number s at =
    let on : number + 1 ≡ suc number = omega arith in
    ap (λ n. take n batch) on ∙ take-suc batch number s (slice_get_within batch number s at) ∙ ap (λ x. take number batch ++ x ∷ []) (get_or_from_slice_get batch number s s at)

pub told_more : (before now after : Option Files) (batch : List Specification) (number : ℕ) (s : Specification) → slice_get batch number ≡ Some s
    → now ≡ files_at before batch number → after ≡ option_map (with_result s) now → after ≡ files_at before batch (number + 1)
told_more before now after batch number s at is then = then ∙ ap (option_map (with_result s)) is ∙ by_told before
  where
    by_told : (told : Option Files) → option_map (with_result s) (files_at told batch number) ≡ files_at told batch (number + 1)
    by_told None = refl
    by_told (Some files) = ap Some (sym (after_more (take number batch) s files) ∙ ap (λ ss. files_after ss files) (sym (take_one batch number s at)))

-- before any formula
pub none_after : (told : Option Files) (batch : List Specification) → told ≡ files_at told batch 0
none_after None batch = refl
none_after (Some files) batch = refl

-- the file of the result of a formula is there, under any specification with the same declarations
made_here : (x s : Specification) (files : Files) (t : ℕ) → IsSpecification x → x.declarations ≡ s.declarations → t ≡ x.result → HasArray (with_result x files) s t
made_here x s files t rules same is =
    let name : file_of s t ≡ file_of x x.result = ap (λ (d : Declarations). (tensor_at d t).name ++ codes ".tca") (sym same) ∙ ap (file_of x) is in
    let shape : shape_of x x.result ≡ shape_of s t = sym (ap (λ (d : Declarations). tiling_of d.space (tensor_at d t).ranges) (sym same) ∙ ap (shape_of x) is) in
    let found : file (with_result x files) (file_of s t) ≡ Some (result_bytes x files) = ap (file (with_result x files)) name ∙ file-with_file files (file_of x x.result) (result_bytes x files) in
    let form : IsForm One (shape_of x x.result) (result_bytes x files) = (result_holds x (bytes_in files x) rules).array in
    let is_one : form_of (result_bytes x files) ≡ One = form_of_file One (shape_of x x.result) (result_bytes x files) form in
    let array : IsArray (shape_of x x.result) (result_bytes x files) = subst (λ f. IsForm f (shape_of x x.result) (result_bytes x files)) (sym is_one) form in
    subst (λ o. IsSomeAnd o (IsArray (shape_of s t))) (sym found) (subst (λ tiling. IsArray tiling (result_bytes x files)) shape array)

-- and another file is as it was
other_here : (x s : Specification) (files : Files) (t : ℕ) → IsSpecification x → IsSpecification s → IsTensorOf s t → x.declarations ≡ s.declarations → t ≢ x.result → HasArray files s t → HasArray (with_result x files) s t
other_here x s files t rules here declared same differs has =
    let name : file_of s x.result ≡ file_of x x.result = ap (λ (d : Declarations). (tensor_at d x.result).name ++ codes ".tca") (sym same) in
    let within : IsTensorOf s x.result = subst (λ (d : Declarations). x.result < length d.tensors) same rules.contraction.result_fits.declared in
    let apart : file_of s t ≢ file_of x x.result = λ e. differs (different_files s t x.result here.declarations declared within (e ∙ sym name)) in
    let kept : file (with_result x files) (file_of s t) ≡ file files (file_of s t) =
    other_files (file_of x x.result) (file_of s t) files (with_result x files) (ap Some (without_file-with_file files (file_of x x.result) (result_bytes x files))) apart in
    subst (λ o. IsSomeAnd o (IsArray (shape_of s t))) (sym kept) has

pub all_first : (P : Specification → Type 0) (x : Specification) (xs : List Specification) → All P (x ∷ xs) → P x
all_first P x xs all = all 0 x (omega arith)

pub all_rest : (P : Specification → Type 0) (x : Specification) (xs : List Specification) → All P (x ∷ xs) → All P xs
all_rest P x xs all k d less = all (suc k) d (omega (arith, less))

-- a tensor has its file if a formula in front made it, or if it had it at the start
pub has_after : (ss : List Specification) (files : Files) (s : Specification) (t : ℕ) → IsSpecification s → IsTensorOf s t → All (λ (x : Specification). x.declarations ≡ s.declarations) ss → All IsSpecification ss
    → (IsSource (map (λ (x : Specification). x.result) ss) t → HasArray files s t) → HasArray (files_after ss files) s t
has_after [] files s t here declared same rules has = has refl
has_after (x ∷ ss) files s t here declared same rules has = has_after ss (with_result x files) s t here declared (all_rest Over x ss same) (all_rest IsSpecification x ss rules) (λ source. by_result (eqb t x.result) refl source)
  where
    Over : Specification → Type 0
    Over y = y.declarations ≡ s.declarations

    by_result : (made : Bool) → eqb t x.result ≡ made → IsSource (map (λ (y : Specification). y.result) ss) t → HasArray (with_result x files) s t
    by_result true e source = made_here x s files t (all_first IsSpecification x ss rules) (all_first Over x ss same) (eqb-true t x.result e)
    by_result false e source =
        other_here x s files t (all_first IsSpecification x ss rules) here declared (all_first Over x ss same) (λ is. true≢false (sym (eq-eqb t x.result is) ∙ e)) (has (rw e source))
