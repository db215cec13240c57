-- Different tensors have different files.
use Rattle.std.proofs.Common.{◌≡◌, ℕ, ◌<◌, List, length, map, inl, inr, sym, ◌∙◌, arith, codes}
use Rattle.std.specs.Str.{bytes_eq}
use Rattle.std.proofs.lemmas.Bool.{cases_lt, true≢false}
use Rattle.std.proofs.lemmas.List.{append_cancel_right, get_or-map, length-map}
use Rattle.std.proofs.lemmas.Map.Keys.{apart_from_distinct}
use Rattle.std.proofs.lemmas.Slice.Eq.{bytes_eq-Decides}
use Rattle.tce_spec.specs.Declarations.{Tensor, IsDeclarations, no_tensor}
use Rattle.tce_spec.specs.Specification.{Specification}
use Rattle.tce_job.specs.TensorFiles.{name_of, file_of}
use Rattle.tce_job.specs.ResultLaws.{IsTensorOf}

-- a later tensor has another name
later : (s : Specification) (t u : ℕ) → IsDeclarations s.declarations → t < u → IsTensorOf s u → name_of s t ≡ name_of s u → ⊥
later s t u d before h same =
    let tensors : List Tensor = s.declarations.tensors in
    let names : List (List ℕ) = map (λ (x : Tensor). x.name) tensors in
    let within : u < length names = omega (arith, length-map tensors (λ (x : Tensor). x.name)) in
    let apart = apart_from_distinct bytes_eq names t u (no_tensor.name) d.tensor_names before within in
    let first = get_or-map (λ (x : Tensor). x.name) tensors t no_tensor (no_tensor.name) (omega arith) in
    let second = get_or-map (λ (x : Tensor). x.name) tensors u no_tensor (no_tensor.name) h in
    true≢false (sym ((bytes_eq-Decides _ _).1 (first ∙ same ∙ sym second)) ∙ apart)

pub different_files : (s : Specification) (t u : ℕ) → IsDeclarations s.declarations → IsTensorOf s t → IsTensorOf s u → file_of s t ≡ file_of s u → t ≡ u
different_files s t u d h k same =
    let names : name_of s t ≡ name_of s u = append_cancel_right (name_of s t) (name_of s u) (codes ".tca") same in
    elim (cases_lt t u) [
      | inl before ↦ absurd (later s t u d before k names)
      | inr past ↦ elim (cases_lt u t) [
        | inl before ↦ absurd (later s u t d before h (sym names))
        | inr not_past ↦ omega arith
      ]
    ]
