-- The file of a result.
use Rattle.std.proofs.Common.{◌≡◌, ℕ, true, List, [], Option, Some, unwrap_or, eqb-true, inl, inr, sym, ap, ◌∙◌, subst}
use Rattle.std.proofs.lemmas.Bool.{true≢false, or_cases}
use Rattle.tce_outside.specs.Files.{Files, file, with_file}
use Rattle.tce_outside.proofs.Files.{without_file-with_file}
use Rattle.tce_outside.proofs.Told.{other_files}
use Rattle.tce_space.specs.Space.{extent_at}
use Rattle.tce_space.specs.Tiling.{IsTiling}
use Rattle.tce_array.specs.declared.form.Form.TheVariants.{One}
use Rattle.tce_array.specs.Forms.{form_of, cell, form_bytes}
use Rattle.tce_array.specs.Files.{AreBytes}
use Rattle.tce_array.proofs.Contents.{form_bytes_is, cell_of_file}
use Rattle.tce_array.proofs.Fitting.{words_fit}
use Rattle.tce_array.proofs.Padding.{padding_is_zero}
use Rattle.tce_array.proofs.Told.{told_by_elements}
use Rattle.tce_tree.specs.ContractionTree.{ContractionTree, leaf, constant, binary, sum}
use Rattle.tce_tree.specs.Value.{assignment}
use Rattle.tce_tree.proofs.Values.{value-lt}
use Rattle.tce_spec.specs.Contraction.{LeavesFit, has_tensor}
use Rattle.tce_spec.specs.Specification.{Specification, IsSpecification}
use Rattle.tce_spec.specs.Operands.{shape_of}
use Rattle.tce_job.specs.TensorFiles.{file_of, bytes_in, elements}
use Rattle.tce_job.specs.ResultBytes.{result_element, result_from, result_bytes}
use Rattle.tce_job.specs.ResultLaws.{IsTensorOf, HoldsValues, IsPadded}
use Rattle.tce_job.proofs.Shapes.{shapes_are_tilings}
use Rattle.tce_job.proofs.Names.{different_files}
use Rattle.tce_job.proofs.Agreement.{same_values}

-- the shape of the result
pub result_tiling : (s : Specification) → IsSpecification s → IsTiling (shape_of s s.result)
result_tiling s rules = shapes_are_tilings s s.result rules.declarations rules.contraction.result_fits.declared

pub result_holds : (s : Specification) (bytes : ℕ → List ℕ) → IsSpecification s → HoldsValues s bytes (result_from s bytes)
result_holds s bytes rules = record {
  array = form_bytes_is One (shape_of s s.result) (result_element s bytes);
  values = λ coords inside.
      cell_of_file One (shape_of s s.result) (result_element s bytes) (result_tiling s rules) coords inside
      (words_fit.eight (result_element s bytes coords) (value-lt (elements s bytes) s.tree (assignment s.indexes coords))).0;
}

pub result_padded : (s : Specification) (bytes : ℕ → List ℕ) → IsSpecification s → IsPadded s (result_from s bytes)
result_padded s bytes rules = padding_is_zero One (shape_of s s.result) (result_element s bytes) (result_tiling s rules)

pub result_told : (s : Specification) (bytes : ℕ → List ℕ) (file : List ℕ) → IsSpecification s → HoldsValues s bytes file → IsPadded s file → AreBytes file → file ≡ result_from s bytes
result_told s bytes file rules holds padded are_bytes =
    told_by_elements One (shape_of s s.result) (result_element s bytes) file (result_tiling s rules) holds.array are_bytes holds.values padded

-- the tensors of a tree are declared
tensor_declared : (s : Specification) (tree : ContractionTree) (t : ℕ) → LeavesFit s.declarations tree → has_tensor t tree ≡ true → IsTensorOf s t
tensor_declared s (leaf u is) t fits h = subst (IsTensorOf s) (eqb-true u t h) fits.declared
tensor_declared s (constant n) t fits h = absurd (true≢false (sym h))
tensor_declared s (binary op l r) t fits h =
    elim (or_cases (has_tensor t l) (has_tensor t r) h) [
      | inl left ↦ tensor_declared s l t fits.0 left
      | inr right ↦ tensor_declared s r t fits.1 right
    ]
tensor_declared s (sum is x) t fits h = tensor_declared s x t fits h

-- an operand's file is not the result's
operand_file : (s : Specification) (t : ℕ) → IsSpecification s → has_tensor t s.tree ≡ true → file_of s t ≡ file_of s s.result → ⊥
operand_file s t rules h same =
    let is_result : t ≡ s.result = different_files s t s.result rules.declarations (tensor_declared s s.tree t rules.contraction.leaves_fit h) rules.contraction.result_fits.declared same in
    true≢false (sym h ∙ ap (λ u. has_tensor u s.tree) is_result ∙ rules.contraction.no_operand)

pub result_before : (s : Specification) (files : Files) (old : List ℕ) → IsSpecification s → result_bytes s (with_file files (file_of s s.result) old) ≡ result_bytes s files
result_before s files old rules =
    let bytes : Files → ℕ → List ℕ = λ fs t. bytes_in fs s t in
    let new : Files = with_file files (file_of s s.result) old in
    let cells : Files → ℕ → List ℕ → ℕ = λ fs t coords. cell (form_of (bytes fs t)) (shape_of s t) (bytes fs t) coords in
    ap (form_bytes One (shape_of s s.result)) (λ i coords.
    same_values (extent_at s.declarations.space) (cells new) (cells files) s.tree
    (λ t xs h. ap (λ (found : Option (List ℕ)). cell (form_of (unwrap_or found [])) (shape_of s t) (unwrap_or found []) xs)
    (other_files (file_of s s.result) (file_of s t) files new (ap Some (without_file-with_file files (file_of s s.result) old)) (operand_file s t rules h)))
    (assignment s.indexes coords) i)
