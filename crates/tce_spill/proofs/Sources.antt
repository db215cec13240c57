-- The tensors of a piece: their files, their shapes, and that they are apart.
use Rattle.std.proofs.Common.{◌≡◌, ◌≢◌, ℕ, ◌+◌, ◌<◌, true, cond, ◌++◌, length, get_or, eq-eqb, ne_eqb, codes, sym, ap, ◌∙◌, subst, inr, arith}
use Rattle.std.proofs.lemmas.List.{append_cancel_right}
use Rattle.std.proofs.lemmas.List.Elements.{All-from_recursion}
use Rattle.tce_space.specs.Space.{tiling_of}
use Rattle.tce_space.specs.Tiling.{Tiling}
use Rattle.tce_tree.specs.ContractionTree.{operations}
use Rattle.tce_spec.specs.Declarations.{Tensor, HaveNames, tensor_at}
use Rattle.tce_spec.specs.Contraction.{has_tensor}
use Rattle.tce_spec.specs.Pieces.{Cuts, stored}
use Rattle.tce_spec.specs.Storable.{shape_of_node}
use Rattle.tce_spec.specs.Specification.{Specification, IsSpecification}
use Rattle.tce_spec.specs.Operands.{shape_of}
use Rattle.tce_spec.specs.PieceSpecification.{CanCut, source, sources, target, array_of, piece_of}
use Rattle.tce_spec.proofs.PieceSources.{source_declared, source_stored, own_source, own_last}
use Rattle.tce_spec.proofs.PieceNames.{IsTensorOrArray, names_apart, storable_has}
use Rattle.tce_spec.proofs.Seen.{operand_declared}
use Rattle.tce_job.specs.TensorFiles.{file_of}
use Rattle.tce_job.specs.Laws.{IsOperand}
use Rattle.tce_job.proofs.Operands.{is_operand}
use Rattle.tce_spill.specs.PieceRuns.{source_file}
use Rattle.tce_spill.proofs.PieceReads.{IsReadOf, reads}

-- the shape of a tensor or an array
abbrev pub source_shape : Specification → ℕ → Tiling
source_shape s t = tiling_of s.declarations.space (source s t).ranges

-- a declared tensor
pub operand_is_declared : (s : Specification) (t : ℕ) → IsSpecification s → has_tensor t s.tree ≡ true → t < length s.declarations.tensors
operand_is_declared s t rules used =
    let at : IsOperand s t = is_operand s t used in
    subst (λ u. u < length s.declarations.tensors) at.is (operand_declared s rules.contraction.leaves_fit at.number at.within)

pub file_is : (s : Specification) (t : ℕ) → t < 32 → source_file s t ≡ file_of s t
file_is s t low = ap (λ (x : Tensor). x.name ++ codes ".tca") (source_declared s t low)

pub shape_is : (s : Specification) (t : ℕ) → t < 32 → source_shape s t ≡ shape_of s t
shape_is s t low = ap (λ (x : Tensor). tiling_of s.declarations.space x.ranges) (source_declared s t low)

pub array_shape : (s : Specification) (v : ℕ) → source_shape s (stored v) ≡ shape_of_node s.declarations.space s.tree v
array_shape s v = ap (λ (x : Tensor). tiling_of s.declarations.space x.ranges) (source_stored s v)

-- what the piece reads, by its own numbers
pub own_file : (s : Specification) (cut : Cuts) (v k : ℕ) → k < length (sources s cut v) → file_of (piece_of s cut v) k ≡ source_file s (get_or (sources s cut v) k 0)
own_file s cut v k less = ap (λ (x : Tensor). x.name ++ codes ".tca") (own_source s (sources s cut v) (target s v) k less)

pub own_shape : (s : Specification) (cut : Cuts) (v k : ℕ) → k < length (sources s cut v) → shape_of (piece_of s cut v) k ≡ source_shape s (get_or (sources s cut v) k 0)
own_shape s cut v k less = ap (λ (x : Tensor). tiling_of s.declarations.space x.ranges) (own_source s (sources s cut v) (target s v) k less)

pub own_read : (s : Specification) (cut : Cuts) (v k : ℕ) → v < operations s.tree → k < length (sources s cut v) → IsReadOf s cut v (get_or (sources s cut v) k 0)
own_read s cut v k inside less = All-from_recursion (IsReadOf s cut v) (sources s cut v) (reads s cut v inside) k 0 less

-- what it computes
pub target_last : (s : Specification) (v : ℕ) → v + 1 ≡ operations s.tree → target s v ≡ tensor_at s.declarations s.result
target_last s v last = ap (λ b. cond b (tensor_at s.declarations s.result) (array_of s v)) (eq-eqb (v + 1) (operations s.tree) last)

pub target_array : (s : Specification) (v : ℕ) → (v + 1 ≡ operations s.tree → ⊥) → target s v ≡ source s (stored v)
target_array s v other = ap (λ b. cond b (tensor_at s.declarations s.result) (array_of s v)) (ne_eqb (v + 1) (operations s.tree) other) ∙ sym (source_stored s v)

pub result_file : (s : Specification) (cut : Cuts) (v : ℕ) (t : Tensor) → target s v ≡ t → file_of (piece_of s cut v) (piece_of s cut v).result ≡ t.name ++ codes ".tca"
result_file s cut v t is = ap (λ (x : Tensor). x.name ++ codes ".tca") (own_last s (sources s cut v) (target s v) ∙ is)

pub result_shape : (s : Specification) (cut : Cuts) (v : ℕ) (t : Tensor) → target s v ≡ t → shape_of (piece_of s cut v) (piece_of s cut v).result ≡ tiling_of s.declarations.space t.ranges
result_shape s cut v t is = ap (λ (x : Tensor). tiling_of s.declarations.space x.ranges) (own_last s (sources s cut v) (target s v) ∙ is)

-- different ones have different files
pub files_apart : (s : Specification) (t u : ℕ) → IsSpecification s → HaveNames s.declarations.tensors → IsTensorOrArray s t → IsTensorOrArray s u → t ≢ u → source_file s t ≢ source_file s u
files_apart s t u rules names a b other same =
    other (names_apart s t u rules.declarations names a b (append_cancel_right (source s t).name (source s u).name (codes ".tca") same))

pub stored_is : (s : Specification) (v : ℕ) → v < operations s.tree → IsSpecification s → IsTensorOrArray s (stored v)
stored_is s v inside rules = inr (omega arith, omega (arith, inside, rules.few))

-- the shape of a cut node's array, as the result of its piece
pub array_words : (s : Specification) (cut : Cuts) (v : ℕ) (p : Specification) (t : ℕ) (shape : Tiling) → CanCut s cut v → cut v ≡ true → p ≡ piece_of s cut v → t ≡ p.result → shape ≡ shape_of p t
    → shape ≡ shape_of_node s.declarations.space s.tree v
array_words s cut v p t shape can is_cut is number found =
    let at = storable_has s.declarations.space s.tree v (can.allowed v is_cut) in
    found ∙ ap (shape_of p) number ∙ ap (λ (q : Specification). shape_of q q.result) is
    ∙ result_shape s cut v (source s (stored v)) (target_array s v (λ last. omega (arith, last, at.below))) ∙ array_shape s v
