-- What is left of the file that a command on flat files makes, wherever the command ends: the file as it was, absent or beginning with zeros, or whole but for its first bytes, which are written last.
use Rattle.std.specs.Prelude.{◌≡◌, ◌⊎◌, List, ℕ, Option}
use Rattle.std.specs.Option.{ForSome}
use Rattle.tce_outside.specs.Files.{Files}
use Rattle.tce_space.specs.Tiling.{Tiling}
use Rattle.tce_array.specs.declared.form.Form.{Form}
use Rattle.tce_array.specs.declared.form.Form.TheVariants.{One}
use Rattle.tce_array.specs.Forms.{head_len, form_bytes, array_bytes}
use Rattle.tce_tools.specs.Flat.{flat_bytes, flat_element, array_element, contents}
use Rattle.tce_tools.specs.NoHalf.{LeavesNoHalfOf}
use Rattle.tce_sym.specs.declared.symmetry.Symmetry.{Symmetry}
use Rattle.tce_sym.specs.Storage.{full_cell}
use Rattle.tce_flat.specs.Tensors.{HasTensor, array_file, converted_file, sym_file}

-- of the array file of a tensor of this shape, from a flat file
abbrev pub LeavesPacking : List ℕ → List ℕ → Tiling → Option Files → Option Files → Type 0
LeavesPacking tensor flat shape before after = LeavesNoHalfOf (array_file tensor) (head_len One shape) (λ files. array_bytes shape (flat_element shape (contents files flat))) before after

-- of the flat file
abbrev pub LeavesUnpacking : List ℕ → List ℕ → Tiling → Option Files → Option Files → Type 0
LeavesUnpacking tensor flat shape before after = LeavesNoHalfOf flat 262144 (λ files. flat_bytes shape (array_element shape (contents files (array_file tensor)))) before after

-- of the converted file
abbrev pub LeavesConverting : List ℕ → Form → Tiling → Option Files → Option Files → Type 0
LeavesConverting tensor form shape before after = LeavesNoHalfOf (converted_file tensor) (head_len form shape) (λ files. form_bytes form shape (array_element shape (contents files (array_file tensor)))) before after

-- of the array file of a tensor that is stored once for each pair; where the stored elements are refused no file differs
abbrev pub LeavesExpanding : List ℕ → Tiling → Option Files → Option Files → Type 0
LeavesExpanding tensor shape before after =
    (after ≡ before) ⊎ ((s : Symmetry) × LeavesNoHalfOf (array_file tensor) (head_len One shape) (λ files. array_bytes shape (full_cell shape.extents s (contents files (sym_file tensor)))) before after)

-- no file differs, or the tensor is declared in the file of the specification and this is left
abbrev pub LeavesFor : (Tiling → Option Files → Option Files → Type 0) → List ℕ → List ℕ → Option Files → Option Files → Type 0
LeavesFor left spec tensor before after = (after ≡ before) ⊎ ((shape : Tiling) × ForSome before (λ files. HasTensor files spec tensor shape) × left shape before after)
