-- What the commands on flat files leave and report.
use Rattle.std.specs.Prelude.{◌≡◌, ℕ, List, ◌++◌, Option, codes}
use Rattle.std.specs.Option.{ForSome, IsSomeAnd}
use Rattle.std.specs.Fmt.{decimal}
use Rattle.tce_outside.specs.Files.{Files, file}
use Rattle.tce_space.specs.Tiling.{Tiling}
use Rattle.tce_array.specs.declared.form.Form.{Form}
use Rattle.tce_array.specs.declared.form.Form.TheVariants.{One}
use Rattle.tce_array.specs.Forms.{form_len, form_bytes, array_bytes}
use Rattle.tce_tools.specs.Flat.{flat_bytes, flat_len, flat_element, array_element, contents}
use Rattle.tce_tools.specs.Answers.{HasFlat, HasArray, HasFitting}
use Rattle.tce_tools.specs.Storage.{holding_by}
use Rattle.tce_sym.specs.declared.symmetry.Symmetry.{Symmetry}
use Rattle.tce_sym.specs.Storage.{IsStored, full_cell}
use Rattle.tce_flat.specs.Tensors.{HasTensor, array_file, converted_file, sym_file}

-- the report: the file that was written, and its length in bytes
abbrev pub report_text : List ℕ → List ℕ → ℕ → List ℕ
report_text verb written len = codes "tce " ++ (verb ++ (codes " 1\nwrote " ++ (written ++ (codes " " ++ (decimal len ++ codes "\n")))))

-- the array file of a tensor of this shape has the elements of the flat file
pub record IsPacking (before after : Option Files) (shape : Tiling) (tensor flat report : List ℕ) : Type 0 where
  pub found : ForSome before (λ files. HasFlat shape (file files flat))
  pub written : after ≡ holding_by (array_file tensor) (λ files. array_bytes shape (flat_element shape (contents files flat))) before
  pub reported : report ≡ report_text (codes "pack") (array_file tensor) (form_len One shape)

-- the flat file has the elements of the array file of a tensor of this shape
pub record IsUnpacking (before after : Option Files) (shape : Tiling) (tensor flat report : List ℕ) : Type 0 where
  pub found : ForSome before (λ files. HasArray shape (file files (array_file tensor)))
  pub written : after ≡ holding_by flat (λ files. flat_bytes shape (array_element shape (contents files (array_file tensor)))) before
  pub reported : report ≡ report_text (codes "unpack") flat (flat_len shape)

-- the converted file has the elements of the array file of a tensor of this shape, in this form
pub record IsConverting (before after : Option Files) (shape : Tiling) (tensor : List ℕ) (form : Form) (report : List ℕ) : Type 0 where
  pub found : ForSome before (λ files. HasFitting form shape (file files (array_file tensor)))
  pub written : after ≡ holding_by (converted_file tensor) (λ files. form_bytes form shape (array_element shape (contents files (array_file tensor)))) before
  pub reported : report ≡ report_text (codes "convert") (converted_file tensor) (form_len form shape)

-- the tensor is declared in the file of the specification, and packed, unpacked or converted
pub record IsPacked (before after : Option Files) (spec tensor flat report : List ℕ) : Type 0 where
  pub shape : Tiling
  pub tensor_is : ForSome before (λ files. HasTensor files spec tensor shape)
  pub packing : IsPacking before after shape tensor flat report

pub record IsUnpacked (before after : Option Files) (spec tensor flat report : List ℕ) : Type 0 where
  pub shape : Tiling
  pub tensor_is : ForSome before (λ files. HasTensor files spec tensor shape)
  pub unpacking : IsUnpacking before after shape tensor flat report

pub record IsConverted (before after : Option Files) (spec tensor : List ℕ) (form : Form) (report : List ℕ) : Type 0 where
  pub shape : Tiling
  pub tensor_is : ForSome before (λ files. HasTensor files spec tensor shape)
  pub converting : IsConverting before after shape tensor form report

-- the array file of a tensor of this shape has all elements of which one is stored for each pair
pub record IsExpanding (before after : Option Files) (shape : Tiling) (tensor report : List ℕ) : Type 0 where
  pub symmetry : Symmetry
  pub found : ForSome before (λ files. IsSomeAnd (file files (sym_file tensor)) (λ bytes. IsStored shape.extents symmetry bytes))
  pub written : after ≡ holding_by (array_file tensor) (λ files. array_bytes shape (full_cell shape.extents symmetry (contents files (sym_file tensor)))) before
  pub reported : report ≡ report_text (codes "expand") (array_file tensor) (form_len One shape)

pub record IsExpanded (before after : Option Files) (spec tensor report : List ℕ) : Type 0 where
  pub shape : Tiling
  pub tensor_is : ForSome before (λ files. HasTensor files spec tensor shape)
  pub expanding : IsExpanding before after shape tensor report
