-- What is read of a text and a path.
use Rattle.std.specs.Prelude.{⊤, ℕ, List, length, Result}
use Rattle.std.specs.declared.result.Result.TheVariants.{Ok, Err}
use Rattle.tce_einsum.specs.Text.{Einsum, IsText}
use Rattle.tce_einsum.specs.Sizes.{IsBadSize, AreSized}
use Rattle.tce_einsum.specs.Path.{Item, IsPath, IsBadItem, item_texts}
use Rattle.tce_einsum.specs.Code.{einsum, items}
use Rattle.tce_einsum.specs.declared.input.Input.{Input}
use Rattle.tce_einsum.specs.declared.fault.EinsumFault.{EinsumFault}
use Rattle.tce_einsum.specs.declared.fault.EinsumFault.TheVariants.{BadText, BadSize, BadPath, Spec, Memory}

-- the text has no reading
abbrev pub IsBadText : List ℕ → Type 0
IsBadText text = (e : Einsum) → IsText text e → ⊥

-- an einsum whose labels have one size each, and a path that leaves one entry of its operands
pub record IsInput (text path : List ℕ) (e : Einsum) (is : List Item) : Type 0 where
  pub of_text : IsText text e
  pub sized : AreSized e
  pub of_path : IsPath (length e.operands) path is

-- the text is that of an einsum with this label as the least that has not one size
pub record HasBadSize (text : List ℕ) (label : ℕ) : Type 0 where
  pub einsum : Einsum
  pub of_text : IsText text einsum
  pub bad : IsBadSize einsum label

-- the text and its sizes are right, and this item of the path is the first that is wrong
pub record HasBadItem (text path : List ℕ) (k : ℕ) : Type 0 where
  pub einsum : Einsum
  pub of_text : IsText text einsum
  pub sized : AreSized einsum
  pub bad : IsBadItem (length einsum.operands) (item_texts path) k

-- what is read, or the first fault
abbrev pub AnswersInput : List ℕ → List ℕ → Result Input EinsumFault → Type 0
AnswersInput text path (Ok x) = IsInput text path (einsum x.einsum) (items x.items.items)
AnswersInput text path (Err BadText) = IsBadText text
AnswersInput text path (Err (BadSize label)) = HasBadSize text label
AnswersInput text path (Err (BadPath k)) = HasBadItem text path k
AnswersInput text path (Err (Spec fault)) = ⊥
AnswersInput text path (Err Memory) = ⊤
