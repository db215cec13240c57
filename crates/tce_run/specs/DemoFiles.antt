-- The six files of the demonstration.
use Rattle.std.specs.Prelude.{◌≡◌, ◌≢◌, ℕ, zero, suc, ◌≤◌, ◌<◌, List, [], ◌∷◌, codes, Option, OnOk, Result}
use Rattle.std.specs.List.{AllByRecursion}
use Rattle.std.specs.Option.{option_map}
use Rattle.tce_outside.specs.Files.{Files, file, with_file, others}
use Rattle.tce_space.specs.Tiling.{elements}
use Rattle.tce_array.specs.declared.form.Form.TheVariants.{One}
use Rattle.tce_array.specs.Forms.{head_len, array_bytes}
use Rattle.tce_tools.specs.Demo.{drawn, demo_element}
use Rattle.tce_tools.specs.NoHalf.{LeavesNoHalfOf}
use Rattle.tce_spec.specs.Specification.{Specification}
use Rattle.tce_spec.specs.Operands.{shape_of}
use Rattle.tce_job.specs.TensorFiles.{file_of}
use Rattle.tce_job.specs.ResultBytes.{with_result}

abbrev pub demo_names : List (List ℕ)
demo_names = codes "demo.tce" ∷ codes "demoA.tca" ∷ codes "demoB.tca" ∷ codes "demoC.tca" ∷ codes "demoD.tca" ∷ codes "demoS.tca" ∷ []

-- the contents of a file, where the disk tells them
abbrev pub found : List ℕ → Option Files → Option (Option (List ℕ))
found name told = option_map (λ files. file files name) told

-- each file that is none of the six is as it was
abbrev pub DemoOthersStay : Option Files → Option Files → Type 0
DemoOthersStay before after = (name : List ℕ) → AllByRecursion (λ other. name ≢ other) demo_names → found name after ≡ found name before

-- a number that the generator goes on from
abbrev pub IsSeed : ℕ → Type 0
IsSeed x = (1 ≤ x) × (x ≤ 2147483646)

-- the array of a tensor, of the numbers that are drawn after x
abbrev pub with_array : Specification → ℕ → ℕ → Files → Files
with_array s t x files = with_file files (file_of s t) (array_bytes (shape_of s t) (demo_element (shape_of s t) x))

-- the number that was drawn last for it
abbrev pub number_after : Specification → ℕ → ℕ → ℕ
number_after s t x = drawn x (elements (shape_of s t))

-- the number that was drawn last before the array of an operand
abbrev pub number_before : Specification → ℕ → ℕ → ℕ
number_before s seed zero = seed
number_before s seed (suc t) = number_after s t (number_before s seed t)

-- what is left of that array, of the numbers that are drawn after x, wherever its maker ends: the file as it was, absent or beginning with zeros, or whole but for its head
abbrev pub LeavesArray : Specification → ℕ → ℕ → Option Files → Option Files → Type 0
LeavesArray s t x before after = LeavesNoHalfOf (file_of s t) (head_len One (shape_of s t)) (λ _. array_bytes (shape_of s t) (demo_element (shape_of s t) x)) before after

-- and of the arrays of the first four tensors
abbrev pub LeavesArrays : Specification → ℕ → Option Files → Option Files → Type 0
LeavesArrays s seed before after = (t : ℕ) → t < 4 → LeavesArray s t (number_before s seed t) before after

-- the file of the result is as it was
pub record LeavesOperands (s : Specification) (seed : ℕ) (before after : Option Files) : Type 0 where
  pub arrays : LeavesArrays s seed before after
  pub result : found (file_of s s.result) after ≡ found (file_of s s.result) before

-- arrays of tensors, in which the numbers go on from array to array
abbrev pub with_arrays : Specification → List ℕ → ℕ → Files → Files
with_arrays s [] x files = files
with_arrays s (t ∷ ts) x files = with_arrays s ts (number_after s t x) (with_array s t x files)

-- the arrays of the first four tensors
abbrev pub with_operands : Specification → ℕ → Files → Files
with_operands s seed files = with_arrays s (0 ∷ 1 ∷ 2 ∷ 3 ∷ []) seed files

-- the text, the arrays of the operands, and the result
abbrev pub with_input : Specification → ℕ → List ℕ → Files → Files
with_input s seed text files = with_operands s seed (with_file files (codes "demo.tce") text)

abbrev pub with_demo : Specification → ℕ → List ℕ → Files → Files
with_demo s seed text files = with_result s (with_input s seed text files)

-- a call that answers no fault put the array of a tensor, or those of the operands, in the place of their files
abbrev pub PutsArray : {A E : Type 0} → Specification → ℕ → ℕ → Option Files → Option Files → Result A E → Type 0
PutsArray s t x before after result = OnOk result (after ≡ option_map (with_array s t x) before)

abbrev pub PutsOperands : {A E : Type 0} → Specification → ℕ → Option Files → Option Files → Result A E → Type 0
PutsOperands s seed before after result = OnOk result (after ≡ option_map (with_operands s seed) before)

-- no file but that of the tensor differs
abbrev pub OnlyArrayDiffers : Specification → ℕ → Option Files → Option Files → Type 0
OnlyArrayDiffers s t before after = others (file_of s t) after ≡ others (file_of s t) before
