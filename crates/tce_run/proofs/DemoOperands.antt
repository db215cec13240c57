-- The files of a demonstration have the arrays of its operands, and then that of its result.
use Rattle.std.proofs.Common.{◌≡◌, ◌≢◌, ◌∙◌, ℕ, zero, suc, ◌<◌, List, length, Option, Some, None, sym, subst, arith, codes}
use Rattle.std.proofs.lemmas.Option.{none-some}
use Rattle.std.specs.Option.{ForSome, IsSomeAnd, option_map}
use Rattle.tce_outside.specs.Files.{Files, file, with_file}
use Rattle.tce_outside.proofs.Files.{file-with_file}
use Rattle.tce_space.specs.Tiling.{Tiling}
use Rattle.tce_array.specs.declared.form.Form.{Form}
use Rattle.tce_array.specs.declared.form.Form.TheVariants.{One}
use Rattle.tce_array.specs.Forms.{array_bytes, IsForm, IsArray}
use Rattle.tce_array.proofs.Contents.{form_bytes_is}
use Rattle.tce_array.proofs.FormOf.{form_of_file}
use Rattle.tce_tools.specs.Demo.{demo_element}
use Rattle.tce_tools.proofs.Told.{file_beside}
use Rattle.tce_spec.specs.Declarations.{IsDeclarations}
use Rattle.tce_spec.specs.Specification.{Specification}
use Rattle.tce_spec.specs.Operands.{shape_of}
use Rattle.tce_job.specs.TensorFiles.{file_of, bytes_in}
use Rattle.tce_job.specs.ResultBytes.{with_result, result_bytes, result_element}
use Rattle.tce_job.specs.ResultLaws.{IsTensorOf}
use Rattle.tce_job.proofs.Names.{different_files}
use Rattle.tce_job.specs.Opened.{HasArray, HasOperands, operand_count, operand}
use Rattle.tce_run.specs.DemoSpecification.{IsExtent, IsDemo, demo_specification}
use Rattle.tce_run.specs.DemoFiles.{with_array, number_after, with_operands, with_input}
use Rattle.tce_run.proofs.DemoDeclared.{declarations_fit}

-- a file that is made as an array is one
array_is : (s : Tiling) (element : List ℕ → ℕ) → IsArray s (array_bytes s element)
array_is s element =
    let form : IsForm One s (array_bytes s element) = form_bytes_is One s element in
    subst (λ (f : Form). IsForm f s (array_bytes s element)) (sym (form_of_file One s (array_bytes s element) form)) form

here : (files : Files) (s : Specification) (t x : ℕ) → HasArray (with_array s t x files) s t
here files s t x = subst (λ (o : Option (List ℕ)). IsSomeAnd o (IsArray (shape_of s t))) (sym (file-with_file files (file_of s t) (array_bytes (shape_of s t) (demo_element (shape_of s t) x)))) (array_is (shape_of s t) (demo_element (shape_of s t) x))

beside : (files : Files) (s : Specification) (t u x : ℕ) → IsDeclarations s.declarations → IsTensorOf s t → IsTensorOf s u → t ≢ u → HasArray files s t → HasArray (with_array s u x files) s t
beside files s t u x d ht hu other has =
    subst (λ (o : Option (List ℕ)). IsSomeAnd o (IsArray (shape_of s t))) (sym (file_beside files (file_of s u) (array_bytes (shape_of s u) (demo_element (shape_of s u) x)) (file_of s t) (λ same. other (different_files s t u d ht hu same)))) has

-- the arrays of the four operands
has_tensor : (s : Specification) (x : ℕ) (files : Files) → IsDeclarations s.declarations → 3 < length s.declarations.tensors → (t : ℕ) → t < 4 → HasArray (with_operands s x files) s t
has_tensor s x files d many zero h =
    beside _ s 0 3 _ d (omega (arith, many)) many (λ e. omega arith)
    (beside _ s 0 2 _ d (omega (arith, many)) (omega (arith, many)) (λ e. omega arith)
    (beside _ s 0 1 _ d (omega (arith, many)) (omega (arith, many)) (λ e. omega arith) (here files s 0 x)))
has_tensor s x files d many (suc zero) h =
    beside _ s 1 3 _ d (omega (arith, many)) many (λ e. omega arith)
    (beside _ s 1 2 _ d (omega (arith, many)) (omega (arith, many)) (λ e. omega arith) (here (with_array s 0 x files) s 1 (number_after s 0 x)))
has_tensor s x files d many (suc (suc zero)) h =
    beside _ s 2 3 _ d (omega (arith, many)) many (λ e. omega arith)
    (here (with_array s 1 (number_after s 0 x) (with_array s 0 x files)) s 2 (number_after s 1 (number_after s 0 x)))
has_tensor s x files d many (suc (suc (suc zero))) h =
    here (with_array s 2 (number_after s 1 (number_after s 0 x)) (with_array s 1 (number_after s 0 x) (with_array s 0 x files))) s 3 (number_after s 2 (number_after s 1 (number_after s 0 x)))
has_tensor s x files d many (suc (suc (suc (suc t)))) h = absurd (omega arith)

-- they are those of the formula
operand_below : (v o k : ℕ) → k < 4 → operand (demo_specification v o) k < 4
operand_below v o zero h = omega arith
operand_below v o (suc zero) h = omega arith
operand_below v o (suc (suc zero)) h = omega arith
operand_below v o (suc (suc (suc zero))) h = omega arith
operand_below v o (suc (suc (suc (suc k)))) h = absurd (omega arith)

operands_at : (v o : ℕ) → IsExtent v → IsExtent o → (seed : ℕ) (files : Files) → HasOperands (with_operands (demo_specification v o) seed files) (demo_specification v o) 4
operands_at v o hv ho seed files k h =
    has_tensor (demo_specification v o) seed files (declarations_fit v o hv ho) (omega arith) (operand (demo_specification v o) k) (operand_below v o k h)

pub has_operands : (s : Specification) → IsDemo s → (seed : ℕ) (text : List ℕ) (files : Files) → HasOperands (with_input s seed text files) s (operand_count s)
has_operands s d seed text files =
    subst (λ (x : Specification). HasOperands (with_input x seed text files) x (operand_count x)) (sym d.is)
    (operands_at d.v d.o d.v_within d.o_within seed (with_file files (codes "demo.tce") text))

-- also where the disk tells
pub operands_told : (s : Specification) → IsDemo s → (seed : ℕ) (text : List ℕ) (before after : Option Files) → after ≡ option_map (with_input s seed text) before
    → ForSome after (λ files. HasOperands files s (operand_count s))
operands_told s d seed text None after made files told = absurd (none-some files (sym made ∙ told))
operands_told s d seed text (Some old) after made files told =
    let same : Some (with_input s seed text old) ≡ Some files = sym made ∙ told in
    let is : with_input s seed text old ≡ files = cc in
    subst (λ (x : Files). HasOperands x s (operand_count s)) is (has_operands s d seed text old)

-- and the file of the result is an array
result_is : (s : Specification) (files : Files) → IsSomeAnd (file (with_result s files) (file_of s s.result)) (IsForm One (shape_of s s.result))
result_is s files =
    subst (λ (o : Option (List ℕ)). IsSomeAnd o (IsForm One (shape_of s s.result))) (sym (file-with_file files (file_of s s.result) (result_bytes s files)))
    (form_bytes_is One (shape_of s s.result) (result_element s (bytes_in files s)))

pub result_told : (s : Specification) (before after : Option Files) → after ≡ option_map (with_result s) before
    → ForSome after (λ files. IsSomeAnd (file files (file_of s s.result)) (IsForm One (shape_of s s.result)))
result_told s None after made files told = absurd (none-some files (sym made ∙ told))
result_told s (Some old) after made files told =
    let same : Some (with_result s old) ≡ Some files = sym made ∙ told in
    let is : with_result s old ≡ files = cc in
    subst (λ (x : Files). IsSomeAnd (file x (file_of s s.result)) (IsForm One (shape_of s s.result))) is (result_is s old)
