-- What holds of the arrays of all specifications.
use Rattle.std.specs.Prelude.{◌≡◌, ◌≢◌, ℕ, ◌<◌, IsTrue, List, length, replicate, Option, Some}
use Rattle.std.specs.Option.{ForSome, IsSomeAnd}
use Rattle.tce_outside.specs.Files.{Files, file, overwritten}
use Rattle.tce_space.specs.Tiling.{padded_words}
use Rattle.tce_array.specs.declared.form.Form.TheVariants.{One}
use Rattle.tce_array.specs.Forms.{form_len, head, head_len, word_at}
use Rattle.tce_array.specs.Files.{AreBytes, LeavesNoHalf}
use Rattle.tce_cache.specs.Cache.{State}
use Rattle.tce_spec.specs.Contraction.{has_tensor}
use Rattle.tce_spec.specs.Specification.{Specification, IsSpecification}
use Rattle.tce_spec.specs.Operands.{shape_of}
use Rattle.tce_job.specs.TensorFiles.{file_of}
use Rattle.tce_job.specs.ResultBytes.{result_from, result_bytes, with_result}
use Rattle.tce_job.specs.Opened.{operand_count, operand}
use Rattle.tce_job.specs.Finished.{IsFlushed}

-- the tensor is one of the operands
pub record IsOperand (s : Specification) (t : ℕ) : Type 0 where
  pub number : ℕ
  pub within : number < operand_count s
  pub is : operand s number ≡ t

-- the operands are the tensors of the tree
pub record OperandsAreThoseOfTheTree : Type 0 where
  pub in_tree : (s : Specification) (d : ℕ) → d < operand_count s → IsTrue (has_tensor (operand s d) s.tree)
  pub operands : (s : Specification) (t : ℕ) → IsTrue (has_tensor t s.tree) → IsOperand s t

-- the file of a result as it is made: zeros, also where its head is to be
abbrev pub made_result : Specification → List ℕ
made_result s = replicate (form_len One (shape_of s s.result)) 0

-- it has the length of an array, all words of which are 0
pub record IsMade (s : Specification) : Type 0 where
  pub whole : length (made_result s) ≡ form_len One (shape_of s s.result)
  pub are_bytes : AreBytes (made_result s)
  pub zero : (k : ℕ) → k < padded_words (shape_of s s.result) → word_at One (shape_of s s.result) (made_result s) k ≡ 0

abbrev pub MadeResultsAreZero : Type 0
MadeResultsAreZero = (s : Specification) → IsMade s

-- a finished result that was flushed is the result's file once its head is written, and where no other file differs, the files are those with the result
pub record FlushedResultsAreTold : Type 0 where
  pub told : (s : Specification) (bytes : ℕ → List ℕ) (c : State) (before after : Files) (words : List ℕ) → IsSpecification s → IsFlushed s bytes c before after words
      → IsSomeAnd (file after (file_of s s.result)) (λ found. overwritten found 0 (head One (shape_of s s.result)) ≡ result_from s bytes)
  pub whole : (s : Specification) (start after : Files) → ((name : List ℕ) → name ≢ file_of s s.result → file after name ≡ file start name)
      → file after (file_of s s.result) ≡ Some (result_bytes s start) → after ≡ with_result s start

-- what a run leaves in the place of its result, wherever it ends, where the disk tells: what was there before, or no array, or the result but for its head
abbrev pub LeavesNoHalfResult : Specification → Option Files → Option Files → Type 0
LeavesNoHalfResult s before after = ForSome before (λ old. ForSome after (λ new.
    LeavesNoHalf (head_len One (shape_of s s.result)) (result_bytes s old) (file old (file_of s s.result)) (file new (file_of s s.result))))
