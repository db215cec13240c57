-- What is read and made where the disk tells its files.
use Rattle.std.specs.Prelude.{◌≡◌, ◌≢◌, ℕ, ◌+◌, ◌*◌, ◌<◌, List, drop, length, slice_index, Option, Result, Err, IfErr}
use Rattle.std.specs.List.{flat_map}
use Rattle.std.specs.Option.{ForSome, IsSomeAnd}
use Rattle.tce_base.specs.Word.{word_bytes, wrapping_sum}
use Rattle.tce_space.specs.Tiling.{Tiling, elements}
use Rattle.tce_outside.specs.Files.{Files, file, holding, written}
use Rattle.tce_array.specs.declared.form.Form.{Form}
use Rattle.tce_array.specs.declared.form.Form.TheVariants.{One}
use Rattle.tce_array.specs.Forms.{IsForm, width, word_in, cell, head_len, array_bytes, form_bytes}
use Rattle.tce_tools.specs.declared.fault.ToolFault.{ToolFault}
use Rattle.tce_tools.specs.declared.fault.ToolFault.TheVariants.{Disk}
use Rattle.tce_tools.specs.declared.storage.Storage.{Storage}
use Rattle.tce_tools.specs.declared.storage.Storage.TheVariants.{Array}
use Rattle.tce_tools.specs.Answers.{FitBefore, IsFirstMisfit, IsPackAnswer, IsUnpackAnswer, IsConvertAnswer}
use Rattle.tce_tools.specs.Demo.{demo_element}
use Rattle.tce_tools.specs.Flat.{in_order, contents, flat_bytes, flat_element, array_element}
use Rattle.tce_tools.specs.NoHalf.{LeavesNoHalfOf}
use Rattle.tce_tools.specs.Storage.{element_in, bare_bytes, stored_bytes, last_written, holding_by, HasStored, HasWords}

-- the file of this name has the length of one that stores elements of the shape in this way
abbrev pub HasStoredIn : Option Files → List ℕ → Storage → Tiling → Type 0
HasStoredIn told name storage s = ForSome told (λ fs. HasStored storage s (file fs name))

-- the file of this name is an array of the shape in this form
abbrev pub HasFormIn : Option Files → List ℕ → Form → Tiling → Type 0
HasFormIn told name form s = ForSome told (λ fs. IsSomeAnd (file fs name) (IsForm form s))

-- the file of this name has so many words from a byte on
abbrev pub HasWordsIn : Option Files → List ℕ → Form → ℕ → ℕ → Type 0
HasWordsIn told name form at count = ForSome told (λ fs. HasWords form at count (file fs name))

-- the words are those of the file from a byte on
abbrev pub AreWordsIn : Option Files → List ℕ → Form → ℕ → List ℕ → Type 0
AreWordsIn told name form at words =
    ForSome told (λ fs. (k : ℕ) → k < length words → slice_index words k ≡ word_in form (drop (at + width form * k) (contents fs name)))

-- the number is the sum of all elements of the array file
abbrev pub IsSumOf : Option Files → List ℕ → Form → Tiling → ℕ → Type 0
IsSumOf told name form s n = ForSome told (λ fs. n ≡ wrapping_sum (in_order s (cell form s (contents fs name))))

-- each element of the array file in one form can be stored in another
abbrev pub AllFit : Form → Option Files → List ℕ → Form → Tiling → Type 0
AllFit wanted told name form s = ForSome told (λ fs. FitBefore wanted s (element_in (Array form) s (contents fs name)) (elements s))

-- the first element of the array file in one form that cannot be stored in another has this place
abbrev pub IsFirstMisfitIn : Form → Option Files → List ℕ → Form → Tiling → ℕ → Type 0
IsFirstMisfitIn wanted told name form s k = ForSome told (λ fs. IsFirstMisfit wanted s (element_in (Array form) s (contents fs name)) k)

-- what packing, unpacking and converting answer to the file of this name, or where there is none
abbrev pub IsPackAnswerTo : Option Files → List ℕ → Tiling → Result (Unit {0}) ToolFault → Type 0
IsPackAnswerTo told flat s result = ForSome told (λ fs. IsPackAnswer s (file fs flat) result)

abbrev pub IsUnpackAnswerTo : Option Files → List ℕ → Tiling → Result (Unit {0}) ToolFault → Type 0
IsUnpackAnswerTo told array s result = ForSome told (λ fs. IsUnpackAnswer s (file fs array) result)

abbrev pub IsConvertAnswerTo : Option Files → List ℕ → Form → Tiling → Result (Unit {0}) ToolFault → Type 0
IsConvertAnswerTo told array form s result = ForSome told (λ fs. IsConvertAnswer form s (file fs array) result)

-- the files with the elements of a shape under a name, stored in this way, while zeros stand in the place of what comes before them, and whole
abbrev pub holding_bare : List ℕ → Storage → Tiling → (Files → List ℕ → ℕ) → Option Files → Option Files
holding_bare name storage s element told = holding_by name (λ fs. bare_bytes storage s (element fs)) told

abbrev pub holding_whole : List ℕ → Storage → Tiling → (Files → List ℕ → ℕ) → Option Files → Option Files
holding_whole name storage s element told = holding_by name (λ fs. stored_bytes storage s (element fs)) told

-- words are written over a part of a file, from a byte on
abbrev pub WritesWords : List ℕ → Form → ℕ → List ℕ → Option Files → Option Files → Type 0
WritesWords name form at words before after = after ≡ written name at (flat_map (word_bytes (width form)) words) before

-- a file of zeros is made, as long as one that stores elements in this way
abbrev pub MakesZeros : List ℕ → Storage → Tiling → Option Files → Option Files → Type 0
MakesZeros name storage s before after = after ≡ holding name (bare_bytes storage s (λ _. 0)) before

-- packing makes the array file of the elements of a flat file
abbrev pub Packs : List ℕ → List ℕ → Tiling → Option Files → Option Files → Type 0
Packs flat array s before after = after ≡ holding_by array (λ fs. array_bytes s (flat_element s (contents fs flat))) before

-- unpacking makes the flat file of the elements of an array file
abbrev pub Unpacks : List ℕ → List ℕ → Tiling → Option Files → Option Files → Type 0
Unpacks array flat s before after = after ≡ holding_by flat (λ fs. flat_bytes s (array_element s (contents fs array))) before

-- converting makes the array file, in a form, of the elements of another one
abbrev pub Converts : List ℕ → Form → List ℕ → Tiling → Option Files → Option Files → Type 0
Converts array form to s before after = after ≡ holding_by to (λ fs. form_bytes form s (array_element s (contents fs array))) before

-- copying makes the file of the elements of another one; its start is written last
abbrev pub Copies : List ℕ → Storage → List ℕ → Storage → Tiling → Option Files → Option Files → Type 0
Copies source from target to s before after = after ≡ holding_by target (λ fs. stored_bytes to s (element_in from s (contents fs source))) before

abbrev pub CopiesBare : List ℕ → Storage → List ℕ → Storage → Tiling → Option Files → Option Files → Type 0
CopiesBare source from target to s before after = after ≡ holding_by target (λ fs. bare_bytes to s (element_in from s (contents fs source))) before

-- drawing makes the array file of the numbers drawn after one; its head is written last
abbrev pub Draws : List ℕ → Tiling → ℕ → Option Files → Option Files → Type 0
Draws array s x before after = after ≡ holding array (array_bytes s (demo_element s x)) before

abbrev pub DrawsBare : List ℕ → Tiling → ℕ → Option Files → Option Files → Type 0
DrawsBare array s x before after = after ≡ holding array (bare_bytes (Array One) s (demo_element s x)) before

-- wherever each of these ends, the file that it makes is as it was, absent, begun with zeros, or whole but for what is written last
abbrev pub MayPack : List ℕ → List ℕ → Tiling → Option Files → Option Files → Type 0
MayPack flat array s before after = LeavesNoHalfOf array (head_len One s) (λ fs. array_bytes s (flat_element s (contents fs flat))) before after

abbrev pub MayUnpack : List ℕ → List ℕ → Tiling → Option Files → Option Files → Type 0
MayUnpack array flat s before after = LeavesNoHalfOf flat 262144 (λ fs. flat_bytes s (array_element s (contents fs array))) before after

abbrev pub MayConvert : List ℕ → Form → List ℕ → Tiling → Option Files → Option Files → Type 0
MayConvert array form to s before after = LeavesNoHalfOf to (head_len form s) (λ fs. form_bytes form s (array_element s (contents fs array))) before after

abbrev pub MayCopy : List ℕ → Storage → List ℕ → Storage → Tiling → Option Files → Option Files → Type 0
MayCopy source from target to s before after =
    LeavesNoHalfOf target (last_written to s) (λ fs. stored_bytes to s (element_in from s (contents fs source))) before after

abbrev pub MayDraw : List ℕ → Tiling → ℕ → Option Files → Option Files → Type 0
MayDraw array s x before after = LeavesNoHalfOf array (head_len One s) (λ _. array_bytes s (demo_element s x)) before after

-- where a call is refused and the disk did not fail, no file changed
abbrev pub KeepsFiles : Result (Unit {0}) ToolFault → Option Files → Option Files → Type 0
KeepsFiles result before after = IfErr result (λ fault. fault ≢ Disk → after ≡ before)

-- the call answers that the disk failed
abbrev pub IsDiskFault : Result (Unit {0}) ToolFault → Type 0
IsDiskFault result = result ≡ Err Disk
