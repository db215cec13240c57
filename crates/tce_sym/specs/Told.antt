-- What is read and held of stored elements where the disk tells its files.
use Rattle.std.specs.Prelude.{◌≡◌, ℕ, ◌+◌, ◌*◌, ◌<◌, List, length, slice_index, Option, Result, Err}
use Rattle.std.specs.Option.{ForSome, IsSomeAnd}
use Rattle.tce_space.specs.Tiling.{Tiling}
use Rattle.tce_outside.specs.Files.{Files, file}
use Rattle.tce_array.specs.declared.form.Form.TheVariants.{One}
use Rattle.tce_array.specs.Forms.{head_len, array_bytes}
use Rattle.tce_tools.specs.declared.storage.Storage.TheVariants.{Array}
use Rattle.tce_tools.specs.Flat.{contents}
use Rattle.tce_tools.specs.NoHalf.{LeavesNoHalfOf}
use Rattle.tce_tools.specs.Storage.{bare_bytes, holding_by}
use Rattle.tce_sym.specs.declared.cells.Triangles.{Triangles}
use Rattle.tce_sym.specs.declared.fault.SymFault.{SymFault}
use Rattle.tce_sym.specs.declared.fault.SymFault.TheVariants.{Disk}
use Rattle.tce_sym.specs.declared.lines.Grid.{Grid}
use Rattle.tce_sym.specs.declared.rows.Row.{Row}
use Rattle.tce_sym.specs.declared.symmetry.Symmetry.{Symmetry}
use Rattle.tce_sym.specs.declared.walks.Walk.{Walk}
use Rattle.tce_sym.specs.Storage.{IsStored, full_cell, stored_word, turned}
use Rattle.tce_sym.specs.Faults.{IsFault, IsOnlyAnswer}
use Rattle.tce_sym.specs.Lines.{AreLines, AreWhole, ArePairs, AreHeld, walk_place}
use Rattle.tce_sym.specs.Cells.{cell_of, mirror, moved_pair, pair_place}

-- the file of this name stores elements of this symmetry; it is refused for this fault; the answer to it is the only right one
abbrev pub IsStoredIn : Option Files → List ℕ → List ℕ → Symmetry → Type 0
IsStoredIn told name extents s = ForSome told (λ fs. IsSomeAnd (file fs name) (λ bytes. IsStored extents s bytes))

abbrev pub IsFaultOf : Option Files → List ℕ → List ℕ → SymFault → Type 0
IsFaultOf told name extents fault = ForSome told (λ fs. IsFault extents (file fs name) fault)

abbrev pub IsOnlyAnswerTo : Option Files → List ℕ → List ℕ → Result Symmetry SymFault → Type 0
IsOnlyAnswerTo told name extents result = ForSome told (λ fs. IsOnlyAnswer extents (file fs name) result)

-- the call answers that the disk failed
abbrev pub IsDiskFault : Result Symmetry SymFault → Type 0
IsDiskFault result = result ≡ Err Disk

-- the file of this name has so many stored words
abbrev pub HasStoredWords : Option Files → List ℕ → ℕ → Type 0
HasStoredWords told name count = ForSome told (λ fs. IsSomeAnd (file fs name) (λ bytes. length bytes ≡ 32 + 8 * count))

-- the word is the stored one of this place
abbrev pub IsStoredWord : Option Files → List ℕ → ℕ → ℕ → Type 0
IsStoredWord told name place word = ForSome told (λ fs. word ≡ stored_word (contents fs name) place)

-- the lines have words of the file: in slots, all one after the other, pair by pair, or as the layout says
abbrev pub AreLinesOf : Option Files → List ℕ → Grid → List ℕ → Type 0
AreLinesOf told name g lines = ForSome told (λ fs. AreLines g (contents fs name) lines)

abbrev pub AreWholeOf : Option Files → List ℕ → Grid → List ℕ → Type 0
AreWholeOf told name g lines = ForSome told (λ fs. AreWhole g (contents fs name) lines)

abbrev pub ArePairsOf : Option Files → List ℕ → Grid → List ℕ → Type 0
ArePairsOf told name g lines = ForSome told (λ fs. ArePairs g g.pairs (contents fs name) lines)

abbrev pub AreHeldOf : Option Files → List ℕ → Grid → List ℕ → Type 0
AreHeldOf told name g lines = ForSome told (λ fs. AreHeld g.layout g (contents fs name) lines)

-- lines that had the words of the pairs below a number have those of so many more
abbrev pub AddPairs : Option Files → List ℕ → Grid → ℕ → ℕ → List ℕ → List ℕ → Type 0
AddPairs told name g from len old new = ForSome told (λ fs. ArePairs g from (contents fs name) old → ArePairs g (from + len) (contents fs name) new)

-- the words are those of the file that a walk comes by
abbrev pub AreWalked : Option Files → List ℕ → Walk → List ℕ → Type 0
AreWalked told name walk words =
    ForSome told (λ fs. (k : ℕ) → k < length words → slice_index words k ≡ stored_word (contents fs name) (walk_place walk k))

-- the words are the elements of a row: where all are stored, where all are mirrored, and whatever they are
abbrev pub AreStoredOf : Option Files → List ℕ → Triangles → Row → List ℕ → Type 0
AreStoredOf told name t row words =
    ForSome told (λ fs. (k : ℕ) → k < length words → slice_index words k ≡ stored_word (contents fs name) (pair_place t (moved_pair row k)))

abbrev pub AreMirroredOf : Option Files → List ℕ → Triangles → Row → List ℕ → Type 0
AreMirroredOf told name t row words =
    ForSome told (λ fs. (k : ℕ) → k < length words → slice_index words k ≡ turned t.negated (stored_word (contents fs name) (pair_place t (mirror (moved_pair row k)))))

abbrev pub AreCellsOf : Option Files → List ℕ → Triangles → Row → List ℕ → Type 0
AreCellsOf told name t row words =
    ForSome told (λ fs. (k : ℕ) → k < length words → slice_index words k ≡ cell_of t (contents fs name) (moved_pair row k))

-- expanding makes the array file of the whole tensor that a file stores; its head is written last
abbrev pub Expands : List ℕ → Symmetry → List ℕ → Tiling → Option Files → Option Files → Type 0
Expands stored s array shape before after = after ≡ holding_by array (λ fs. array_bytes shape (full_cell shape.extents s (contents fs stored))) before

abbrev pub ExpandsBare : List ℕ → Symmetry → List ℕ → Tiling → Option Files → Option Files → Type 0
ExpandsBare stored s array shape before after =
    after ≡ holding_by array (λ fs. bare_bytes (Array One) shape (full_cell shape.extents s (contents fs stored))) before

-- wherever it ends, the array file is as it was, absent, begun with zeros, or whole but for its head
abbrev pub MayExpand : List ℕ → Symmetry → List ℕ → Tiling → Option Files → Option Files → Type 0
MayExpand stored s array shape before after =
    LeavesNoHalfOf array (head_len One shape) (λ fs. array_bytes shape (full_cell shape.extents s (contents fs stored))) before after
