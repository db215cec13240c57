-- Reads of stored words.
use Rattle.std.proofs.Common.{◌≡◌, ◌∙◌, ℕ, ◌+◌, ◌*◌, ◌^◌, ◌<◌, ◌≤◌, List, length, take, slice_index, Option, None, Some, sym, ap, arith}
use Rattle.std.proofs.Math.Nat.{mul-le-mul_left}
use Rattle.std.proofs.lemmas.List.{get_or-take, length-take-le}
use Rattle.std.specs.Option.{IsSomeAnd}
use Rattle.tce_space.specs.Limits.{max_array_words}
use Rattle.tce_array.specs.declared.form.Form.TheVariants.{One}
use Rattle.tce_tools.specs.Storage.{HasWords}
use Rattle.tce_sym.specs.declared.lines.Grid.{Grid}
use Rattle.tce_sym.specs.declared.symmetry.Symmetry.{Symmetry}
use Rattle.tce_sym.specs.Storage.{IsStored, stored_word, stored_count}
use Rattle.tce_sym.specs.Lines.{IsAcross}

-- a file of so many stored words has those from one on
pub words_there : (start n count : ℕ) (found : Option (List ℕ)) → start + n ≤ count → IsSomeAnd found (λ bytes. length bytes ≡ 32 + 8 * count) → HasWords One (32 + 8 * start) n found
words_there start n count None room is = absurd is
words_there start n count (Some bytes) room is = omega (arith, room, is)

-- the words of some pairs, at one place of the other coordinates
pub strip_there : (g : Grid) (room from len outer : ℕ) → IsAcross g room → outer < g.others → from + len ≤ g.pairs → outer * g.pairs + from + len ≤ g.count
strip_there g room from len outer a h l =
    let row : g.pairs * (outer + 1) ≤ g.pairs * g.others = mul-le-mul_left g.pairs (omega arith) in
    omega (arith, row, a.count)

-- the first words of those from a place on
pub front_read : (bytes ws : List ℕ) (start n : ℕ) → n ≤ length ws → ((k : ℕ) → k < length ws → slice_index ws k ≡ stored_word bytes (start + k))
    → (k : ℕ) → k < length (take n ws) → slice_index (take n ws) k ≡ stored_word bytes (start + k)
front_read bytes ws start n room read k l =
    let size = length-take-le n ws room in
    get_or-take n ws k 0 (omega (arith, size)) ∙ read k (omega (arith, size))

-- a place among those of an array is a number of the machine
pub place_small : (place count : ℕ) → place < count → count ≤ max_array_words → place < 2 ^ 64
place_small place count h few = omega (arith, h, few)

-- a file that stores a tensor has as many words as are stored
pub words_stored : (extents : List ℕ) (s : Symmetry) (count : ℕ) (found : Option (List ℕ)) → count ≡ stored_count extents s → IsSomeAnd found (λ bytes. IsStored extents s bytes)
    → IsSomeAnd found (λ bytes. length bytes ≡ 32 + 8 * count)
words_stored extents s count None e is = is
words_stored extents s count (Some bytes) e is = is.whole ∙ ap (λ n. 32 + 8 * n) (sym e)
