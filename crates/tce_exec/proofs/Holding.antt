-- The places of nodes hold words.
use Rattle.std.proofs.Common.{◌≡◌, ℕ, ◌+◌, ◌*◌, ◌^◌, ◌<◌, ◌==◌, nat_lt, Bool, true, false, if◌then◌else◌, List, drop, slice_get, slice_index, Option, Some, None, refl, sym, subst, arith}
use Rattle.std.specs.Option.{IsSomeAnd, ForSome}
use Rattle.std.proofs.lemmas.List.{get_or-drop}
use Rattle.tce_base.specs.Word.{word_of_bytes}
use Rattle.tce_outside.specs.Files.{Files}
use Rattle.tce_space.specs.Tiling.{tile_words, tile_number, place_in_tile}
use Rattle.tce_array.specs.declared.form.Form.TheVariants.{One}
use Rattle.tce_array.specs.Forms.{word_in, word_at, word_place}
use Rattle.tce_array.specs.Files.{AreBytes}
use Rattle.tce_cache.specs.Held.{Held, look_up}
use Rattle.tce_cache.specs.Current.{word_of}
use Rattle.tce_cache.specs.declared.array.ArrayRef.{ArrayRef}
use Rattle.tce_cache.specs.Cache.{State as CacheState, IsCache, layout, stored, word_of_tile, current_word}
use Rattle.tce_cache.specs.Transfer.{contents, word_in_file}
use Rattle.tce_tree.specs.ContractionTree.{operations}
use Rattle.tce_layout.specs.Places.{word_at as slot_place, kept_extents}
use Rattle.tce_exec.specs.NodeStates.{Places, root, state_of, node_word, root_word, result_coordinates, are_inside, current_cell}
use Rattle.tce_walk.specs.Laws.{HoldsWords}
use Rattle.tce_exec.specs.Workspace.{Workspace, state_in, result_shape}
use Rattle.tce_exec.specs.Prepared.{IsPrepared}
use Rattle.tce_exec.proofs.Reading.{for_state}

chosen : (b : Bool) (m n k : ℕ) → m < k → n < k → (if b then m else n) < k
chosen true m n k h i = h
chosen false m n k h i = i

number_is_word : (bs : List ℕ) → ((i : ℕ) → slice_index bs i < 256) → word_of_bytes 8 bs < 2 ^ 64
unfolding word_of_bytes
number_is_word bs h = omega (arith, h 0, h 1, h 2, h 3, h 4, h 5, h 6, h 7)

one_is_word : (bs : List ℕ) → ((i : ℕ) → slice_index bs i < 256) → word_in One bs < 2 ^ 64
unfolding word_in
one_is_word bs h = number_is_word bs h

filed_is_word : (a : ArrayRef) (files : Files) (k : ℕ) → a.form ≡ One → AreBytes (contents a files) → word_in_file a files k < 2 ^ 64
filed_is_word a files k form bytes =
    subst (λ f. word_at f a.shape (contents a files) k < 2 ^ 64) (sym form)
    (one_is_word (drop (word_place One a.shape k) (contents a files)) (λ i. omega (arith, get_or-drop (word_place One a.shape k) (contents a files) i 0, bytes (word_place One a.shape k + i))))

-- the current words of an array that is written
current_is_word : (c : CacheState) (files : Files) (words : List ℕ) (array : ℕ) → IsCache c → ((k : ℕ) → slice_index words k < 2 ^ 64)
    → IsSomeAnd (slice_get c.arrays array) (λ a. a.writable ≡ true) → IsSomeAnd (slice_get c.arrays array) (λ a. AreBytes (contents a files))
    → (tile k : ℕ) → current_word c files words array tile k < 2 ^ 64
current_is_word c files words array is low writable bytes tile k = by_look_up (look_up c.held array tile)
  where
    by_array : (o : Option ArrayRef) → slice_get c.arrays array ≡ o → IsSomeAnd o (λ a. a.writable ≡ true) → IsSomeAnd o (λ a. AreBytes (contents a files))
        → word_of_tile o files tile k < 2 ^ 64
    by_array None at w b = absurd w
    by_array (Some a) at w b = filed_is_word a files (tile_words a.shape * tile + k) (is.arrays.form array a at w) b

    by_look_up : (o : Option Held) → word_of (stored c files) (layout c) words o array tile k < 2 ^ 64
    by_look_up None = by_array (slice_get c.arrays array) refl writable bytes
    by_look_up (Some h) = low _

state_holds : (p : Places) (words : List ℕ) (cell : List ℕ → ℕ) → ((k : ℕ) → slice_index words k < 2 ^ 64) → ((xs : List ℕ) → cell xs < 2 ^ 64)
    → (v : ℕ) → HoldsWords v (state_of p words cell)
unfolding state_of
state_holds p words cell low cells v at =
    chosen (nat_lt (v + 1) (operations p.tree)) (node_word p words v at) (if v + 1 == operations p.tree then root_word p cell at else 0) (2 ^ 64)
    (chosen (are_inside (kept_extents p.space p.tree p.fusion v) at) (slice_index words (slot_place p.space p.tree p.fusion p.slots v at)) 0 (2 ^ 64) (low _) (omega arith))
    (chosen (v + 1 == operations p.tree) (root_word p cell at) 0 (2 ^ 64)
    (chosen (are_inside (kept_extents p.space p.tree p.fusion (root p)) at) (cell (result_coordinates p at)) 0 (2 ^ 64) (cells _) (omega arith)) (omega arith))

pub places_hold_words : (x : Workspace) → IsPrepared x → ((k : ℕ) → slice_index x.words k < 2 ^ 64) → ForSome (state_in x) (λ state. (v : ℕ) → HoldsWords v state)
places_hold_words x is low =
    for_state x (λ state. (v : ℕ) → HoldsWords v state) (λ fs told.
    state_holds x.places x.words (current_cell x.cache fs x.words x.tensor (result_shape x)) low
    (λ xs. current_is_word x.cache fs x.words x.tensor is.cache low is.writable (is.bytes fs told) (tile_number (result_shape x) xs) (place_in_tile (result_shape x) xs)))
