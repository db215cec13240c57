-- The words that are read of a workspace.
use Rattle.std.proofs.Common.{◌≡◌, ℕ, ◌+◌, ◌<◌, ◌≤◌, ◌^◌, ◌%◌, Bool, true, false, if◌then◌else◌, List, [], ◌∷◌, map, slice_get, slice_index, Option, Some, None, refl, sym, ap, ◌∙◌, subst, inl, inr, arith}
use Rattle.std.specs.Option.{IsSomeAnd, ForSome, option_map}
use Rattle.std.specs.List.{All, AllByRecursion}
use Rattle.std.proofs.lemmas.List.Elements.{All-from_recursion}
use Rattle.std.proofs.lemmas.Bool.{cases_Bool, true≢false}
use Rattle.tce_base.specs.Word.{word}
use Rattle.tce_outside.specs.Files.{Files}
use Rattle.tce_space.specs.Box.{IsInside}
use Rattle.tce_space.specs.Space.{extent_at}
use Rattle.tce_space.specs.Tiling.{Tiling, tile_words, tile_number, place_in_tile, word_number}
use Rattle.tce_space.proofs.IndexSetLaws.{has_below, minus_lt}
use Rattle.tce_cache.specs.Held.{Held, look_up}
use Rattle.tce_cache.specs.Current.{word_of}
use Rattle.tce_cache.specs.declared.array.ArrayRef.{ArrayRef}
use Rattle.tce_cache.specs.Cache.{State as CacheState, IsCache, IsReady, IsArrayAt, layout, stored, word_of_tile, words_of_tile}
use Rattle.tce_cache.specs.Transfer.{word_in_file}
use Rattle.tce_tree.specs.ContractionTree.{operations, node_dims}
use Rattle.tce_tree.specs.Fusion.{kept_dims, fused_at}
use Rattle.tce_tree.specs.Value.{Assignment}
use Rattle.tce_tree.specs.WellFormed.{among}
use Rattle.tce_tree.specs.declared.expr.Leaf.{Leaf}
use Rattle.tce_tree.specs.declared.node.Operand.{Operand}
use Rattle.tce_tree.specs.declared.node.Operand.TheVariants.{Constant}
use Rattle.tce_tree.proofs.Members.{node_dims_lt}
use Rattle.tce_tree.proofs.Lists.{among_first, among_later}
use Rattle.tce_code.specs.Execution.{State}
use Rattle.tce_tree.specs.Memory.{memory}
use Rattle.tce_tree.proofs.Assignments.{numbers_inside}
use Rattle.tce_layout.specs.Layout.{slot_at, IsLayout}
use Rattle.tce_layout.specs.declared.slot.Slot.{Slot}
use Rattle.tce_exec.specs.Slots.{slot_word, IsSlotAt}
use Rattle.tce_exec.specs.NodeStates.{Places, root, root_dims, state_of, current_cell}
use Rattle.tce_exec.proofs.Slots.{slots_lead_to_places}
use Rattle.tce_exec.proofs.States.{places_have_their_words}
use Rattle.tce_exec.specs.Workspace.{Workspace, filed_element, element_of, setting_in, state_in, result_shape, shape_over}
use Rattle.tce_exec.specs.Prepared.{IsStored, IsOperand, IsPrepared}
use Rattle.tce_exec.specs.Elements.{IsElementTouched}
use Rattle.tce_exec.specs.Operands.{word_of_node, word_of_operand, IsPlaceOf, IsElementOf}
use Rattle.tce_exec.specs.Steps.{IsRead}
use Rattle.tce_exec.specs.Following.{continued_own}
use Rattle.tce_exec.proofs.Workspaces.{is_result}

-- ---- a workspace as it was

pub read_own : (n : ℕ) (x : Workspace) → IsPrepared x → IsRead n x x
read_own n x is = record { prepared = is; state = refl; few = omega arith; continued = continued_own x }

-- ---- states that are told

pub for_state : (x : Workspace) (P : State → Type 0)
    → ((fs : Files) → x.files ≡ Some fs → P (state_of x.places x.words (current_cell x.cache fs x.words x.tensor (result_shape x)))) → ForSome (state_in x) P
for_state x P h = by_files x.files refl
  where
    by_files : (o : Option Files) → x.files ≡ o
        → ForSome (option_map (λ fs. state_of x.places x.words (current_cell x.cache fs x.words x.tensor (result_shape x))) o) P
    by_files None told = λ state is. absurd (cc)
    by_files (Some fs) told = λ state is. let same : state_of x.places x.words (current_cell x.cache fs x.words x.tensor (result_shape x)) ≡ state = cc in subst P same (h fs told)

-- ---- places in slots

pub slot_of : (x : Workspace) (v : ℕ) (a : Assignment) → v + 1 < operations x.places.tree → IsPlaceOf x v a → IsSlotAt x.places.space x.places.tree x.places.fusion v a
slot_of x v a inner h = record { inner = inner; inside = h.inside }

pub slot_word_is : (x : Workspace) (v : ℕ) (a : Assignment) (word : ℕ) → IsPrepared x → IsSlotAt x.places.space x.places.tree x.places.fusion v a
    → word ≡ slice_index x.words (slot_word (slot_at x.places.slots v) a) → ForSome (state_in x) (λ state. word ≡ word_of_node (setting_in x) v state a)
slot_word_is x v a word is h e =
    for_state x (λ state. word ≡ word_of_node (setting_in x) v state a) (λ fs told.
    e ∙ sym (places_have_their_words.node x.places x.words (current_cell x.cache fs x.words x.tensor (result_shape x)) v a is.laid h))

-- ---- places of the root

pub root_word_is : (x : Workspace) (a : Assignment) (word : ℕ) → 0 < operations x.places.tree → IsPrepared x → IsPlaceOf x (root x.places) a
    → IsArrayAt x.cache.arrays x.tensor (λ r. ForSome x.files (λ fs. word ≡ current_cell x.cache fs x.words x.tensor r.shape (map a x.places.result)))
    → ForSome (state_in x) (λ state. word ≡ word_of_node (setting_in x) (root x.places) state a)
root_word_is x a word some is inside shown =
    for_state x (λ state. word ≡ word_of_node (setting_in x) (root x.places) state a) (λ fs told.
    by_array (slice_get x.cache.arrays x.tensor) is.result.array shown fs told
    ∙ sym (places_have_their_words.root x.places x.words (current_cell x.cache fs x.words x.tensor (result_shape x)) (result_shape x) a some (is_result x is) inside.inside))
  where
    by_array : (o : Option ArrayRef) → IsSomeAnd o (λ r. r.shape ≡ result_shape x)
        → IsSomeAnd o (λ r. ForSome x.files (λ fs. word ≡ current_cell x.cache fs x.words x.tensor r.shape (map a x.places.result)))
        → (fs : Files) → x.files ≡ Some fs → word ≡ current_cell x.cache fs x.words x.tensor (result_shape x) (map a x.places.result)
    by_array None h k fs told = absurd h
    by_array (Some r) h k fs told = k fs told ∙ ap (λ s. current_cell x.cache fs x.words x.tensor s (map a x.places.result)) h

pub each_of : (P : ℕ → Type 0) (xs : List ℕ) → ((i : ℕ) → among xs i ≡ true → P i) → AllByRecursion P xs
each_of P [] h = tt
each_of P (x ∷ xs) h = (h x (among_first x xs), each_of P xs (λ i m. h i (among_later x xs i m)))

-- the result's indexes are numbers of indexes
pub result_known : (x : Workspace) → IsPrepared x → All (λ i. i < 24) x.places.result
unfolding kept_dims
result_known x is =
    All-from_recursion (λ i. i < 24) x.places.result (each_of (λ i. i < 24) x.places.result (λ i m. has_below (root_dims x.places) i
    (minus_lt (node_dims x.places.tree (root x.places)) (fused_at x.places.fusion (root x.places)) (node_dims_lt x.places.tree (root x.places))) (sym (is.root i) ∙ m)))

-- an element inside the extents is one of the array
pub inside_array : (x : Workspace) (tensor : ℕ) (indexes xs : List ℕ) → IsStored x tensor indexes → IsInside (shape_over x.places.space indexes).extents xs
    → IsArrayAt x.cache.arrays tensor (λ a. IsInside a.shape.extents xs)
inside_array x tensor indexes xs is h = by_array (slice_get x.cache.arrays tensor) is.array
  where
    by_array : (o : Option ArrayRef) → IsSomeAnd o (λ a. a.shape ≡ shape_over x.places.space indexes) → IsSomeAnd o (λ a. IsInside a.shape.extents xs)
    by_array None k = absurd k
    by_array (Some a) k = subst (λ (s : Tiling). IsInside s.extents xs) (sym k) h

pub root_inside : (x : Workspace) (a : Assignment) → IsPrepared x → IsPlaceOf x (root x.places) a → IsInside (result_shape x).extents (map a x.places.result)
root_inside x a is h = numbers_inside (extent_at x.places.space) a x.places.result (λ i m. h.inside i (sym (is.root i) ∙ m))

-- ---- elements of operands

-- the current words of an array that is not written are its file's
pub operand_as_filed : (c : CacheState) (files : Files) (words : List ℕ) (tensor : ℕ) (a : ArrayRef) (xs : List ℕ) → IsCache c → IsReady c files words
    → slice_get c.arrays tensor ≡ Some a → a.writable ≡ false → place_in_tile a.shape xs < tile_words a.shape
    → current_cell c files words tensor a.shape xs ≡ element_of c (Some files) tensor xs
operand_as_filed c files words tensor a xs is ready at unwritten low =
    by_look_up (look_up c.held tensor tile) refl ∙ ap (λ o. word_of_tile o files tile k) at ∙ sym (ap (λ o. filed_element o files xs) at ∙ filed)
  where
    tile : ℕ
    tile = tile_number a.shape xs

    k : ℕ
    k = place_in_tile a.shape xs

    filed : filed_element (Some a) files xs ≡ word_in_file a files (word_number a.shape xs)
    filed = ap (λ b. if b then 0 else word_in_file a files (word_number a.shape xs)) unwritten

    unmarked : (h : Held) → look_up c.held tensor tile ≡ Some h → h.marked ≡ false
    unmarked h e =
        elim (cases_Bool h.marked) [
          | inl m ↦ absurd (true≢false (sym (subst (λ o. IsSomeAnd o (λ b. b.writable ≡ true)) at (is.marked tensor tile h e m)) ∙ unwritten))
          | inr m ↦ m
        ]

    by_look_up : (o : Option Held) → look_up c.held tensor tile ≡ o → word_of (stored c files) (layout c) words o tensor tile k ≡ stored c files tensor tile k
    by_look_up None e = refl
    by_look_up (Some h) e = ready.clean tensor tile h e (unmarked h e) k (subst (λ o. k < words_of_tile o) (sym at) low)

-- the array of an operand is not the one that is written
unwritten : (x : Workspace) (tensor : ℕ) (indexes : List ℕ) (a : ArrayRef) → IsPrepared x → IsOperand x tensor indexes → slice_get x.cache.arrays tensor ≡ Some a → a.writable ≡ false
unwritten x tensor indexes a is operand at =
    elim (cases_Bool a.writable) [
      | inl w ↦ absurd (by_array w (slice_get x.cache.arrays x.tensor) refl is.writable)
      | inr w ↦ w
    ]
  where
    by_array : a.writable ≡ true → (o : Option ArrayRef) → slice_get x.cache.arrays x.tensor ≡ o → IsSomeAnd o (λ b. b.writable ≡ true) → ⊥
    by_array w None e h = h
    by_array w (Some b) e h = operand.other (is.cache.arrays.writable tensor x.tensor a b at e w h)

-- the word of an operand's element
pub leaf_word_is : (x : Workspace) (l : Leaf) (a : Assignment) (n : ℕ) → IsPrepared x → IsElementOf x l a → n < 2 ^ 64
    → IsArrayAt x.cache.arrays l.tensor (λ r. ForSome x.files (λ fs. n ≡ current_cell x.cache fs x.words l.tensor r.shape (map a l.indexes.items)))
    → IsArrayAt x.cache.arrays l.tensor (λ r. place_in_tile r.shape (map a l.indexes.items) < tile_words r.shape)
    → ForSome (state_in x) (λ state. n ≡ word (element_of x.cache x.files l.tensor (map a l.indexes.items)))
unfolding word
leaf_word_is x l a n is element low shown short =
    for_state x (λ state. n ≡ word (element_of x.cache x.files l.tensor (map a l.indexes.items))) (λ fs told.
    let same : n ≡ element_of x.cache x.files l.tensor (map a l.indexes.items) =
    by_array (slice_get x.cache.arrays l.tensor) refl shown short fs told ∙ ap (λ o. element_of x.cache o l.tensor (map a l.indexes.items)) (sym told) in
    small n low ∙ ap (λ m. m % 2 ^ 64) same)
  where
    small : (m : ℕ) → m < 2 ^ 64 → m ≡ m % 2 ^ 64
    small m h = omega (arith, h)

    by_array : (o : Option ArrayRef) → slice_get x.cache.arrays l.tensor ≡ o
        → IsSomeAnd o (λ r. ForSome x.files (λ fs. n ≡ current_cell x.cache fs x.words l.tensor r.shape (map a l.indexes.items)))
        → IsSomeAnd o (λ r. place_in_tile r.shape (map a l.indexes.items) < tile_words r.shape)
        → (fs : Files) → x.files ≡ Some fs → n ≡ element_of x.cache (Some fs) l.tensor (map a l.indexes.items)
    by_array None e h k fs told = absurd h
    by_array (Some r) e h k fs told =
        h fs told ∙ operand_as_filed x.cache fs x.words l.tensor r (map a l.indexes.items) is.cache (is.ready fs told) e (unwritten x l.tensor l.indexes.items r is element.operand e) k

-- what is known of a touched element's place in its tile
pub short_in_tile : (c new : CacheState) (array : ℕ) (xs : List ℕ) (write : Bool) (at : ℕ) → IsArrayAt c.arrays array (λ a. IsElementTouched c new array a.shape xs write at)
    → IsArrayAt c.arrays array (λ a. place_in_tile a.shape xs < tile_words a.shape)
short_in_tile c new array xs write at h = by_array (slice_get c.arrays array) h
  where
    by_array : (o : Option ArrayRef) → IsSomeAnd o (λ a. IsElementTouched c new array a.shape xs write at) → IsSomeAnd o (λ a. place_in_tile a.shape xs < tile_words a.shape)
    by_array None k = absurd k
    by_array (Some a) k = k.within

-- a word that is read at the place of a touched element
pub shown_at : (arrays : List ArrayRef) (array : ℕ) (n m : ℕ) (files : Option Files) (cell : Tiling → Files → ℕ) → n ≡ m
    → IsArrayAt arrays array (λ a. ForSome files (λ fs. m ≡ cell a.shape fs)) → IsArrayAt arrays array (λ a. ForSome files (λ fs. n ≡ cell a.shape fs))
shown_at arrays array n m files cell same h = subst (λ k. IsArrayAt arrays array (λ a. ForSome files (λ fs. k ≡ cell a.shape fs))) (sym same) h

-- a slot's word lies before the frames
pub slot_low : (p : Places) (slots : List Slot) (v : ℕ) (a : Assignment) (n : ℕ) → slots ≡ p.slots → IsLayout p.space p.tree p.fusion p.slots
    → IsSlotAt p.space p.tree p.fusion v a → memory p.space p.tree p.fusion ≤ n → slot_word (slot_at slots v) a < n
slot_low p slots v a n same laid h room =
    let low : slot_word (slot_at p.slots v) a < memory p.space p.tree p.fusion = (slots_lead_to_places p.space p.tree p.fusion p.slots laid).below v a h in
    omega (arith, low, room, ap (λ s. slot_word (slot_at s v) a) same)

-- the word of a constant
pub constant_word_is : (x : Workspace) (o : Operand) (n : ℕ) (a : Assignment) → o ≡ Constant n → n < 2 ^ 64
    → ForSome (state_in x) (λ state. n ≡ word_of_operand (setting_in x) o state a)
unfolding word
constant_word_is x o n a is low =
    let small : n ≡ n % 2 ^ 64 = omega (arith, low) in
    λ state told. small ∙ ap (λ o. word_of_operand (setting_in x) o state a) (sym is)
