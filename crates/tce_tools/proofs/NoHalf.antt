-- What is left of a file whose maker ended too soon.
use Rattle.std.proofs.Common.{◌≡◌, ◌∙◌, ◌⊎◌, ℕ, ◌+◌, ◌-◌, ◌*◌, ◌<◌, ◌≤◌, List, [], ◌∷◌, ◌++◌, length, take, drop, replicate, get_or, slice_index, ◌^◌, Option, Some, None, Result, Ok, Err, OnOk, IfSome, refl, sym, ap, subst, inl, inr, arith}
use Rattle.std.specs.List.{flat_map}
use Rattle.std.specs.Option.{ForSome, IsSomeAnd, option_map}
use Rattle.std.proofs.lemmas.List.{get_or-take, get_or-drop, get_or_append_left, drop_at, drop-drop, take-take, ext_get_or, length-drop, length-replicate}
use Rattle.std.proofs.lemmas.List.Elements.{recursion_from_All}
use Rattle.std.proofs.lemmas.Bool.{cases_lt}
use Rattle.std.proofs.lemmas.Option.{none-some}
use Rattle.tce_base.specs.Word.{word_bytes}
use Rattle.tce_base.proofs.WordBytes.{drop-words}
use Rattle.tce_space.specs.Box.{places, place}
use Rattle.tce_space.specs.Tiling.{Tiling, IsTiling, elements}
use Rattle.tce_space.proofs.Boxes.{places_every}
use Rattle.tce_space.proofs.Products.{product_positive}
use Rattle.tce_space.proofs.Counts.{positive_by_recursion}
use Rattle.tce_outside.specs.Files.{Files, file, with_file, written, overwritten, bytes_before, bytes_from, IsKeptOrZeros}
use Rattle.tce_outside.proofs.Files.{file-with_file}
use Rattle.tce_array.specs.Files.{BeginsWithZeros, LeavesNoHalf}
use Rattle.tce_array.specs.declared.form.Form.{Form}
use Rattle.tce_array.specs.declared.form.Form.TheVariants.{One}
use Rattle.tce_array.specs.Forms.{width, head_len, array_bytes}
use Rattle.tce_array.proofs.Heads.{zeros_at, zeros_begin}
use Rattle.tce_tools.specs.declared.storage.Storage.{Storage}
use Rattle.tce_tools.specs.declared.storage.Storage.TheVariants.{Flat, Array}
use Rattle.tce_tools.specs.Flat.{in_order, flat_element, array_element, contents}
use Rattle.tce_tools.specs.Storage.{form_in, start_of, start_len, words_of, begun_bytes, bare_bytes, stored_bytes, element_in, first_elements, later_elements, bytes_ahead, last_written, holding_by, HasStored}
use Rattle.tce_tools.specs.NoHalf.{LeavesNoHalfOf}
use Rattle.tce_tools.proofs.Stored.{flat_holds, flat_word, length-start, among_first, behind_first, before_later, among_later, stored_same, length-bare}
use Rattle.tce_tools.proofs.Forms.{IsOpened, flat_is, opened_form, array_elements}
use Rattle.tce_tools.proofs.Told.{held, held_written}
use Rattle.tce_tools.proofs.Zeros.{zero_word}

-- ---- any file

pub same_left : (name : List ℕ) (last : ℕ) (whole : Files → List ℕ) (before after : Option Files) → after ≡ before → LeavesNoHalfOf name last whole before after
same_left name last whole before after same fs told gs here =
    let both : Some gs ≡ Some fs = sym here ∙ same ∙ told in
    let now : gs ≡ fs = cc in
    inl (ap (λ (f : Files). file f name) now)

pub left_since : (name : List ℕ) (last : ℕ) (whole : Files → List ℕ) (before middle after : Option Files) → middle ≡ before → LeavesNoHalfOf name last whole middle after → LeavesNoHalfOf name last whole before after
left_since name last whole before middle after same left = subst (λ o. LeavesNoHalfOf name last whole o after) same left

pub left_as : (name : List ℕ) (last : ℕ) (whole other : Files → List ℕ) (before after : Option Files) → ((fs : Files) → before ≡ Some fs → whole fs ≡ other fs) → LeavesNoHalfOf name last whole before after
    → LeavesNoHalfOf name last other before after
left_as name last whole other before after same left fs told gs here = subst (λ bytes. LeavesNoHalf last bytes (file fs name) (file gs name)) (same fs told) (left fs told gs here)

zeros_or_same : (last : ℕ) (whole : List ℕ) (old new : Option (List ℕ)) → (new ≡ old) ⊎ IfSome new (λ bytes. bytes ≡ replicate (length bytes) 0) → LeavesNoHalf last whole old new
zeros_or_same last whole old new (inl same) = inl same
zeros_or_same last whole old None (inr zeros) = inr (inl zeros)
zeros_or_same last whole old (Some bytes) (inr zeros) = inr (inl (zeros_begin bytes (length bytes) zeros))

-- a file that could not be made
pub unmade_left : (name : List ℕ) (last : ℕ) (whole : Files → List ℕ) (before after : Option Files) → IsKeptOrZeros name before after → LeavesNoHalfOf name last whole before after
unmade_left name last whole before after is fs told gs here = zeros_or_same last (whole fs) (file fs name) (file gs name) (is fs told gs here)

-- what stands before a place stands before each earlier one
pub shorter_before : (name : List ℕ) (n m : ℕ) (old new : Option Files) → n ≤ m → bytes_before name m new ≡ bytes_before name m old → bytes_before name n new ≡ bytes_before name n old
shorter_before name n m old new le same = sym (shorter new) ∙ ap (option_map (option_map (λ bytes. take n bytes))) same ∙ shorter old
  where
    in_file : (o : Option (List ℕ)) → option_map (λ bytes. take n bytes) (option_map (λ bytes. take m bytes) o) ≡ option_map (λ bytes. take n bytes) o
    in_file None = refl
    in_file (Some bytes) = ap Some (take-take n m bytes le)

    shorter : (told : Option Files) → option_map (option_map (λ bytes. take n bytes)) (bytes_before name m told) ≡ bytes_before name n told
    shorter None = refl
    shorter (Some files) = ap Some (in_file (file files name))

-- a file that begins as one that begins with zeros
begins_so : (o : Option (List ℕ)) (was : List ℕ) → option_map (λ bytes. take 8 bytes) o ≡ Some (take 8 was) → BeginsWithZeros was → IfSome o BeginsWithZeros
begins_so None was same zeros = absurd (none-some (take 8 was) same)
begins_so (Some bytes) was same zeros =
    let is : take 8 bytes ≡ take 8 was = cc in
    λ i low. sym (get_or-take 8 bytes i 0 low) ∙ ap (λ xs. slice_index xs i) is ∙ get_or-take 8 was i 0 low ∙ zeros i low

pub begun_left : (name : List ℕ) (last : ℕ) (whole bytes : Files → List ℕ) (before then now : Option Files) → then ≡ holding_by name bytes before → bytes_before name 8 now ≡ bytes_before name 8 then
    → ((fs : Files) → BeginsWithZeros (bytes fs)) → LeavesNoHalfOf name last whole before now
begun_left name last whole bytes before then now made same zeros fs told gs here =
    let all : Some (option_map (λ l. take 8 l) (file gs name)) ≡ Some (option_map (λ l. take 8 l) (file (with_file fs name (bytes fs)) name)) =
    ap (bytes_before name 8) (sym here) ∙ same ∙ ap (bytes_before name 8) (made ∙ ap (holding_by name bytes) told) in
    let one : option_map (λ l. take 8 l) (file gs name) ≡ option_map (λ l. take 8 l) (file (with_file fs name (bytes fs)) name) = cc in
    inr (inl (begins_so (file gs name) (bytes fs) (one ∙ ap (option_map (λ l. take 8 l)) (file-with_file fs name (bytes fs))) (zeros fs)))

-- a file that is whole from a place on
whole_from : (at last : ℕ) (o : Option (List ℕ)) (was whole : List ℕ) → at ≤ last → option_map (λ bytes. drop at bytes) o ≡ Some (drop at was) → drop at was ≡ drop at whole
    → option_map (λ bytes. drop last bytes) o ≡ Some (drop last whole)
whole_from at last None was whole le same is = absurd (none-some (drop at was) same)
whole_from at last (Some bytes) was whole le same is =
    let one : drop at bytes ≡ drop at was = cc in
    let far : at + (last - at) ≡ last = omega arith in
    ap (λ n. Some (drop n bytes)) (sym far)
    ∙ ap Some (sym (drop-drop (last - at) at bytes) ∙ ap (drop (last - at)) (one ∙ is) ∙ drop-drop (last - at) at whole)
    ∙ ap (λ n. Some (drop n whole)) far

pub rest_left : (name : List ℕ) (last at : ℕ) (whole bytes : Files → List ℕ) (before then now : Option Files) → then ≡ holding_by name bytes before → at ≤ last → bytes_from name at now ≡ bytes_from name at then
    → ((fs : Files) → drop at (bytes fs) ≡ drop at (whole fs)) → LeavesNoHalfOf name last whole before now
rest_left name last at whole bytes before then now made le same is fs told gs here =
    let all : Some (option_map (λ l. drop at l) (file gs name)) ≡ Some (option_map (λ l. drop at l) (file (with_file fs name (bytes fs)) name)) =
    ap (bytes_from name at) (sym here) ∙ same ∙ ap (bytes_from name at) (made ∙ ap (holding_by name bytes) told) in
    let one : option_map (λ l. drop at l) (file gs name) ≡ option_map (λ l. drop at l) (file (with_file fs name (bytes fs)) name) = cc in
    inr (inr (whole_from at last (file gs name) (bytes fs) (whole fs) le (one ∙ ap (option_map (λ l. drop at l)) (file-with_file fs name (bytes fs))) (is fs)))

-- ---- files of elements

-- behind the start there are the words, whatever the start is
behind_start : (storage : Storage) (s : Tiling) (start : List ℕ) (f : List ℕ → ℕ) → length start ≡ start_len storage s
    → drop (start_len storage s) (begun_bytes storage s start f) ≡ flat_map (word_bytes (width (form_in storage))) (words_of storage s f)
behind_start storage s start f len = drop_at start (flat_map (word_bytes (width (form_in storage))) (words_of storage s f)) (start_len storage s) len

pub bare_behind : (storage : Storage) (s : Tiling) (f : List ℕ → ℕ) → drop (start_len storage s) (bare_bytes storage s f) ≡ drop (start_len storage s) (stored_bytes storage s f)
bare_behind storage s f = behind_start storage s (replicate (start_len storage s) 0) f (length-replicate (start_len storage s) 0) ∙ sym (behind_start storage s (start_of storage s) f (length-start storage s))

-- the start is written over zeros
pub with_start : (storage : Storage) (s : Tiling) (f : List ℕ → ℕ) → overwritten (bare_bytes storage s f) 0 (start_of storage s) ≡ stored_bytes storage s f
with_start storage s f =
    let behind : 0 + length (start_of storage s) ≡ start_len storage s = omega (arith, length-start storage s) in
    ap (λ n. start_of storage s ++ drop n (bare_bytes storage s f)) behind
    ∙ ap (λ l. start_of storage s ++ l) (behind_start storage s (replicate (start_len storage s) 0) f (length-replicate (start_len storage s) 0))

pub start_written : {A E : Type 0} (answer : Result A E) (storage : Storage) (s : Tiling) (name : List ℕ) (now then : Option Files) → OnOk answer (then ≡ written name 0 (start_of storage s) now)
    → OnOk answer ((before : Option Files) (element : Files → List ℕ → ℕ) → now ≡ holding_by name (λ fs. bare_bytes storage s (element fs)) before → then ≡ holding_by name (λ fs. stored_bytes storage s (element fs)) before)
start_written (Ok a) storage s name now then h = λ before element is.
    held_written before now then name (λ fs. bare_bytes storage s (element fs)) (λ fs. stored_bytes storage s (element fs)) 0 (start_of storage s) is h (λ fs was. with_start storage s (element fs))
start_written (Err e) storage s name now then h = tt

pub start_is_soon : (storage : Storage) (s : Tiling) → start_len storage s ≤ last_written storage s
start_is_soon Flat s = omega arith
start_is_soon (Array form) s = omega arith

pub some_elements : (s : Tiling) → IsTiling s → 0 < elements s
some_elements s t = product_positive s.extents (positive_by_recursion s.extents (recursion_from_All (λ n. (0 < n) × (n < 2 ^ 32)) s.extents t.sizes))

-- a file begins with zeros as long as its start, or its first element in a flat one, is not written
zeros_before : (n : ℕ) (rest : List ℕ) → 8 ≤ n → BeginsWithZeros (replicate n 0 ++ rest)
zeros_before n rest long i low = get_or_append_left (replicate n 0) rest 0 i (omega (arith, length-replicate {A = ℕ} n 0)) ∙ zeros_at n i

first_word_zero : (ws : List ℕ) → 0 < length ws → get_or ws 0 0 ≡ 0 → BeginsWithZeros (flat_map (word_bytes 8) ws)
first_word_zero [] some is = absurd (omega arith)
first_word_zero (w ∷ ws) some is =
    subst BeginsWithZeros (ap (λ l. l ++ flat_map (word_bytes 8) ws) (sym (ap (word_bytes 8) is ∙ zero_word))) (zeros_before 8 (flat_map (word_bytes 8) ws) (omega arith))

pub begins_bare : (storage : Storage) (s : Tiling) → IsTiling s → (f : List ℕ → ℕ) → ((xs : List ℕ) → place s.extents xs ≡ 0 → f xs ≡ 0) → BeginsWithZeros (bare_bytes storage s f)
begins_bare Flat s t f first =
    let some = some_elements s t in
    first_word_zero (in_order s f) (omega (arith, (flat_holds s).count f, some))
    (flat_word s f 0 some ∙ first (get_or (places s.extents) 0 []) (places_every s.extents 0 some).1)
begins_bare (Array form) s t f first = zeros_before (head_len form s) (flat_map (word_bytes (width form)) (words_of (Array form) s f)) (omega arith)

pub later_begins : (s : Tiling) (f : List ℕ → ℕ) (from n : ℕ) → 0 < from → (xs : List ℕ) → place s.extents xs ≡ 0 → first_elements s (later_elements s f from) n xs ≡ 0
later_begins s f from n some xs is =
    elim (cases_lt (place s.extents xs) n) [
      | inl low ↦ among_first s (later_elements s f from) n xs low ∙ before_later s f from xs (omega (arith, is))
      | inr high ↦ behind_first s (later_elements s f from) n xs high
    ]

pub far_ahead : (storage : Storage) (s : Tiling) (from : ℕ) → 0 < from → 8 ≤ bytes_ahead storage s from
far_ahead Flat s from some = omega arith
far_ahead (Array form) s from some = omega arith

-- what is left where a band but the last to be written is read or written
pub later_left : (storage : Storage) (s : Tiling) → IsTiling s → (name : List ℕ) (f : Files → List ℕ → ℕ) (len done from : ℕ) (before then now : Option Files) → 0 < len → 0 < from
    → then ≡ holding_by name (λ fs. bare_bytes storage s (first_elements s (later_elements s (f fs) len) done)) before
    → bytes_before name (bytes_ahead storage s from) now ≡ bytes_before name (bytes_ahead storage s from) then
    → LeavesNoHalfOf name (last_written storage s) (λ fs. stored_bytes storage s (f fs)) before now
later_left storage s t name f len done from before then now some behind made ahead =
    begun_left name (last_written storage s) (λ fs. stored_bytes storage s (f fs)) (λ fs. bare_bytes storage s (first_elements s (later_elements s (f fs) len) done)) before then now made
    (shorter_before name 8 (bytes_ahead storage s from) then now (far_ahead storage s from behind) ahead)
    (λ fs. begins_bare storage s t (first_elements s (later_elements s (f fs) len) done) (later_begins s (f fs) len done some))

-- and where an array's elements are written in order
pub first_left : (form : Form) (s : Tiling) → IsTiling s → (name : List ℕ) (f : Files → List ℕ → ℕ) (from : ℕ) (before then now : Option Files)
    → then ≡ holding_by name (λ fs. bare_bytes (Array form) s (f fs)) before
    → bytes_before name (bytes_ahead (Array form) s from) now ≡ bytes_before name (bytes_ahead (Array form) s from) then
    → (whole : Files → List ℕ) → LeavesNoHalfOf name (head_len form s) whole before now
first_left form s t name f from before then now made ahead whole =
    begun_left name (head_len form s) whole (λ fs. bare_bytes (Array form) s (f fs)) before then now made
    (shorter_before name 8 (head_len form s) then now (omega arith) ahead)
    (λ fs. zeros_before (head_len form s) (flat_map (word_bytes (width form)) (words_of (Array form) s (f fs))) (omega arith))

-- and where all elements are there, whatever became of the start
pub bare_left : (storage : Storage) (s : Tiling) (name : List ℕ) (f : Files → List ℕ → ℕ) (before then now : Option Files) → then ≡ holding_by name (λ fs. bare_bytes storage s (f fs)) before
    → bytes_from name (start_len storage s) now ≡ bytes_from name (start_len storage s) then → LeavesNoHalfOf name (last_written storage s) (λ fs. stored_bytes storage s (f fs)) before now
bare_left storage s name f before then now made behind =
    rest_left name (last_written storage s) (start_len storage s) (λ fs. stored_bytes storage s (f fs)) (λ fs. bare_bytes storage s (f fs)) before then now made (start_is_soon storage s) behind (λ fs. bare_behind storage s (f fs))

-- the file without its start is as long as the whole
pub bare_stored : (storage : Storage) (s : Tiling) → IsTiling s → (name : List ℕ) (f : Files → List ℕ → ℕ) (before now : Option Files) → now ≡ holding_by name (λ fs. bare_bytes storage s (f fs)) before
    → ForSome now (λ fs. HasStored storage s (file fs name))
bare_stored storage s t name f before now made x told =
    let h = held before now name (λ fs. bare_bytes storage s (f fs)) made x told in
    subst (HasStored storage s) (sym h.here) (length-bare storage s t (f h.files))

-- flat files with the same elements from one on
flat_behind : (s : Tiling) (f g : List ℕ → ℕ) (n : ℕ) → ((xs : List ℕ) → n ≤ place s.extents xs → place s.extents xs < elements s → f xs ≡ g xs)
    → drop (8 * n) (bare_bytes Flat s f) ≡ drop (8 * n) (stored_bytes Flat s g)
flat_behind s f g n same = drop-words 8 (in_order s f) n ∙ ap (flat_map (word_bytes 8)) words ∙ sym (drop-words 8 (in_order s g) n)
  where
    word : (h : List ℕ → ℕ) (k : ℕ) → k < elements s → get_or (in_order s h) k 0 ≡ h (get_or (places s.extents) k [])
    word h k lt = flat_word s h k lt

    words : drop n (in_order s f) ≡ drop n (in_order s g)
    words =
        ext_get_or 0 (drop n (in_order s f)) (drop n (in_order s g)) (omega (arith, length-drop n (in_order s f), length-drop n (in_order s g), (flat_holds s).count f, (flat_holds s).count g)) (λ k lt.
        let below : n + k < elements s = omega (arith, length-drop n (in_order s f), (flat_holds s).count f) in
        let at = (places_every s.extents (n + k) below).1 in
        get_or-drop n (in_order s f) k 0
        ∙ word f (n + k) below
        ∙ same (get_or (places s.extents) (n + k) []) (omega (arith, at)) (omega (arith, at))
        ∙ sym (word g (n + k) below)
        ∙ sym (get_or-drop n (in_order s g) k 0))

-- what is left where the last band is not written
pub last_left : (storage : Storage) (s : Tiling) → IsTiling s → (name : List ℕ) (f : Files → List ℕ → ℕ) (len done : ℕ) (before then now : Option Files) → 0 < len → len ≤ 32768 → elements s ≤ done
    → then ≡ holding_by name (λ fs. bare_bytes storage s (first_elements s (later_elements s (f fs) len) done)) before
    → bytes_before name (bytes_ahead storage s 0) now ≡ bytes_before name (bytes_ahead storage s 0) then
    → (storage ≡ Flat → bytes_from name (8 * len) now ≡ bytes_from name (8 * len) then)
    → LeavesNoHalfOf name (last_written storage s) (λ fs. stored_bytes storage s (f fs)) before now
last_left Flat s t name f len done before then now some short all made ahead behind =
    rest_left name 262144 (8 * len) (λ fs. stored_bytes Flat s (f fs)) (λ fs. bare_bytes Flat s (first_elements s (later_elements s (f fs) len) done)) before then now made (omega arith) (behind refl)
    (λ fs. flat_behind s (first_elements s (later_elements s (f fs) len) done) (f fs) len (λ xs from below. among_first s (later_elements s (f fs) len) done xs (omega arith) ∙ among_later s (f fs) len xs from))
last_left (Array form) s t name f len done before then now some short all made ahead behind =
    begun_left name (head_len form s) (λ fs. stored_bytes (Array form) s (f fs)) (λ fs. bare_bytes (Array form) s (first_elements s (later_elements s (f fs) len) done)) before then now made
    (shorter_before name 8 (head_len form s) then now (omega arith) ahead)
    (λ fs. begins_bare (Array form) s t (first_elements s (later_elements s (f fs) len) done) (later_begins s (f fs) len done some))

-- ---- the commands

pub packed_left : (s : Tiling) → IsTiling s → (flat name : List ℕ) (before middle after : Option Files) → middle ≡ before
    → LeavesNoHalfOf name (head_len One s) (λ fs. stored_bytes (Array One) s (element_in Flat s (contents fs flat))) middle after → LeavesNoHalfOf name (head_len One s) (λ fs. array_bytes s (flat_element s (contents fs flat))) before after
packed_left s t flat name before middle after same left =
    left_as name (head_len One s) (λ fs. stored_bytes (Array One) s (element_in Flat s (contents fs flat))) (λ fs. array_bytes s (flat_element s (contents fs flat))) before after
    (λ fs was. stored_same (Array One) s t _ _ (λ xs h. flat_is s (contents fs flat) xs))
    (left_since name (head_len One s) (λ fs. stored_bytes (Array One) s (element_in Flat s (contents fs flat))) before middle after same left)

pub moved_left : (to : Storage) (s : Tiling) (form : Form) (array name : List ℕ) (before middle after : Option Files) → middle ≡ before → ForSome before (λ fs. IsSomeAnd (file fs array) (IsOpened s form))
    → LeavesNoHalfOf name (last_written to s) (λ fs. stored_bytes to s (element_in (Array form) s (contents fs array))) middle after
    → LeavesNoHalfOf name (last_written to s) (λ fs. stored_bytes to s (array_element s (contents fs array))) before after
moved_left to s form array name before middle after same opened left =
    left_as name (last_written to s) (λ fs. stored_bytes to s (element_in (Array form) s (contents fs array))) (λ fs. stored_bytes to s (array_element s (contents fs array))) before after
    (λ fs was. ap (stored_bytes to s) (array_elements s form (contents fs array) (opened_form s form (file fs array) (opened fs was))))
    (left_since name (last_written to s) (λ fs. stored_bytes to s (element_in (Array form) s (contents fs array))) before middle after same left)
