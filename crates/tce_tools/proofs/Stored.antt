-- The words of each kind of file, by its elements.
use Rattle.std.proofs.Common.{◌≡◌, ◌∙◌, ◌⊎◌, ℕ, ◌+◌, ◌*◌, ◌<◌, ◌≤◌, true, false, nat_lt, if◌then◌else◌, List, [], ◌++◌, length, replicate, get_or, refl, sym, ap, inl, inr, arith, length-append}
use Rattle.std.specs.List.{flat_map}
use Rattle.std.proofs.lemmas.Bool.{cases_Bool, cases_lt}
use Rattle.std.proofs.lemmas.List.{length-map, length-replicate, get_or-map, ext_get_or}
use Rattle.tce_base.specs.Word.{word_bytes}
use Rattle.tce_base.proofs.WordBytes.{length-words}
use Rattle.tce_space.specs.Box.{places, place, IsInside, is_inside}
use Rattle.tce_space.specs.Tiling.{Tiling, IsTiling, joined, elements}
use Rattle.tce_space.proofs.Boxes.{length-places, places_every, place_injective, place-lt}
use Rattle.tce_space.proofs.Tilings.{word_number_injective}
use Rattle.tce_array.specs.declared.form.Form.{Form}
use Rattle.tce_array.specs.Forms.{width, words}
use Rattle.tce_array.proofs.Contents.{word_of_element, get-words, length-file_words, length-head}
use Rattle.tce_array.proofs.Padding.{word_with_number, word_at_place, passes_inside}
use Rattle.tce_tools.specs.declared.storage.Storage.{Storage}
use Rattle.tce_tools.specs.declared.storage.Storage.TheVariants.{Flat, Array}
use Rattle.tce_tools.specs.Flat.{in_order}
use Rattle.tce_tools.specs.Storage.{form_in, start_of, start_len, words_of, word_count, begun_bytes, bare_bytes, stored_bytes, stored_len, number_of, first_elements, later_elements}

-- each word is that of one element, or 0 whatever the elements are
pub record IsElement (storage : Storage) (s : Tiling) (k : ℕ) : Type 0 where
  pub coords : List ℕ
  pub inside : IsInside s.extents coords
  pub number : number_of storage s coords ≡ k

abbrev IsPadding : Storage → Tiling → ℕ → Type 0
IsPadding storage s k = (element : List ℕ → ℕ) → get_or (words_of storage s element) k 0 ≡ 0

pub record HoldsElements (storage : Storage) (s : Tiling) : Type 0 where
  pub word : (element : List ℕ → ℕ) (xs : List ℕ) → IsInside s.extents xs → get_or (words_of storage s element) (number_of storage s xs) 0 ≡ element xs
  pub each : (k : ℕ) → k < word_count storage s → IsElement storage s k ⊎ IsPadding storage s k
  pub count : (element : List ℕ → ℕ) → length (words_of storage s element) ≡ word_count storage s
  pub apart : (xs ys : List ℕ) → IsInside s.extents xs → IsInside s.extents ys → number_of storage s xs ≡ number_of storage s ys → xs ≡ ys

pub flat_word : (s : Tiling) (element : List ℕ → ℕ) (k : ℕ) → k < elements s → get_or (in_order s element) k 0 ≡ element (get_or (places s.extents) k [])
flat_word s element k h =
    let short : k < length (places s.extents) = rw length-places h in
    get_or-map element (places s.extents) k [] 0 short

pub flat_holds : (s : Tiling) → HoldsElements Flat s
flat_holds s = record {
  word = λ element xs h.
      let lt : place s.extents xs < elements s = place-lt s.extents xs h in
      let there = places_every s.extents (place s.extents xs) lt in
      flat_word s element (place s.extents xs) lt ∙ ap element (place_injective s.extents _ xs there.0 h there.1);
  each = λ k lt.
      let there = places_every s.extents k lt in
      inl (record { coords = get_or (places s.extents) k []; inside = there.0; number = there.1 });
  count = λ element. length-map (places s.extents) element ∙ length-places s.extents;
  apart = λ xs ys h k e. place_injective s.extents xs ys h k e;
}

pub array_holds : (form : Form) (s : Tiling) → IsTiling s → HoldsElements (Array form) s
array_holds form s t = record {
  word = λ element xs h. word_of_element s element t xs h;
  each = λ k lt.
      let at = word_with_number s k lt in
      let xs : List ℕ = joined s.edges at.tile at.inner in
      elim (cases_Bool (is_inside s.extents xs)) [
        | inl inside ↦ inl (record { coords = xs; inside = passes_inside s.extents s.edges at.tile at.inner t.same_rank at.tile_in at.inner_in inside; number = word_at_place s t k at })
        | inr outside ↦ inr (λ element.
            ap (λ j. get_or (words s element) j 0) (sym at.number)
            ∙ get-words s element at.tile at.inner at.tile_in at.inner_in
            ∙ ap (λ b. if b then element xs else 0) outside)
      ];
  count = λ element. length-file_words s element;
  apart = λ xs ys h k e. word_number_injective s xs ys t.same_rank t.positive h k e;
}

pub storage_holds : (storage : Storage) (s : Tiling) → IsTiling s → HoldsElements storage s
storage_holds Flat s t = flat_holds s
storage_holds (Array form) s t = array_holds form s t

-- the first elements, and zeros
pub among_first : (s : Tiling) (element : List ℕ → ℕ) (count : ℕ) (xs : List ℕ) → place s.extents xs < count → first_elements s element count xs ≡ element xs
among_first s element count xs h = let test : nat_lt (place s.extents xs) count ≡ true = grind (arith, h) in ap (λ b. if b then element xs else 0) test

pub behind_first : (s : Tiling) (element : List ℕ → ℕ) (count : ℕ) (xs : List ℕ) → count ≤ place s.extents xs → first_elements s element count xs ≡ 0
behind_first s element count xs h = let test : nat_lt (place s.extents xs) count ≡ false = grind (arith, h) in ap (λ b. if b then element xs else 0) test

-- lists of words are told by the elements
pub words_same : (storage : Storage) (s : Tiling) → IsTiling s → (f g : List ℕ → ℕ) → ((xs : List ℕ) → IsInside s.extents xs → f xs ≡ g xs) → words_of storage s f ≡ words_of storage s g
words_same storage s t f g same =
    let holds = storage_holds storage s t in
    ext_get_or 0 (words_of storage s f) (words_of storage s g) (holds.count f ∙ sym (holds.count g)) (λ k lt.
    elim (holds.each k (omega (arith, holds.count f))) [
      | inl at ↦
          ap (λ j. get_or (words_of storage s f) j 0) (sym at.number)
          ∙ holds.word f at.coords at.inside ∙ same at.coords at.inside ∙ sym (holds.word g at.coords at.inside)
          ∙ ap (λ j. get_or (words_of storage s g) j 0) at.number
      | inr none ↦ none f ∙ sym (none g)
    ])

pub begun_same : (storage : Storage) (s : Tiling) → IsTiling s → (start : List ℕ) (f g : List ℕ → ℕ) → ((xs : List ℕ) → IsInside s.extents xs → f xs ≡ g xs) → begun_bytes storage s start f ≡ begun_bytes storage s start g
begun_same storage s t start f g same = ap (λ ws. start ++ flat_map (word_bytes (width (form_in storage))) ws) (words_same storage s t f g same)

pub stored_same : (storage : Storage) (s : Tiling) → IsTiling s → (f g : List ℕ → ℕ) → ((xs : List ℕ) → IsInside s.extents xs → f xs ≡ g xs) → stored_bytes storage s f ≡ stored_bytes storage s g
stored_same storage s t f g same = begun_same storage s t (start_of storage s) f g same

pub bare_same : (storage : Storage) (s : Tiling) → IsTiling s → (f g : List ℕ → ℕ) → ((xs : List ℕ) → IsInside s.extents xs → f xs ≡ g xs) → bare_bytes storage s f ≡ bare_bytes storage s g
bare_same storage s t f g same = begun_same storage s t (replicate (start_len storage s) 0) f g same

-- the elements from one on, and zeros
pub before_later : (s : Tiling) (element : List ℕ → ℕ) (from : ℕ) (xs : List ℕ) → place s.extents xs < from → later_elements s element from xs ≡ 0
before_later s element from xs h = let test : nat_lt (place s.extents xs) from ≡ true = grind (arith, h) in ap (λ b. if b then 0 else element xs) test

pub among_later : (s : Tiling) (element : List ℕ → ℕ) (from : ℕ) (xs : List ℕ) → from ≤ place s.extents xs → later_elements s element from xs ≡ element xs
among_later s element from xs h = let test : nat_lt (place s.extents xs) from ≡ false = grind (arith, h) in ap (λ b. if b then 0 else element xs) test

-- no element, and all elements
pub no_elements : (storage : Storage) (s : Tiling) → IsTiling s → (f : List ℕ → ℕ) → bare_bytes storage s (λ _. 0) ≡ bare_bytes storage s (first_elements s f 0)
no_elements storage s t f = bare_same storage s t (λ _. 0) (first_elements s f 0) (λ xs h. sym (behind_first s f 0 xs (omega arith)))

pub no_later_elements : (storage : Storage) (s : Tiling) → IsTiling s → (f : List ℕ → ℕ) (n : ℕ) → bare_bytes storage s (λ _. 0) ≡ bare_bytes storage s (first_elements s (later_elements s f n) n)
no_later_elements storage s t f n =
    bare_same storage s t (λ _. 0) (first_elements s (later_elements s f n) n) (λ xs h.
    elim (cases_lt (place s.extents xs) n) [
      | inl low ↦ sym (among_first s (later_elements s f n) n xs low ∙ before_later s f n xs low)
      | inr high ↦ sym (behind_first s (later_elements s f n) n xs high)
    ])

pub all_elements : (storage : Storage) (s : Tiling) → IsTiling s → (f : List ℕ → ℕ) (n : ℕ) → elements s ≤ n → bare_bytes storage s (first_elements s f n) ≡ bare_bytes storage s f
all_elements storage s t f n le = bare_same storage s t (first_elements s f n) f (λ xs h. among_first s f n xs (omega (arith, place-lt s.extents xs h)))

pub length-start : (storage : Storage) (s : Tiling) → length (start_of storage s) ≡ start_len storage s
length-start Flat s = refl
length-start (Array form) s = length-head form s

pub length-begun : (storage : Storage) (s : Tiling) → IsTiling s → (start : List ℕ) (f : List ℕ → ℕ) → length start ≡ start_len storage s → length (begun_bytes storage s start f) ≡ stored_len storage s
length-begun storage s t start f len =
    let both = length-append start (flat_map (word_bytes (width (form_in storage))) (words_of storage s f)) in
    both ∙ ap (λ n. n + length (flat_map (word_bytes (width (form_in storage))) (words_of storage s f))) len
    ∙ ap (λ n. start_len storage s + n) (length-words (width (form_in storage)) (words_of storage s f) ∙ ap (λ n. width (form_in storage) * n) ((storage_holds storage s t).count f))

pub length-bare : (storage : Storage) (s : Tiling) → IsTiling s → (f : List ℕ → ℕ) → length (bare_bytes storage s f) ≡ stored_len storage s
length-bare storage s t f = length-begun storage s t (replicate (start_len storage s) 0) f (length-replicate (start_len storage s) 0)
