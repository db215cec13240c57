-- A file is told by its elements.
use Rattle.std.proofs.Common.{◌≡◌, ◌⊎◌, ◌∙◌, ◌/◌, ◌%◌, ℕ, zero, suc, ◌+◌, ◌-◌, ◌*◌, ◌^◌, ◌<◌, ◌≤◌, true, false, nat_lt, if◌then◌else◌, List, [], ◌∷◌, ◌++◌, length, take, drop, sym, refl, ap, inl, inr, arith, get_or}
use Rattle.std.specs.List.{flat_map}
use Rattle.std.proofs.lemmas.Bool.{cases_Bool, true≢false}
use Rattle.std.proofs.lemmas.Nat.{same_from_place}
use Rattle.std.proofs.lemmas.List.{get_or-drop, drop-drop, take-append-drop, length-drop, ext_get_or}
use Rattle.tce_base.specs.Word.{word_bytes, word_of_bytes, widened}
use Rattle.tce_base.proofs.WordBytes.{bytes_of_word}
use Rattle.tce_space.specs.Box.{place, IsInside, is_inside}
use Rattle.tce_space.specs.Tiling.{Tiling, IsTiling, divided, remainders, joined, tile_counts, tile_words, padded_words, word_number, tile_number, place_in_tile}
use Rattle.tce_space.proofs.Boxes.{place-lt, place_injective, is_inside_true}
use Rattle.tce_space.proofs.Tilings.{divided_inside, remainders_inside, joined_back, place_in_tile-lt}
use Rattle.tce_array.specs.declared.form.Form.{Form}
use Rattle.tce_array.specs.declared.form.Form.TheVariants.{One, Narrow, Wide}
use Rattle.tce_array.specs.Forms.{width, word_in, words, head, head_len, form_bytes, IsForm, word_at, cell}
use Rattle.tce_array.specs.Files.{IsPadding, AreBytes}
use Rattle.tce_array.proofs.Contents.{word_of_element, length-file_words}
use Rattle.tce_array.proofs.Padding.{padding_word, word_with_number, word_at_place, passes_inside}

-- four bytes are the lowest bytes of the signed word that they spell
four_bytes : (a b c d n m : ℕ) → a < 256 → b < 256 → c < 256 → d < 256 → n ≡ a + 256 * b + 65536 * c + 16777216 * d → (m ≡ n) ⊎ (m ≡ n + (2 ^ 64 - 2 ^ 32))
    → word_bytes 4 m ≡ a ∷ b ∷ c ∷ d ∷ []
unfolding word_bytes
four_bytes a b c d n m ha hb hc hd is by =
    let first : m % 256 ≡ a = elim by [ inl e ↦ omega arith | inr e ↦ omega arith ] in
    let second : m / 256 % 256 ≡ b = elim by [ inl e ↦ omega arith | inr e ↦ omega arith ] in
    let third : m / 65536 % 256 ≡ c = elim by [ inl e ↦ omega arith | inr e ↦ omega arith ] in
    let fourth : m / 16777216 % 256 ≡ d = elim by [ inl e ↦ omega arith | inr e ↦ omega arith ] in
    cc

widened_by : (n : ℕ) → (widened n ≡ n) ⊎ (widened n ≡ n + (2 ^ 64 - 2 ^ 32))
unfolding widened
widened_by n = elim (nat_lt n (2 ^ 31)) as (λ b. ((if b then n else n + (2 ^ 64 - 2 ^ 32)) ≡ n) ⊎ ((if b then n else n + (2 ^ 64 - 2 ^ 32)) ≡ n + (2 ^ 64 - 2 ^ 32))) [ true ↦ inl refl | false ↦ inr refl ]

bytes_of_four : (bs : List ℕ) → 4 ≤ length bs → AreBytes bs → word_bytes 4 (widened (word_of_bytes 4 bs)) ≡ take 4 bs
unfolding word_of_bytes
bytes_of_four [] h fits = absurd (omega arith)
bytes_of_four (a ∷ []) h fits = absurd (omega arith)
bytes_of_four (a ∷ b ∷ []) h fits = absurd (omega arith)
bytes_of_four (a ∷ b ∷ c ∷ []) h fits = absurd (omega arith)
bytes_of_four (a ∷ b ∷ c ∷ d ∷ rest) h fits = four_bytes a b c d (word_of_bytes 4 (a ∷ b ∷ c ∷ d ∷ rest)) (widened (word_of_bytes 4 (a ∷ b ∷ c ∷ d ∷ rest))) (fits 0) (fits 1) (fits 2) (fits 3) (omega arith) (widened_by (word_of_bytes 4 (a ∷ b ∷ c ∷ d ∷ rest)))

bytes_of : (form : Form) (bs : List ℕ) → width form ≤ length bs → AreBytes bs → word_bytes (width form) (word_in form bs) ≡ take (width form) bs
unfolding word_in
bytes_of One bs h fits = bytes_of_word bs h fits
bytes_of Narrow bs h fits = bytes_of_four bs h fits
bytes_of Wide bs h fits = bytes_of_word bs h fits

-- the words that bytes spell
words_in : Form → ℕ → List ℕ → List ℕ
words_in form zero bs = []
words_in form (suc n) bs = word_in form bs ∷ words_in form n (drop (width form) bs)

length-words_in : (form : Form) (n : ℕ) (bs : List ℕ) → length (words_in form n bs) ≡ n
unfolding words_in
length-words_in form zero bs = refl
length-words_in form (suc n) bs = ap suc (length-words_in form n (drop (width form) bs))

get_or-words_in : (form : Form) (n : ℕ) (bs : List ℕ) (k : ℕ) → k < n → get_or (words_in form n bs) k 0 ≡ word_in form (drop (width form * k) bs)
unfolding words_in
get_or-words_in form zero bs k h = absurd (omega arith)
get_or-words_in form (suc n) bs zero h = let none : 0 ≡ width form * 0 = omega arith in ap (λ i. word_in form (drop i bs)) none
get_or-words_in form (suc n) bs (suc k) h =
    let more : width form + width form * k ≡ width form * suc k = omega arith in
    get_or-words_in form n (drop (width form) bs) k (omega arith)
    ∙ ap (word_in form) (drop-drop (width form * k) (width form) bs ∙ ap (λ i. drop i bs) more)

bytes_of_words_in : (form : Form) (n : ℕ) (bs : List ℕ) → length bs ≡ width form * n → AreBytes bs → flat_map (word_bytes (width form)) (words_in form n bs) ≡ bs
unfolding words_in
bytes_of_words_in form zero [] len fits = refl
bytes_of_words_in form zero (b ∷ bs) len fits = absurd (omega arith)
bytes_of_words_in form (suc n) bs len fits =
    let w : ℕ = width form in
    let left = length-drop w bs in
    ap (λ l. l ++ flat_map (word_bytes w) (words_in form n (drop w bs))) (bytes_of form bs (omega arith) fits)
    ∙ ap (λ l. take w bs ++ l) (bytes_of_words_in form n (drop w bs) (omega arith) (λ i. rw (get_or-drop w bs i 0) (fits (w + i))))
    ∙ take-append-drop w bs

-- each word is an element's or padding
same_word : (form : Form) (s : Tiling) (element : List ℕ → ℕ) (bytes : List ℕ) → IsTiling s
    → ((xs : List ℕ) → IsInside s.extents xs → cell form s bytes xs ≡ element xs)
    → ((k : ℕ) → k < padded_words s → IsPadding s k → word_at form s bytes k ≡ 0)
    → (k : ℕ) → k < padded_words s → word_at form s bytes k ≡ get_or (words s element) k 0
same_word form s element bytes t elements padding k h =
    let at = word_with_number s k h in
    let l = t.same_rank in
    let p = t.positive in
    let xs : List ℕ = joined s.edges at.tile at.inner in
    let number : word_number s xs ≡ k = word_at_place s t k at in
    elim (cases_Bool (is_inside s.extents xs)) [
      | inl test ↦
          let inside : IsInside s.extents xs = passes_inside s.extents s.edges at.tile at.inner l at.tile_in at.inner_in test in
          ap (word_at form s bytes) (sym number) ∙ elements xs inside ∙ sym (word_of_element s element t xs inside) ∙ ap (λ j. get_or (words s element) j 0) number
      | inr test ↦
          let none : IsPadding s k = λ ys inside e.
          let e' : at_number s at.tile at.inner ≡ at_number s (divided s.edges ys) (remainders s.edges ys) = at.number ∙ sym e in
          let outer = divided_inside s.extents s.edges ys l p inside in
          let inner = remainders_inside s.extents s.edges ys l p inside in
          let turned : place (tile_counts s) at.tile * tile_words s + place s.edges at.inner ≡ tile_number s ys * tile_words s + place_in_tile s ys = omega arith in
          let both = same_from_place (place (tile_counts s) at.tile) (place s.edges at.inner) (tile_number s ys) (place_in_tile s ys) (tile_words s) (place-lt s.edges at.inner at.inner_in) (place_in_tile-lt s ys l p inside) turned in
          let tile : at.tile ≡ divided s.edges ys = place_injective (tile_counts s) _ _ at.tile_in outer both.0 in
          let within : at.inner ≡ remainders s.edges ys = place_injective s.edges _ _ at.inner_in inner both.1 in
          let same : xs ≡ ys = ap (λ ts. joined s.edges ts at.inner) tile ∙ ap (λ is. joined s.edges (divided s.edges ys) is) within ∙ joined_back s.extents s.edges ys l inside in
          true≢false (sym (is_inside_true s.extents ys inside) ∙ ap (is_inside s.extents) (sym same) ∙ test) in
          padding k h none ∙ sym (padding_word s element t k h none)
    ]
  where
    at_number : Tiling → List ℕ → List ℕ → ℕ
    at_number s ts is = tile_words s * place (tile_counts s) ts + place s.edges is

pub told_by_elements : (form : Form) (s : Tiling) (element : List ℕ → ℕ) (bytes : List ℕ) → IsTiling s → IsForm form s bytes → AreBytes bytes
    → ((xs : List ℕ) → IsInside s.extents xs → cell form s bytes xs ≡ element xs)
    → ((k : ℕ) → k < padded_words s → IsPadding s k → word_at form s bytes k ≡ 0)
    → bytes ≡ form_bytes form s element
told_by_elements form s element bytes t h fits elements padding =
    let hl : ℕ = head_len form s in
    let rest : List ℕ = drop hl bytes in
    let n : ℕ = padded_words s in
    let left = length-drop hl bytes in
    let whole = h.whole in
    let spelled : flat_map (word_bytes (width form)) (words_in form n rest) ≡ rest = bytes_of_words_in form n rest (omega arith) (λ i. rw (get_or-drop hl bytes i 0) (fits (hl + i))) in
    let same : words_in form n rest ≡ words s element =
    ext_get_or 0 (words_in form n rest) (words s element) (length-words_in form n rest ∙ sym (length-file_words s element)) (λ k low.
    let below : k < n = omega (arith, length-words_in form n rest) in
    get_or-words_in form n rest k below
    ∙ ap (word_in form) (drop-drop (width form * k) hl bytes)
    ∙ same_word form s element bytes t elements padding k below) in
    sym (take-append-drop hl bytes)
    ∙ ap (λ l. l ++ rest) h.begins
    ∙ ap (λ l. head form s ++ l) (sym spelled ∙ ap (flat_map (word_bytes (width form))) same)
