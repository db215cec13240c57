-- Words of a file that are no element, and the words of one tile.
use Rattle.std.proofs.Common.{◌≡◌, ◌∙◌, ℕ, zero, suc, ◌+◌, ◌*◌, ◌/◌, ◌%◌, ◌<◌, Bool, true, false, ◌&&◌, nat_lt, if◌then◌else◌, List, [], ◌∷◌, length, sym, refl, ap, inl, inr, arith, get_or}
use Rattle.std.proofs.lemmas.Bool.{cases_Bool}
use Rattle.std.proofs.lemmas.Nat.{div_below, mod_below, div-add-mod', div-mul-add, mod-mul-add}
use Rattle.tce_space.specs.Box.{place, places, IsInside, is_inside}
use Rattle.tce_space.specs.Tiling.{Tiling, IsTiling, counts_along, divided, remainders, joined, tile_counts, tile_words, tiles, padded_words, word_number}
use Rattle.tce_space.proofs.Boxes.{places_every}
use Rattle.tce_array.specs.declared.form.Form.{Form}
use Rattle.tce_array.specs.declared.form.Form.TheVariants.{One, Narrow, Wide}
use Rattle.tce_base.specs.Word.{word_bytes, word_of_bytes, widened}
use Rattle.tce_array.specs.Forms.{word_in, words, form_bytes, word_at, Fits}
use Rattle.tce_array.specs.Files.{IsPadding}
use Rattle.tce_array.proofs.Contents.{get-words, word_of_file}

-- a product above some number is not 0
pub some_factor : (n m k : ℕ) → k < n * m → 0 < m
some_factor n zero k h = let none : n * 0 ≡ 0 = omega arith in absurd (omega arith)
some_factor n (suc m) k h = omega arith

-- a tile and a place in it, from the coordinates there
divided-joined : (ns es ts is : List ℕ) → length es ≡ length ns → IsInside (counts_along ns es) ts → IsInside es is → divided es (joined es ts is) ≡ ts
divided-joined [] [] [] is l h k = refl
divided-joined [] [] (t ∷ ts) is l h k = absurd h
divided-joined [] (e ∷ es) ts is l h k = absurd (omega arith)
divided-joined (n ∷ ns) [] ts is l h k = absurd (omega arith)
divided-joined (n ∷ ns) (e ∷ es) [] is l h k = absurd h
divided-joined (n ∷ ns) (e ∷ es) (t ∷ ts) [] l h k = absurd k
divided-joined (n ∷ ns) (e ∷ es) (t ∷ ts) (x ∷ is) l h k =
    ap (λ q. q ∷ divided es (joined es ts is)) (div-mul-add t e x k.0)
    ∙ ap (λ qs. t ∷ qs) (divided-joined ns es ts is (omega arith) h.1 k.1)

remainders-joined : (ns es ts is : List ℕ) → length es ≡ length ns → IsInside (counts_along ns es) ts → IsInside es is → remainders es (joined es ts is) ≡ is
remainders-joined [] [] ts [] l h k = refl
remainders-joined [] [] ts (x ∷ is) l h k = absurd k
remainders-joined [] (e ∷ es) ts is l h k = absurd (omega arith)
remainders-joined (n ∷ ns) [] ts is l h k = absurd (omega arith)
remainders-joined (n ∷ ns) (e ∷ es) [] is l h k = absurd h
remainders-joined (n ∷ ns) (e ∷ es) (t ∷ ts) [] l h k = absurd k
remainders-joined (n ∷ ns) (e ∷ es) (t ∷ ts) (x ∷ is) l h k =
    ap (λ q. q ∷ remainders es (joined es ts is)) (mod-mul-add t e x k.0)
    ∙ ap (λ qs. x ∷ qs) (remainders-joined ns es ts is (omega arith) h.1 k.1)

-- coordinates that pass the test are inside
both_true : (a b : Bool) → a && b ≡ true → (a ≡ true) × (b ≡ true)
both_true true b h = (refl, h)
both_true false b h = absurd (let k : ⊥ = cc in k)

pub passes_inside : (ns es ts is : List ℕ) → length es ≡ length ns → IsInside (counts_along ns es) ts → IsInside es is → is_inside ns (joined es ts is) ≡ true → IsInside ns (joined es ts is)
passes_inside [] [] ts is l h k test = tt
passes_inside [] (e ∷ es) ts is l h k test = absurd (omega arith)
passes_inside (n ∷ ns) [] ts is l h k test = absurd (omega arith)
passes_inside (n ∷ ns) (e ∷ es) [] is l h k test = absurd h
passes_inside (n ∷ ns) (e ∷ es) (t ∷ ts) [] l h k test = absurd k
passes_inside (n ∷ ns) (e ∷ es) (t ∷ ts) (x ∷ is) l h k test =
    let parts = both_true (nat_lt (t * e + x) n) (is_inside ns (joined es ts is)) test in
    let first : nat_lt (t * e + x) n ≡ true = parts.0 in
    let low : t * e + x < n = grind (arith, first) in
    (low, passes_inside ns es ts is (omega arith) h.1 k.1 parts.1)

-- the word with a number: its tile, its place there, and the coordinates
pub record IsWord (s : Tiling) (k : ℕ) : Type 0 where
  pub tile : List ℕ
  pub inner : List ℕ
  pub tile_in : IsInside (tile_counts s) tile
  pub inner_in : IsInside s.edges inner
  pub number : tile_words s * place (tile_counts s) tile + place s.edges inner ≡ k

pub word_with_number : (s : Tiling) (k : ℕ) → k < padded_words s → IsWord s k
word_with_number s k h =
    let m : ℕ = tile_words s in
    let turned : k < tiles s * m = omega arith in
    let some : 0 < m = some_factor (tiles s) m k turned in
    let outer = places_every (tile_counts s) (k / m) (div_below k m (tiles s) some turned) in
    let inner = places_every s.edges (k % m) (mod_below k m some) in
    let is : k / m * m + k % m ≡ k = div-add-mod' k m in
    record {
      tile = get_or (places (tile_counts s)) (k / m) [];
      inner = get_or (places s.edges) (k % m) [];
      tile_in = outer.0;
      inner_in = inner.0;
      number = ap (λ t. m * t + place s.edges (get_or (places s.edges) (k % m) [])) outer.1 ∙ ap (λ p. m * (k / m) + p) inner.1 ∙ (let same : m * (k / m) + k % m ≡ k = omega arith in same);
    }

zero_fits : (form : Form) → Fits form 0
unfolding word_bytes word_of_bytes widened word_in
zero_fits One = refl
zero_fits Narrow = refl
zero_fits Wide = refl

-- the coordinates there have that number
pub word_at_place : (s : Tiling) → IsTiling s → (k : ℕ) (at : IsWord s k) → word_number s (joined s.edges at.tile at.inner) ≡ k
word_at_place s t k at =
    let l = t.same_rank in
    let xs : List ℕ = joined s.edges at.tile at.inner in
    ap (λ ts. tile_words s * place (tile_counts s) ts + place s.edges (remainders s.edges xs)) (divided-joined s.extents s.edges at.tile at.inner l at.tile_in at.inner_in)
    ∙ ap (λ is. tile_words s * place (tile_counts s) at.tile + place s.edges is) (remainders-joined s.extents s.edges at.tile at.inner l at.tile_in at.inner_in)
    ∙ at.number

-- a word of the list that is no element is 0
pub padding_word : (s : Tiling) (element : List ℕ → ℕ) → IsTiling s → (k : ℕ) → k < padded_words s → IsPadding s k → get_or (words s element) k 0 ≡ 0
padding_word s element t k h none =
    let at = word_with_number s k h in
    let l = t.same_rank in
    let xs : List ℕ = joined s.edges at.tile at.inner in
    ap (λ j. get_or (words s element) j 0) (sym at.number)
    ∙ get-words s element at.tile at.inner at.tile_in at.inner_in
    ∙ elim (cases_Bool (is_inside s.extents xs)) [
      | inl inside ↦ absurd (none xs (passes_inside s.extents s.edges at.tile at.inner l at.tile_in at.inner_in inside) (word_at_place s t k at))
      | inr outside ↦ ap (λ b. if b then element xs else 0) outside
    ]

pub padding_is_zero : (form : Form) (s : Tiling) (element : List ℕ → ℕ) → IsTiling s → (k : ℕ) → k < padded_words s → IsPadding s k → word_at form s (form_bytes form s element) k ≡ 0
padding_is_zero form s element t k h none =
    let is = padding_word s element t k h none in
    let fits : Fits form (get_or (words s element) k 0) = rw is (zero_fits form) in
    word_of_file form s element k h fits ∙ is
