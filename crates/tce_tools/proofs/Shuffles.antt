-- Elements of a band that are moved into its pieces, or out of them.
use Rattle.std.proofs.Common.{◌≡◌, ◌∙◌, ◌⊎◌, ℕ, ◌+◌, ◌-◌, ◌*◌, ◌/◌, ◌%◌, ◌<◌, ◌≤◌, List, [], ◌++◌, length, take, drop, get_or, slice_index, min, sym, ap, subst, arith, inl, inr, append_assoc}
use Rattle.std.proofs.Math.Nat.{mul-le-mul_left}
use Rattle.std.proofs.lemmas.Bool.{cases_lt}
use Rattle.std.proofs.lemmas.List.{drop-drop, get_or-take, get_or-drop, length-take-le, length-drop}
use Rattle.std.proofs.lemmas.Nat.{div-mul-add, mod-mul-add, same_from_place}
use Rattle.tce_space.specs.Box.{place, places, IsInside}
use Rattle.tce_space.specs.Tiling.{Tiling, word_number}
use Rattle.tce_space.proofs.Boxes.{places_every}
use Rattle.tce_space.proofs.Tilings.{word_number_injective}
use Rattle.tce_tools.specs.declared.band.Band.{Band}
use Rattle.tce_tools.specs.declared.run.Run.{Run}
use Rattle.tce_tools.specs.declared.shuffle.Part.{Part}
use borrow.Rule.Slice.PartMut.{put_mid}
use Rattle.tce_tools.specs.Runs.{IsRun, AreElements}
use Rattle.tce_tools.specs.Bands.{IsAt, IsBand, IsPart, AreTiled}
use Rattle.tce_outside.specs.Files.{overwritten}
use Rattle.tce_outside.proofs.Overwrites.{get_or-overwritten, get_or-overwritten_other}

-- where the first word of a run stands in a band
pub record IsStart (band : Band) (word : ℕ) : Type 0 where
  pub low : band.word ≤ word
  pub some : 0 < band.stride
  pub among : (word - band.word) / band.stride < band.pieces
  pub within : (word - band.word) % band.stride < band.piece_len
  pub room : (word - band.word) / band.stride * band.piece_len + band.piece_len ≤ band.pieces * band.piece_len
  pub is : word ≡ band.word + ((word - band.word) / band.stride * band.stride + (word - band.word) % band.stride)

start_at : (s : Tiling) (band : Band) (word index : ℕ) → IsBand s band → IsAt band word index → IsStart band word
start_at s band word index b at =
    let before : word - band.word ≡ at.piece * band.stride + at.offset = omega (arith, at.word_is) in
    let short : at.offset < band.stride = omega (arith, at.within, b.apart) in
    let q : (word - band.word) / band.stride ≡ at.piece = ap (λ z. z / band.stride) before ∙ div-mul-add at.piece band.stride at.offset short in
    let r : (word - band.word) % band.stride ≡ at.offset = ap (λ z. z % band.stride) before ∙ mod-mul-add at.piece band.stride at.offset short in
    let last : band.piece_len * (at.piece + 1) ≤ band.piece_len * band.pieces = mul-le-mul_left band.piece_len (omega (arith, at.among)) in
    let row : (word - band.word) / band.stride * band.piece_len ≡ at.piece * band.piece_len = ap (λ z. z * band.piece_len) q in
    let back : (word - band.word) / band.stride * band.stride ≡ at.piece * band.stride = ap (λ z. z * band.stride) q in
    record {
      low = omega (arith, at.word_is);
      some = omega (arith, short);
      among = omega (arith, q, at.among);
      within = omega (arith, r, at.within);
      room = omega (arith, row, last);
      is = omega (arith, at.word_is, back, r);
    }

pub start_in_band : (s : Tiling) (band : Band) (start : ℕ) (run : Run) → IsBand s band → IsRun s run → run.start ≡ start → band.start ≤ start → start < band.start + band.len → IsStart band run.word
start_in_band s band start run b r is low high =
    let there = places_every s.extents start (omega (arith, b.inside)) in
    let xs : List ℕ = get_or (places s.extents) start [] in
    let at = b.word (get_or (places s.extents) start []) there.0 (omega (arith, there.1)) (omega (arith, there.1)) in
    let number : word_number s (get_or (places s.extents) start []) ≡ run.word = r.numbers 0 r.some (get_or (places s.extents) start []) there.0 (omega (arith, there.1, is)) ∙ omega arith in
    subst (IsStart band) number (start_at s band (word_number s (get_or (places s.extents) start [])) at.0 b at.1)

pub part_is : (s : Tiling) (band : Band) (start : ℕ) (run : Run) (part : Part) → IsBand s band → IsRun s run → run.start ≡ start → band.start ≤ start → start < band.start + band.len
    → part.index ≡ (run.word - band.word) / band.stride * band.piece_len + (run.word - band.word) % band.stride
    → part.len ≡ min (min run.len (band.start + band.len - start)) (band.piece_len - (run.word - band.word) % band.stride) → IsPart s band start part
part_is s band start run part b r is low high index_is len_is =
    let at = start_in_band s band start run b r is low high in
    record {
      some = omega (arith, len_is, at.within, r.some);
      inside = omega (arith, len_is);
      room = omega (arith, len_is, index_is, at.room, at.within);
      at = λ k lt xs h placed. record {
        piece = (run.word - band.word) / band.stride;
        offset = (run.word - band.word) % band.stride + k;
        among = at.among;
        within = omega (arith, len_is, lt);
        word_is = omega (arith, r.numbers k (omega (arith, len_is, lt)) xs h (omega (arith, placed, is)), at.is);
        index_is = omega (arith, index_is);
      };
    }

-- a word stands at one place, and a place has one word
pub one_index : (band : Band) (word i j : ℕ) → band.piece_len ≤ band.stride → IsAt band word i → IsAt band word j → i ≡ j
one_index band word i j apart a b =
    let both = same_from_place a.piece a.offset b.piece b.offset band.stride (omega (arith, a.within)) (omega (arith, b.within)) (omega (arith, a.word_is, b.word_is)) in
    a.index_is ∙ ap (λ p. p * band.piece_len + a.offset) both.0 ∙ ap (λ o. b.piece * band.piece_len + o) both.1 ∙ sym b.index_is

pub one_word : (band : Band) (word other i : ℕ) → IsAt band word i → IsAt band other i → word ≡ other
one_word band word other i a b =
    let both = same_from_place a.piece a.offset b.piece b.offset band.piece_len a.within b.within (omega (arith, a.index_is, b.index_is)) in
    a.word_is ∙ ap (λ p. band.word + (p * band.stride + a.offset)) both.0 ∙ ap (λ o. band.word + (b.piece * band.stride + o)) both.1 ∙ sym b.word_is

-- the element of a part
part_element : (s : Tiling) (band : Band) (start : ℕ) (part : Part) (k : ℕ) → IsBand s band → IsPart s band start part → k < part.len
    → (xs : List ℕ) × IsInside s.extents xs × (place s.extents xs ≡ start + k) × IsAt band (word_number s xs) (part.index + k)
part_element s band start part k b p lt =
    let there = places_every s.extents (start + k) (omega (arith, b.inside, p.inside)) in
    (get_or (places s.extents) (start + k) [], there.0, there.1, p.at k lt (get_or (places s.extents) (start + k) []) there.0 there.1)

-- a part of a list that was copied over
put_mid_is : (a k : ℕ) (xs ys : List ℕ) → k ≡ length ys → put_mid a k xs ys ≡ overwritten xs a ys
put_mid_is a k xs ys is =
    ap (λ n. take a xs ++ (ys ++ drop n (drop a xs))) is ∙ ap (λ l. take a xs ++ (ys ++ l)) (drop-drop (length ys) a xs) ∙ sym (append_assoc (take a xs) ys (drop (a + length ys) xs))

pub copied : (a k : ℕ) (xs ys : List ℕ) (j : ℕ) → k ≡ length ys → a + length ys ≤ length xs → j < length ys → slice_index (put_mid a k xs ys) (a + j) ≡ slice_index ys j
copied a k xs ys j is room lt = ap (λ l. slice_index l (a + j)) (put_mid_is a k xs ys is) ∙ get_or-overwritten xs a ys j room lt

pub kept : (a k : ℕ) (xs ys : List ℕ) (i : ℕ) → k ≡ length ys → a + length ys ≤ length xs → (i < a) ⊎ (a + length ys ≤ i) → slice_index (put_mid a k xs ys) i ≡ slice_index xs i
kept a k xs ys i is room out = ap (λ l. slice_index l i) (put_mid_is a k xs ys is) ∙ get_or-overwritten_other xs a ys i room out

-- a part that is copied
pub record IsCopy (from n : ℕ) (xs ys : List ℕ) : Type 0 where
  pub len : length ys ≡ n
  pub each : (j : ℕ) → j < n → slice_index ys j ≡ slice_index xs (from + j)

pub copy_of : (from n m : ℕ) (xs ys : List ℕ) → ys ≡ take m (drop from xs) → m ≡ n → from + n ≤ length xs → IsCopy from n xs ys
copy_of from n m xs ys is e room = record {
  len = ap length is ∙ length-take-le m (drop from xs) (omega (arith, length-drop from xs)) ∙ e;
  each = λ j lt. ap (λ l. slice_index l j) is ∙ get_or-take m (drop from xs) j 0 (omega arith) ∙ get_or-drop from xs j 0;
}

-- one part more in row-major order
pub flat_more : (s : Tiling) (band : Band) (tiled words ys : List ℕ) (done : ℕ) (part : Part) → IsBand s band → IsPart s band (band.start + done) part
    → length tiled ≡ band.pieces * band.piece_len → length words ≡ band.len → ys ≡ take (part.index + part.len - part.index) (drop part.index tiled)
    → ((element : List ℕ → ℕ) → AreTiled s band element tiled → (k : ℕ) → k < done → (xs : List ℕ) → IsInside s.extents xs → place s.extents xs ≡ band.start + k → slice_index words k ≡ element xs)
    → (element : List ℕ → ℕ) → AreTiled s band element tiled → (k : ℕ) → k < done + part.len → (xs : List ℕ) → IsInside s.extents xs → place s.extents xs ≡ band.start + k
    → slice_index (put_mid done (done + part.len - done) words ys) k ≡ element xs
flat_more s band tiled words ys done part b p tiled_len words_len is before element values k lt xs h placed =
    let copy = copy_of part.index part.len (part.index + part.len - part.index) tiled ys is (omega arith) (omega (arith, p.room)) in
    let count : done + part.len - done ≡ length ys = omega (arith, copy.len) in
    let room : done + length ys ≤ length words = omega (arith, copy.len, p.inside) in
    elim (cases_lt k done) [
      | inl low ↦ kept done (done + part.len - done) words ys k count room (inl low) ∙ before element values k low xs h placed
      | inr high ↦
          let j : ℕ = k - done in
          let at : k ≡ done + (k - done) = omega arith in
          ap (slice_index (put_mid done (done + part.len - done) words ys)) at
          ∙ copied done (done + part.len - done) words ys (k - done) count room (omega (arith, copy.len))
          ∙ copy.each (k - done) (omega arith)
          ∙ values xs h (part.index + (k - done)) (p.at (k - done) (omega arith) xs h (omega (arith, placed)))
    ]

-- a place among the words of the pieces is outside the part
outside_part : (s : Tiling) (band : Band) (start : ℕ) (part : Part) (index : ℕ) → IsBand s band → IsPart s band start part
    → ((xs : List ℕ) → IsInside s.extents xs → start ≤ place s.extents xs → place s.extents xs < start + part.len → IsAt band (word_number s xs) index → ⊥)
    → (index < part.index) ⊎ (part.index + part.len ≤ index)
outside_part s band start part index b p none =
    elim (cases_lt index part.index) [
      | inl low ↦ inl low
      | inr high ↦ elim (cases_lt index (part.index + part.len)) [
        | inl within ↦
            let one = part_element s band start part (index - part.index) b p (omega arith) in
            let at : part.index + (index - part.index) ≡ index = omega arith in
            absurd (none one.0 one.1 (omega (arith, one.2)) (omega (arith, one.2)) (subst (IsAt band (word_number s one.0)) at one.3))
        | inr past ↦ inr past
      ]
    ]

-- one part more among the words of the pieces
pub tile_more : (s : Tiling) (band : Band) (words tiled ys : List ℕ) (done : ℕ) (part : Part) → IsBand s band → IsPart s band (band.start + done) part
    → length words ≡ band.len → length tiled ≡ band.pieces * band.piece_len → ys ≡ take (done + part.len - done) (drop done words)
    → ((element : List ℕ → ℕ) → AreElements s element band.start words → (xs : List ℕ) → IsInside s.extents xs → place s.extents xs < band.start + done → (index : ℕ) → IsAt band (word_number s xs) index → slice_index tiled index ≡ element xs)
    → (element : List ℕ → ℕ) → AreElements s element band.start words → (xs : List ℕ) → IsInside s.extents xs → place s.extents xs < band.start + (done + part.len) → (index : ℕ) → IsAt band (word_number s xs) index
    → slice_index (put_mid part.index (part.index + part.len - part.index) tiled ys) index ≡ element xs
tile_more s band words tiled ys done part b p words_len tiled_len is before element values xs h lt index at =
    let copy = copy_of done part.len (done + part.len - done) words ys is (omega arith) (omega (arith, p.inside)) in
    let count : part.index + part.len - part.index ≡ length ys = omega (arith, copy.len) in
    let room : part.index + length ys ≤ length tiled = omega (arith, copy.len, p.room) in
    elim (cases_lt (place s.extents xs) (band.start + done)) [
      | inl low ↦
          let out = outside_part s band (band.start + done) part index b p (λ zs k from to there.
          let same : xs ≡ zs = word_number_injective s xs zs b.tiling.same_rank b.tiling.positive h k (one_word band (word_number s xs) (word_number s zs) index at there) in
          let placed : place s.extents xs ≡ place s.extents zs = ap (place s.extents) same in
          absurd (omega arith)) in
          kept part.index (part.index + part.len - part.index) tiled ys index count room (elim out [ inl l ↦ inl l | inr l ↦ inr (omega (arith, copy.len)) ])
          ∙ before element values xs h low index at
      | inr high ↦
          let j : ℕ = place s.extents xs - (band.start + done) in
          let short : place s.extents xs - (band.start + done) < part.len = omega arith in
          let here : place s.extents xs ≡ band.start + done + (place s.extents xs - (band.start + done)) = omega arith in
          let index_is = one_index band (word_number s xs) index (part.index + (place s.extents xs - (band.start + done))) b.apart at (p.at (place s.extents xs - (band.start + done)) short xs h here) in
          ap (slice_index (put_mid part.index (part.index + part.len - part.index) tiled ys)) index_is
          ∙ copied part.index (part.index + part.len - part.index) tiled ys (place s.extents xs - (band.start + done)) count room (omega (arith, copy.len))
          ∙ copy.each (place s.extents xs - (band.start + done)) short
          ∙ values (done + (place s.extents xs - (band.start + done))) (omega (arith, p.inside)) xs h (omega arith)
    ]

pub zeros_more : (s : Tiling) (band : Band) (words tiled ys : List ℕ) (done : ℕ) (part : Part) → IsBand s band → IsPart s band (band.start + done) part
    → length words ≡ band.len → length tiled ≡ band.pieces * band.piece_len → ys ≡ take (done + part.len - done) (drop done words)
    → ((index : ℕ) → ((xs : List ℕ) → IsInside s.extents xs → place s.extents xs < band.start + done → IsAt band (word_number s xs) index → ⊥) → slice_index tiled index ≡ 0)
    → (index : ℕ) → ((xs : List ℕ) → IsInside s.extents xs → place s.extents xs < band.start + (done + part.len) → IsAt band (word_number s xs) index → ⊥)
    → slice_index (put_mid part.index (part.index + part.len - part.index) tiled ys) index ≡ 0
zeros_more s band words tiled ys done part b p words_len tiled_len is before index none =
    let copy = copy_of done part.len (done + part.len - done) words ys is (omega arith) (omega (arith, p.inside)) in
    let count : part.index + part.len - part.index ≡ length ys = omega (arith, copy.len) in
    let room : part.index + length ys ≤ length tiled = omega (arith, copy.len, p.room) in
    let out = outside_part s band (band.start + done) part index b p (λ xs h from to at. none xs h (omega arith) at) in
    kept part.index (part.index + part.len - part.index) tiled ys index count room (elim out [ inl l ↦ inl l | inr l ↦ inr (omega (arith, copy.len)) ])
    ∙ before index (λ xs h lt at. none xs h (omega arith) at)
