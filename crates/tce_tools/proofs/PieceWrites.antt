-- Words written over those of a file, and the pieces of a band.
use Rattle.std.proofs.Common.{◌≡◌, ◌∙◌, ◌⊎◌, ℕ, ◌+◌, ◌-◌, ◌*◌, ◌<◌, ◌≤◌, true, false, nat_lt, if◌then◌else◌, List, [], ◌++◌, length, take, drop, get_or, slice_index, Option, Some, None, unwrap_or, replicate, refl, sym, ap, subst, inl, inr, arith}
use Rattle.std.specs.List.{flat_map}
use Rattle.std.specs.Option.{ForSome}
use Rattle.std.proofs.Math.Nat.{mul-le-mul_left}
use Rattle.std.proofs.lemmas.Bool.{cases_lt}
use Rattle.std.proofs.lemmas.Option.{none-some}
use Rattle.std.proofs.lemmas.Nat.{same_from_place}
use Rattle.std.proofs.lemmas.List.{ext_get_or, length-replicate}
use Rattle.tce_base.specs.Word.{word_bytes}
use Rattle.tce_base.proofs.WordBytes.{length-words}
use Rattle.tce_space.specs.Box.{place, places, IsInside}
use Rattle.tce_space.proofs.Boxes.{places_every, place-lt}
use Rattle.tce_space.specs.Tiling.{Tiling, IsTiling, word_number, elements, padded_words}
use Rattle.tce_outside.specs.Files.{Files, file, with_file, written, overwritten}
use Rattle.tce_outside.proofs.Overwrites.{length-overwritten, get_or-overwritten, get_or-overwritten_other}
use Rattle.tce_outside.proofs.Files.{file-with_file}
use Rattle.tce_array.specs.declared.form.Form.{Form}
use Rattle.tce_array.specs.declared.form.Form.TheVariants.{One, Narrow, Wide}
use Rattle.tce_array.specs.Forms.{width, head_len}
use Rattle.tce_tools.specs.declared.storage.Storage.{Storage}
use Rattle.tce_tools.specs.declared.storage.Storage.TheVariants.{Flat, Array}
use Rattle.tce_tools.specs.declared.band.Band.{Band}
use Rattle.tce_tools.specs.Storage.{form_in, start_len, words_of, word_count, begun_bytes, bare_bytes, stored_len, number_of, first_elements, later_elements, HasStored, HasWords}
use Rattle.tce_tools.specs.Runs.{AreElements}
use Rattle.tce_tools.specs.Bands.{IsAt, IsBand, AreTiled, AreZerosBetween, KeepsOutside}
use Rattle.tce_tools.proofs.Pieces.{words_written}
use Rattle.tce_tools.proofs.Shuffles.{IsCopy, copy_of}
use Rattle.tce_tools.proofs.Stored.{HoldsElements, storage_holds, bare_same, among_first, behind_first, among_later}

-- words that are written change the elements that stand there, and no padding
pub record IsChange (storage : Storage) (s : Tiling) (old new : List ℕ → ℕ) (at : ℕ) (vs : List ℕ) : Type 0 where
  pub tiling : IsTiling s
  pub room : at + length vs ≤ word_count storage s
  pub here : (xs : List ℕ) → IsInside s.extents xs → (k : ℕ) → k < length vs → number_of storage s xs ≡ at + k → slice_index vs k ≡ new xs
  pub elsewhere : (xs : List ℕ) → IsInside s.extents xs → ((number_of storage s xs < at) ⊎ (at + length vs ≤ number_of storage s xs)) → new xs ≡ old xs
  pub padding : (k : ℕ) → k < length vs → ((xs : List ℕ) → IsInside s.extents xs → number_of storage s xs ≡ at + k → ⊥) → slice_index vs k ≡ 0

words_changed : (storage : Storage) (s : Tiling) (old new : List ℕ → ℕ) (at : ℕ) (vs : List ℕ) → IsChange storage s old new at vs → overwritten (words_of storage s old) at vs ≡ words_of storage s new
words_changed storage s old new at vs c =
    ext_get_or 0 (overwritten before at vs) (words_of storage s new) (length-overwritten before at vs room ∙ holds.count old ∙ sym (holds.count new)) (λ k lt.
    let below : k < word_count storage s = omega (arith, length-overwritten before at vs room, holds.count old) in
    elim (cases_lt k at) [
      | inl low ↦ out k below (inl low)
      | inr from ↦ elim (cases_lt k (at + length vs)) [
        | inl short ↦ within k below from short
        | inr past ↦ out k below (inr past)
      ]
    ])
  where
    before : List ℕ
    before = words_of storage s old

    holds : HoldsElements storage s
    holds = storage_holds storage s c.tiling

    room : at + length vs ≤ length before
    room = omega (arith, c.room, holds.count old)

    out : (k : ℕ) → k < word_count storage s → (k < at) ⊎ (at + length vs ≤ k) → get_or (overwritten before at vs) k 0 ≡ get_or (words_of storage s new) k 0
    out k below far =
        get_or-overwritten_other before at vs k room far
        ∙ elim (holds.each k below) [
          | inl here ↦
              ap (λ j. get_or before j 0) (sym here.number)
              ∙ holds.word old here.coords here.inside
              ∙ sym (c.elsewhere here.coords here.inside (elim far [ inl low ↦ inl (omega (arith, here.number)) | inr high ↦ inr (omega (arith, here.number)) ]))
              ∙ sym (holds.word new here.coords here.inside)
              ∙ ap (λ j. get_or (words_of storage s new) j 0) here.number
          | inr none ↦ none old ∙ sym (none new)
        ]

    within : (k : ℕ) → k < word_count storage s → at ≤ k → k < at + length vs → get_or (overwritten before at vs) k 0 ≡ get_or (words_of storage s new) k 0
    within k below from short =
        let there : k ≡ at + (k - at) = omega arith in
        ap (λ j. get_or (overwritten before at vs) j 0) there
        ∙ get_or-overwritten before at vs (k - at) room (omega arith)
        ∙ elim (holds.each k below) [
          | inl here ↦
              c.here here.coords here.inside (k - at) (omega arith) (omega (arith, here.number))
              ∙ sym (holds.word new here.coords here.inside)
              ∙ ap (λ j. get_or (words_of storage s new) j 0) here.number
          | inr none ↦
              c.padding (k - at) (omega arith) (λ xs h is.
              let one = holds.word (λ _. 1) xs h in
              let number : number_of storage s xs ≡ k = omega (arith, is) in
              let nothing : get_or (words_of storage s (λ _. 1)) (number_of storage s xs) 0 ≡ 0 = ap (λ j. get_or (words_of storage s (λ _. 1)) j 0) number ∙ none (λ _. 1) in
              let wrong : 1 ≡ 0 = sym one ∙ nothing in
              absurd (omega (arith, wrong)))
              ∙ sym (none new)
        ]

pub begun_changed : (storage : Storage) (s : Tiling) (start : List ℕ) (old new : List ℕ → ℕ) (at : ℕ) (vs : List ℕ) → length start ≡ start_len storage s → IsChange storage s old new at vs
    → overwritten (begun_bytes storage s start old) (start_len storage s + width (form_in storage) * at) (flat_map (word_bytes (width (form_in storage))) vs) ≡ begun_bytes storage s start new
begun_changed storage s start old new at vs len c =
    words_written (width (form_in storage)) (start_len storage s) start (words_of storage s old) vs at len
    ∙ ap (λ ws. start ++ flat_map (word_bytes (width (form_in storage))) ws) (words_changed storage s old new at vs c)

pub bare_changed : (storage : Storage) (s : Tiling) (old new : List ℕ → ℕ) (at : ℕ) (vs : List ℕ) → IsChange storage s old new at vs
    → overwritten (bare_bytes storage s old) (start_len storage s + width (form_in storage) * at) (flat_map (word_bytes (width (form_in storage))) vs) ≡ bare_bytes storage s new
bare_changed storage s old new at vs c = begun_changed storage s (replicate (start_len storage s) 0) old new at vs (length-replicate (start_len storage s) 0) c

-- the elements before a band, and those behind it, stay where the band is written behind the first elements
pub keeps_outside : (s : Tiling) (band : Band) (f : List ℕ → ℕ) → KeepsOutside s band (first_elements s f band.start) (first_elements s f (band.start + band.len))
keeps_outside s band f xs h out =
    elim (cases_lt (place s.extents xs) band.start) [
      | inl low ↦ among_first s f (band.start + band.len) xs (omega arith) ∙ sym (among_first s f band.start xs low)
      | inr high ↦ elim (cases_lt (place s.extents xs) (band.start + band.len)) [
        | inl within ↦ absurd (out high within)
        | inr past ↦ behind_first s f (band.start + band.len) xs past ∙ sym (behind_first s f band.start xs high)
      ]
    ]

pub first_values : (s : Tiling) (f : List ℕ → ℕ) (from to : ℕ) (vs : List ℕ) → from + length vs ≤ to → AreElements s f from vs → AreElements s (first_elements s f to) from vs
first_values s f from to vs room values k lt xs h is = values k lt xs h is ∙ sym (among_first s f to xs (omega (arith, is)))

-- and where the first band is written last
pub keeps_last : (s : Tiling) (band : Band) (f : List ℕ → ℕ) (done : ℕ) → band.start ≡ 0 → elements s ≤ done → KeepsOutside s band (first_elements s (later_elements s f band.len) done) f
keeps_last s band f done first all xs h out =
    elim (cases_lt (place s.extents xs) band.len) [
      | inl low ↦ absurd (out (omega (arith, first)) (omega (arith, first)))
      | inr high ↦ sym (among_first s (later_elements s f band.len) done xs (omega (arith, place-lt s.extents xs h, all)) ∙ among_later s f band.len xs high)
    ]

pub later_values : (s : Tiling) (f : List ℕ → ℕ) (from at : ℕ) (vs : List ℕ) → from ≤ at → AreElements s f at vs → AreElements s (later_elements s f from) at vs
later_values s f from at vs le values k lt xs h is = values k lt xs h is ∙ sym (among_later s f from xs (omega (arith, is)))

-- the words of a band in a flat file
flat_change : (s : Tiling) (band : Band) (old new : List ℕ → ℕ) (vs : List ℕ) → IsBand s band → length vs ≡ band.len → AreElements s new band.start vs → KeepsOutside s band old new
    → IsChange Flat s old new band.start vs
flat_change s band old new vs b len values keeps = record {
  tiling = b.tiling;
  room = omega (arith, b.inside);
  here = λ xs h k lt is. values k lt xs h is;
  elsewhere = λ xs h far. keeps xs h (λ low high. elim far [ inl l ↦ absurd (omega arith) | inr l ↦ absurd (omega arith) ]);
  padding = λ k lt none.
      let there = places_every s.extents (band.start + k) (omega (arith, b.inside)) in
      absurd (none (get_or (places s.extents) (band.start + k) []) there.0 there.1);
}

-- the elements after some pieces of a band: the new ones where their words were written
abbrev pub after_pieces : Tiling → Band → (List ℕ → ℕ) → (List ℕ → ℕ) → ℕ → List ℕ → ℕ
after_pieces s band old new pieces xs = if nat_lt (word_number s xs) (band.word + pieces * band.stride) then new xs else old xs

written_word : (s : Tiling) (band : Band) (old new : List ℕ → ℕ) (t : ℕ) (xs : List ℕ) → word_number s xs < band.word + t * band.stride → after_pieces s band old new t xs ≡ new xs
written_word s band old new t xs h =
    let test : nat_lt (word_number s xs) (band.word + t * band.stride) ≡ true = grind (arith, h) in
    ap (λ b. if b then new xs else old xs) test

later_word : (s : Tiling) (band : Band) (old new : List ℕ → ℕ) (t : ℕ) (xs : List ℕ) → band.word + t * band.stride ≤ word_number s xs → after_pieces s band old new t xs ≡ old xs
later_word s band old new t xs h =
    let test : nat_lt (word_number s xs) (band.word + t * band.stride) ≡ false = grind (arith, h) in
    ap (λ b. if b then new xs else old xs) test

-- an element between two pieces is none of the band
between_pieces : (s : Tiling) (band : Band) (t : ℕ) (xs : List ℕ) → IsBand s band → IsInside s.extents xs → band.word + t * band.stride + band.piece_len ≤ word_number s xs → word_number s xs < band.word + (t + 1) * band.stride
    → band.start ≤ place s.extents xs → place s.extents xs < band.start + band.len → ⊥
between_pieces s band t xs b h from to low high =
    let at = (b.word xs h low high).1 in
    let gap : ℕ = word_number s xs - (band.word + t * band.stride) in
    let both = same_from_place at.piece at.offset t (word_number s xs - (band.word + t * band.stride)) band.stride (omega (arith, at.within, b.apart)) (omega arith) (omega (arith, at.word_is)) in
    absurd (omega (arith, both.1, at.within))

piece_change : (form : Form) (s : Tiling) (band : Band) (old new : List ℕ → ℕ) (tiled vs : List ℕ) (t : ℕ) → IsBand s band → t < band.pieces → IsCopy (t * band.piece_len) band.piece_len tiled vs
    → AreTiled s band new tiled → KeepsOutside s band old new → AreZerosBetween s band tiled
    → IsChange (Array form) s (after_pieces s band old new t) (after_pieces s band old new (t + 1)) (band.word + t * band.stride) vs
piece_change form s band old new tiled vs t b among copy values keeps zeros = record {
  tiling = b.tiling;
  room = omega (arith, b.room t among, copy.len);
  here = λ xs h k lt is.
      let at : IsAt band (word_number s xs) (t * band.piece_len + k) = record { piece = t; offset = k; among = among; within = omega (arith, copy.len); word_is = omega (arith, is); index_is = refl } in
      copy.each k (omega (arith, copy.len))
      ∙ values xs h (t * band.piece_len + k) at
      ∙ sym (written_word s band old new (t + 1) xs (omega (arith, is, lt, copy.len, b.apart)));
  elsewhere = λ xs h far. elim far [
    | inl low ↦ written_word s band old new (t + 1) xs (omega arith) ∙ sym (written_word s band old new t xs low)
    | inr high ↦ elim (cases_lt (word_number s xs) (band.word + (t + 1) * band.stride)) [
      | inl short ↦
          written_word s band old new (t + 1) xs short
          ∙ keeps xs h (between_pieces s band t xs b h (omega (arith, copy.len)) short)
          ∙ sym (later_word s band old new t xs (omega arith))
      | inr past ↦ later_word s band old new (t + 1) xs past ∙ sym (later_word s band old new t xs (omega arith))
    ]
  ];
  padding = λ k lt none.
      copy.each k (omega (arith, copy.len))
      ∙ zeros (t * band.piece_len + k) (λ xs h at.
      let both = same_from_place at.piece at.offset t k band.piece_len at.within (omega (arith, copy.len)) (omega (arith, at.index_is)) in
      let row : at.piece * band.stride ≡ t * band.stride = ap (λ p. p * band.stride) both.0 in
      none xs h (omega (arith, at.word_is, row, both.1)));
}

pub piece_bare : (form : Form) (s : Tiling) (band : Band) (old new : List ℕ → ℕ) (tiled vs : List ℕ) (t at : ℕ) → IsBand s band → t < band.pieces → IsCopy (t * band.piece_len) band.piece_len tiled vs
    → AreTiled s band new tiled → KeepsOutside s band old new → AreZerosBetween s band tiled → at ≡ head_len form s + width form * (band.word + t * band.stride)
    → overwritten (bare_bytes (Array form) s (after_pieces s band old new t)) at (flat_map (word_bytes (width form)) vs) ≡ bare_bytes (Array form) s (after_pieces s band old new (t + 1))
piece_bare form s band old new tiled vs t at b among copy values keeps zeros is =
    ap (λ n. overwritten (bare_bytes (Array form) s (after_pieces s band old new t)) n (flat_map (word_bytes (width form)) vs)) is
    ∙ bare_changed (Array form) s (after_pieces s band old new t) (after_pieces s band old new (t + 1)) (band.word + t * band.stride) vs (piece_change form s band old new tiled vs t b among copy values keeps zeros)

-- no piece, and all pieces
pub no_pieces : (form : Form) (s : Tiling) (band : Band) (old new : List ℕ → ℕ) → IsBand s band → KeepsOutside s band old new → bare_bytes (Array form) s old ≡ bare_bytes (Array form) s (after_pieces s band old new 0)
no_pieces form s band old new b keeps =
    bare_same (Array form) s b.tiling old (after_pieces s band old new 0) (λ xs h.
    elim (cases_lt (word_number s xs) (band.word + 0 * band.stride)) [
      | inl low ↦ sym (written_word s band old new 0 xs low ∙ keeps xs h (λ from to. let at = (b.word xs h from to).1 in absurd (omega (arith, at.word_is))))
      | inr high ↦ sym (later_word s band old new 0 xs high)
    ])

pub all_pieces : (form : Form) (s : Tiling) (band : Band) (old new : List ℕ → ℕ) (n : ℕ) → IsBand s band → KeepsOutside s band old new → band.pieces ≤ n
    → bare_bytes (Array form) s (after_pieces s band old new n) ≡ bare_bytes (Array form) s new
all_pieces form s band old new n b keeps le =
    bare_same (Array form) s b.tiling (after_pieces s band old new n) new (λ xs h.
    elim (cases_lt (word_number s xs) (band.word + n * band.stride)) [
      | inl low ↦ written_word s band old new n xs low
      | inr high ↦
          later_word s band old new n xs high
          ∙ sym (keeps xs h (λ from to.
          let at = (b.word xs h from to).1 in
          let last : band.stride * (at.piece + 1) ≤ band.stride * n = mul-le-mul_left band.stride (omega (arith, at.among)) in
          absurd (omega (arith, at.word_is, at.within, b.apart, last))))
    ])

-- a file that is written keeps its length
pub still_stored : (before after : Option Files) (name : List ℕ) (storage : Storage) (s : Tiling) (at : ℕ) (bytes : List ℕ) → after ≡ written name at bytes before
    → ForSome before (λ fs. HasStored storage s (file fs name)) → at + length bytes ≤ stored_len storage s → ForSome after (λ fs. HasStored storage s (file fs name))
still_stored None after name storage s at bytes e there room = λ fs told. absurd (none-some fs (sym e ∙ told))
still_stored (Some files) after name storage s at bytes e there room = λ fs told.
    let is : Some (with_file files name (overwritten (unwrap_or (file files name) []) at bytes)) ≡ Some fs = sym e ∙ told in
    let same : with_file files name (overwritten (unwrap_or (file files name) []) at bytes) ≡ fs = cc in
    let found : file fs name ≡ Some (overwritten (unwrap_or (file files name) []) at bytes) = ap (λ gs. file gs name) (sym same) ∙ file-with_file files name (overwritten (unwrap_or (file files name) []) at bytes) in
    let len : length (unwrap_or (file files name) []) ≡ stored_len storage s = long (file files name) (there files refl) in
    subst (HasStored storage s) (sym found) (length-overwritten (unwrap_or (file files name) []) at bytes (omega (arith, len)) ∙ len)
  where
    long : (found : Option (List ℕ)) → HasStored storage s found → length (unwrap_or found []) ≡ stored_len storage s
    long None h = absurd h
    long (Some bytes) h = h

-- a piece lies among the pieces, and in its file
pub piece_room : (band : Band) (t : ℕ) → t < band.pieces → t * band.piece_len + band.piece_len ≤ band.pieces * band.piece_len
piece_room band t lt = let last : band.piece_len * (t + 1) ≤ band.piece_len * band.pieces = mul-le-mul_left band.piece_len (omega (arith, lt)) in omega (arith, last)

pub piece_copy : (band : Band) (t : ℕ) (tiled : List ℕ) → t < band.pieces → length tiled ≡ band.pieces * band.piece_len → IsCopy (t * band.piece_len) band.piece_len tiled (take (t * band.piece_len + band.piece_len - t * band.piece_len) (drop (t * band.piece_len) tiled))
piece_copy band t tiled lt len = copy_of (t * band.piece_len) band.piece_len (t * band.piece_len + band.piece_len - t * band.piece_len) tiled (take (t * band.piece_len + band.piece_len - t * band.piece_len) (drop (t * band.piece_len) tiled)) refl (omega arith) (omega (arith, piece_room band t lt, len))

pub index_below : (band : Band) (n word index : ℕ) → band.pieces ≤ n → IsAt band word index → index < n * band.piece_len
index_below band n word index le at =
    let last : band.piece_len * (at.piece + 1) ≤ band.piece_len * n = mul-le-mul_left band.piece_len (omega (arith, at.among)) in
    omega (arith, last, at.index_is, at.within)

pub piece_fits : (form : Form) (s : Tiling) (band : Band) (t at n : ℕ) → IsBand s band → t < band.pieces → n ≡ band.piece_len → at ≡ head_len form s + width form * (band.word + t * band.stride) → at + width form * n ≤ stored_len (Array form) s
piece_fits form s band t at n b lt len is =
    let room : band.word + t * band.stride + n ≤ padded_words s = omega (arith, b.room t lt) in
    let all : width form * (band.word + t * band.stride + n) ≤ width form * padded_words s = mul-le-mul_left (width form) room in
    omega (arith, is, all)

-- a file with so many bytes has the words; those of a piece fit the buffer of bytes
pub words_there : (storage : Storage) (s : Tiling) (form : Form) (at n : ℕ) (found : Option (List ℕ)) → at + width form * n ≤ stored_len storage s → HasStored storage s found → HasWords form at n found
words_there storage s form at n None room h = absurd h
words_there storage s form at n (Some bytes) room h = omega (arith, room, h)

pub buffer_fits : (form : Form) (n m : ℕ) → n ≤ 32768 → 262144 ≤ m → width form * n ≤ m
buffer_fits One n m few long = omega arith
buffer_fits Narrow n m few long = omega arith
buffer_fits Wide n m few long = omega arith

pub piece_bytes_fit : (form : Form) (s : Tiling) (band : Band) (t at : ℕ) (vs : List ℕ) → IsBand s band → t < band.pieces → length vs ≡ band.piece_len → at ≡ head_len form s + width form * (band.word + t * band.stride)
    → at + length (flat_map (word_bytes (width form)) vs) ≤ stored_len (Array form) s
piece_bytes_fit form s band t at vs b lt len is = omega (arith, length-words (width form) vs, piece_fits form s band t at (length vs) b lt len is)

-- a band in a flat file
pub flat_bare : (storage : Storage) (s : Tiling) (band : Band) (old new : List ℕ → ℕ) (vs : List ℕ) → storage ≡ Flat → IsBand s band → length vs ≡ band.len → AreElements s new band.start vs → KeepsOutside s band old new
    → overwritten (bare_bytes storage s old) (8 * band.start) (flat_map (word_bytes 8) vs) ≡ bare_bytes storage s new
flat_bare storage s band old new vs is b len values keeps =
    let at : 8 * band.start ≡ 0 + 8 * band.start = omega arith in
    subst (λ (t : Storage). overwritten (bare_bytes t s old) (8 * band.start) (flat_map (word_bytes 8) vs) ≡ bare_bytes t s new) (sym is)
    (ap (λ n. overwritten (bare_bytes Flat s old) n (flat_map (word_bytes 8) vs)) at ∙ bare_changed Flat s old new band.start vs (flat_change s band old new vs b len values keeps))
