-- Tiles of arrays, in files and in frames.
use Rattle.std.proofs.Common.{◌≡◌, ◌≢◌, ◌∙◌, ◌⊎◌, ℕ, suc, ◌+◌, ◌-◌, ◌*◌, ◌<◌, ◌≤◌, true, List, [], length, take, slice_get, slice_index, get_or, Option, Some, None, is_some, unwrap_or, sym, refl, ap, subst, inl, inr, arith}
use Rattle.std.specs.Option.{IsSomeAnd, option_map}
use Rattle.std.proofs.lemmas.Bool.{cases_lt, cases_eq}
use Rattle.std.proofs.lemmas.Option.{slice_get_read, slice_get_cases}
use Rattle.std.proofs.Math.Nat.{mul-le-mul_left, mul-le-mul_right}
use Rattle.tce_space.specs.Tiling.{Tiling, tile_words, tiles, padded_words}
use Rattle.tce_space.proofs.Tilings.{word-lt}
use Rattle.tce_outside.specs.Files.{Files, file, others, bytes_before}
use Rattle.tce_outside.proofs.Places.{same_name}
use Rattle.tce_outside.proofs.Told.{other_files, disks_tell}
use Rattle.std.proofs.lemmas.List.{take-take}
use Rattle.tce_array.specs.Files.{AreBytes}
use Rattle.tce_array.specs.Forms.{head_len, word_at}
use Rattle.tce_cache.specs.Current.{place, IsSameOutside}
use Rattle.tce_cache.specs.declared.array.ArrayRef.{ArrayRef}
use Rattle.tce_cache.specs.Transfer.{contents, HasFile, word_in_file, AreWordsOf, IsSameBut, IsWritten}
use Rattle.tce_cache.specs.Cache.{State, IsArrayAt, AreArrays, words_of_tile, layout, word_of_tile, stored, HasRoom, OnlyWritableDiffers, IsSameOutsideFrames}
use Rattle.tce_cache.specs.declared.cache.writing.Run.{Run}
use Rattle.tce_cache.specs.Touch.{front}
use Rattle.tce_cache.specs.Runs.{IsRun, IsRunWritten}
use Rattle.tce_cache.proofs.Transfers.{file_there}

-- ---- the array with a number
none_at : (P : ArrayRef → Type 0) (o : Option ArrayRef) → o ≡ None → IsSomeAnd o P → ⊥
none_at P o e h = subst (λ v. IsSomeAnd v P) e h

pub array_low : (P : ArrayRef → Type 0) (arrays : List ArrayRef) (i : ℕ) → IsArrayAt arrays i P → i < length arrays
array_low P arrays i h = elim ((slice_get_cases arrays i).1) [ inl s ↦ s.1 | inr n ↦ absurd (none_at P (slice_get arrays i) n.1 h) ]

-- the array that is read at a place
pub array_at : (P : ArrayRef → Type 0) (items arrays : List ArrayRef) (i : ℕ) (a : ArrayRef) → items ≡ arrays → IsArrayAt arrays i P → a ≡ get_or items i a → (slice_get arrays i ≡ Some a) × P a
array_at P items arrays i a same h is =
    let at : slice_get arrays i ≡ Some a = slice_get_read arrays (length arrays) i a refl (array_low P arrays i h) (is ∙ ap (λ l. get_or l i a) same) in
    (at, subst (λ o. IsSomeAnd o P) at h)

pub at_array : (P : ArrayRef → Type 0) (arrays : List ArrayRef) (i : ℕ) (a : ArrayRef) → IsArrayAt arrays i P → slice_get arrays i ≡ Some a → P a
at_array P arrays i a h at = subst (λ o. IsSomeAnd o P) at h

-- ---- where tiles stand
pub tile_room : (s : Tiling) (tile : ℕ) → tile < tiles s → tile_words s * tile + tile_words s ≤ padded_words s
tile_room s tile lt =
    let next : suc tile ≤ tiles s = omega arith in
    let more : tile_words s * suc tile ≤ tile_words s * tiles s = mul-le-mul_left (tile_words s) next in
    omega arith

pub frame_room : (c : State) (words : List ℕ) (frame n : ℕ) → frame < c.frames → n ≤ c.frame_words → HasRoom c words → place (layout c) frame + n ≤ length words
frame_room c words frame n lt le room =
    let next : suc frame ≤ c.frames = omega arith in
    let more : suc frame * c.frame_words ≤ c.frames * c.frame_words = mul-le-mul_right c.frame_words next in
    omega arith

pub outside_frames : (c : State) (frame : ℕ) (old new : List ℕ) → frame < c.frames → length new ≡ length old → IsSameOutside (layout c) frame old new → IsSameOutsideFrames c old new
outside_frames c frame old new lt len others = record {
  same_length = len;
  same = λ p out.
      let next : suc frame ≤ c.frames = omega arith in
      let more : suc frame * c.frame_words ≤ c.frames * c.frame_words = mul-le-mul_right c.frame_words next in
      others p (elim out [ inl low ↦ inl (omega arith) | inr high ↦ inr (omega arith) ]);
}

-- only the words of a frame were written
pub inside_frame : (c : State) (frame n at : ℕ) (old new : List ℕ) → n ≤ c.frame_words → at ≡ place (layout c) frame → IsSameBut at n old new → IsSameOutside (layout c) frame old new
inside_frame c frame n at old new le is others p out = others p (elim out [ inl low ↦ inl (omega arith) | inr high ↦ inr (omega arith) ])

-- ---- a tile that was read
pub tile_read : (c : State) (a : ArrayRef) (files : Files) (array tile frame n at : ℕ) (words : List ℕ) → slice_get c.arrays array ≡ Some a → n ≡ tile_words a.shape → at ≡ place (layout c) frame
    → AreWordsOf a files (n * tile) words at n → (k : ℕ) → k < words_of_tile (slice_get c.arrays array) → slice_index words (place (layout c) frame + k) ≡ stored c files array tile k
tile_read c a files array tile frame n at words here n_is at_is read k lt =
    let low : k < n = subst (λ m. k < m) (sym n_is) (subst (λ o. k < words_of_tile o) here lt) in
    ap (λ p. slice_index words (p + k)) (sym at_is)
    ∙ read k low
    ∙ ap (λ m. word_in_file a files (m * tile + k)) n_is
    ∙ ap (λ o. word_of_tile o files tile k) (sym here)

-- ---- tiles that were written
file_of_other : (c : State) (a : ArrayRef) (before after : Files) (array i : ℕ) (b : ArrayRef) → AreArrays c.arrays c.frame_words → slice_get c.arrays array ≡ Some a → slice_get c.arrays i ≡ Some b → i ≢ array
    → others a.file.bytes (Some after) ≡ others a.file.bytes (Some before) → file after b.file.bytes ≡ file before b.file.bytes
file_of_other c a before after array i b are here there n same = other_files a.file.bytes b.file.bytes before after same (λ e. n (are.different i array b a there here e))

pub run_written : (c : State) (a : ArrayRef) (before after : Files) (run : Run) (n at : ℕ) (words : List ℕ) → AreArrays c.arrays c.frame_words → IsRun c run → slice_get c.arrays run.array ≡ Some a → n ≡ tile_words a.shape → at ≡ place (layout c) run.frame
    → HasFile a before → others a.file.bytes (Some after) ≡ others a.file.bytes (Some before) → IsWritten a before after (n * run.tile) words at (n * run.n) → IsRunWritten c before after words run
run_written c a before after run n at words are r here n_is at_is has same w = record {
  here = λ i k first lt.
      let low : k < n = subst (λ m. k < m) (sym n_is) (subst (λ o. k < words_of_tile o) here lt) in
      let inside : n * i + k < n * run.n = word-lt n run.n i k first low in
      let close : n * i ≡ i * c.frame_words = ap (λ m. m * i) (n_is ∙ sym (ap words_of_tile here)) ∙ r.close i first in
      let word : n * (run.tile + i) + k ≡ n * run.tile + (n * i + k) = omega arith in
      let there : at + (n * i + k) ≡ place (layout c) (run.frame + i) + k = omega arith in
      ap (λ o. word_of_tile o after (run.tile + i) k) here
      ∙ ap (λ m. word_in_file a after (m * (run.tile + i) + k)) (sym n_is)
      ∙ ap (word_in_file a after) word
      ∙ sym (w.written (n * i + k) inside)
      ∙ ap (slice_index words) there;
  others = λ b u k other lt. elim (cases_eq b run.array) [
    | inl e ↦
        let at_b : slice_get c.arrays b ≡ Some a = ap (slice_get c.arrays) e ∙ here in
        let low : k < n = subst (λ m. k < m) (sym n_is) (subst (λ o. k < words_of_tile o) at_b lt) in
        ap (λ o. word_of_tile o after u k) at_b
        ∙ ap (λ m. word_in_file a after (m * u + k)) (sym n_is)
        ∙ w.others (n * u + k) (outside u k low (λ i first. other i first e))
        ∙ ap (λ m. word_in_file a before (m * u + k)) n_is
        ∙ sym (ap (λ o. word_of_tile o before u k) at_b)
    | inr differs ↦ by_array b u k differs (slice_get c.arrays b) refl
  ];
  fronts = λ i b there. elim (cases_eq i run.array) [
    | inl e ↦
        let both : Some b ≡ Some a = sym there ∙ ap (slice_get c.arrays) e ∙ here in
        let is : b ≡ a = cc in
        subst (λ (x : ArrayRef). option_map (front x) (file after x.file.bytes) ≡ option_map (front x) (file before x.file.bytes)) (sym is) same_front
    | inr differs ↦ ap (option_map (front b)) (file_of_other c a before after run.array i b are here there differs same)
  ];
  bytes = λ i b there were. elim (cases_eq i run.array) [
    | inl e ↦
        let both : Some b ≡ Some a = sym there ∙ ap (slice_get c.arrays) e ∙ here in
        let is : b ≡ a = cc in
        subst (λ (x : ArrayRef). AreBytes (contents x before) → AreBytes (contents x after)) (sym is) w.bytes were
    | inr differs ↦ subst (λ o. AreBytes (unwrap_or o [])) (sym (file_of_other c a before after run.array i b are here there differs same)) were
  ];
}
  where
    outside : (u k : ℕ) → k < n → ((i : ℕ) → i < run.n → u ≡ run.tile + i → ⊥) → (n * u + k < n * run.tile) ⊎ (n * run.tile + n * run.n ≤ n * u + k)
    outside u k low differs =
        elim (cases_lt u run.tile) [
          | inl below ↦ inl (word-lt n run.tile u k below low)
          | inr above ↦ elim (cases_lt u (run.tile + run.n)) [
            | inl within ↦ absurd (differs (u - run.tile) (omega arith) (omega arith))
            | inr past ↦
                let more : n * (run.tile + run.n) ≤ n * u = mul-le-mul_left n past in
                inr (omega arith)
          ]
        ]

    by_array : (b u k : ℕ) → b ≢ run.array → (o : Option ArrayRef) → slice_get c.arrays b ≡ o → word_of_tile (slice_get c.arrays b) after u k ≡ word_of_tile (slice_get c.arrays b) before u k
    by_array b u k differs None e = ap (λ o. word_of_tile o after u k) e ∙ sym (ap (λ o. word_of_tile o before u k) e)
    by_array b u k differs (Some x) e =
        ap (λ o. word_of_tile o after u k) e
        ∙ ap (λ o. word_at x.form x.shape (unwrap_or o []) (tile_words x.shape * u + k)) (file_of_other c a before after run.array b x are here e differs same)
        ∙ sym (ap (λ o. word_of_tile o before u k) e)

    same_front : option_map (front a) (file after a.file.bytes) ≡ option_map (front a) (file before a.file.bytes)
    same_front =
        let now = file_there a after w.has_file in
        let was = file_there a before has in
        ap (option_map (front a)) now.0
        ∙ ap (λ m. Some (m, take (head_len a.form a.shape) (contents a after))) (now.1 ∙ sym was.1)
        ∙ ap (λ h. Some (length (contents a before), h)) w.head
        ∙ sym (ap (option_map (front a)) was.0)

-- ---- which files differ
pub told_from : (old new : Option Files) (now : Files) → is_some new ≡ is_some old → new ≡ Some now → (files : Files) × (old ≡ Some files)
told_from None new now same is = (let both : true ≡ is_some {T = Files} None = sym (ap is_some is) ∙ same in absurd (cc))
told_from (Some files) new now same is = (files, refl)

-- the first bytes of other files stay
begins_as_before : (name q : List ℕ) (old new : Option Files) → others name new ≡ others name old → q ≢ name → bytes_before q 8 new ≡ bytes_before q 8 old
begins_as_before name q None None same differs = refl
begins_as_before name q (Some fs) (Some gs) same differs = ap (λ o. Some (option_map (λ bytes. take 8 bytes) o)) (other_files name q fs gs same differs)
begins_as_before name q None (Some gs) same differs = absurd (let both : true ≡ is_some {T = Files} None = disks_tell name None (Some gs) same in cc)
begins_as_before name q (Some fs) None same differs = absurd (let both : is_some {T = Files} None ≡ true = disks_tell name (Some fs) None same in cc)

-- what stays before a place stays at the beginning
pub begins_so : (name : List ℕ) (at : ℕ) (old new : Option Files) → 8 ≤ at → bytes_before name at new ≡ bytes_before name at old → bytes_before name 8 new ≡ bytes_before name 8 old
begins_so name at old new le same = sym (shorter new) ∙ ap (option_map (option_map (λ bytes. take 8 bytes))) same ∙ shorter old
  where
    in_file : (o : Option (List ℕ)) → option_map (λ bytes. take 8 bytes) (option_map (λ bytes. take at bytes) o) ≡ option_map (λ bytes. take 8 bytes) o
    in_file None = refl
    in_file (Some bytes) = ap Some (take-take 8 at bytes le)

    shorter : (told : Option Files) → option_map (option_map (λ bytes. take 8 bytes)) (bytes_before name at told) ≡ bytes_before name 8 told
    shorter None = refl
    shorter (Some files) = ap Some (in_file (file files name))

pub writes_differ : (c : State) (a : ArrayRef) (array : ℕ) (old new : Option Files) → slice_get c.arrays array ≡ Some a → a.writable ≡ true → others a.file.bytes new ≡ others a.file.bytes old
    → bytes_before a.file.bytes 8 new ≡ bytes_before a.file.bytes 8 old → OnlyWritableDiffers c old new
writes_differ c a array old new here writable same begins = record {
  tells = disks_tell a.file.bytes old new same;
  begins = λ q. elim (same_name q a.file.bytes) [
    | inl is ↦ ap (λ name. bytes_before name 8 new) is.1 ∙ begins ∙ ap (λ name. bytes_before name 8 old) (sym is.1)
    | inr is ↦ begins_as_before a.file.bytes q old new same is.1
  ];
  same = λ name not before told after now.
      other_files a.file.bytes name before after
      (ap (others a.file.bytes) (sym now) ∙ same ∙ ap (others a.file.bytes) told)
      (λ e. not array a here writable (sym e));
}

pub both_differ : (c : State) (old middle new : Option Files) → OnlyWritableDiffers c old middle → OnlyWritableDiffers c middle new → OnlyWritableDiffers c old new
both_differ c old middle new first second = record {
  tells = second.tells ∙ first.tells;
  begins = λ name. second.begins name ∙ first.begins name;
  same = λ name not before told after now.
      let between = told_from middle new after second.tells now in
      second.same name not between.0 between.1 after now ∙ first.same name not before told between.0 between.1;
}
