-- Words that are read from a file, and words written over a part of one.
use Rattle.std.proofs.Common.{◌≡◌, ◌∙◌, ℕ, ◌+◌, ◌-◌, ◌*◌, ◌/◌, ◌%◌, ◌^◌, ◌<◌, ◌≤◌, List, [], length, take, drop, slice_index, slice_range, Option, Some, None, unwrap_or, sym, refl, ap, subst, inl, inr, arith}
use Rattle.std.specs.List.{flat_map}
use Rattle.std.specs.Option.{IsSomeAnd}
use Rattle.std.proofs.Math.Nat.{mul-le-mul_left}
use Rattle.std.proofs.lemmas.Bool.{cases_lt}
use Rattle.std.proofs.lemmas.List.{get_or-take, get_or-drop, length-take-le, length-drop}
use Rattle.tce_base.specs.Word.{word_bytes}
use Rattle.tce_space.specs.Tiling.{Tiling, IsTiling, padded_words}
use Rattle.tce_outside.specs.Files.{Files, file, with_file, with_part, without_file, overwritten, part, others, written, HasPart}
use Rattle.tce_outside.proofs.Files.{file-with_file}
use Rattle.tce_array.specs.declared.form.Form.{Form}
use Rattle.tce_array.specs.declared.form.Form.TheVariants.{One, Narrow, Wide}
use Rattle.tce_array.specs.Files.{AreBytes}
use Rattle.tce_array.specs.Forms.{width, word_in, head_len, form_len, Fits, word_place, word_at}
use Rattle.tce_array.proofs.Writes.{word_of_part, bytes_over}
use Rattle.tce_array.proofs.Fitting.{words_fit}
use Rattle.tce_words.specs.Load.{IsLoaded}
use Rattle.tce_cache.specs.declared.array.ArrayRef.{ArrayRef}
use Rattle.tce_cache.proofs.Bytes.{words_are, overwritten_are}
use Rattle.tce_cache.specs.Transfer.{contents, HasFile, word_in_file, AreWordsOf, IsSameBut, IsWritten}

-- a place in a file is small
pub place_small : (form : Form) (s : Tiling) (k : ℕ) → IsTiling s → k ≤ padded_words s → word_place form s k < 2 ^ 60
place_small One s k t le = let r = t.rank in let same = t.same_rank in let room = t.room in omega arith
place_small Narrow s k t le = let r = t.rank in let same = t.same_rank in let room = t.room in omega arith
place_small Wide s k t le = let r = t.rank in let same = t.same_rank in let room = t.room in omega arith

-- a piece has no more bytes than eight for each word
pub few_bytes : (form : Form) (wide n : ℕ) → wide ≡ width form → wide * n ≤ 8 * n
few_bytes One wide n is = let e : wide * n ≡ 8 * n = ap (λ k. k * n) is in omega arith
few_bytes Narrow wide n is = let e : wide * n ≡ 4 * n = ap (λ k. k * n) is in omega arith
few_bytes Wide wide n is = let e : wide * n ≡ 8 * n = ap (λ k. k * n) is in omega arith

pub piece_end : (form : Form) (wide n most len : ℕ) → wide ≡ width form → n ≤ most → most ≡ len / 8 → wide * n ≤ len
piece_end form wide n most len is few by = omega (arith, few_bytes form wide n is, few, by)

pub piece_words : (form : Form) (n len : ℕ) → len ≡ width form * n → (len % width form ≡ 0) × (len / width form ≡ n)
piece_words One n len is = (omega arith, omega arith)
piece_words Narrow n len is = (omega arith, omega arith)
piece_words Wide n len is = (omega arith, omega arith)

-- a file has room for the words of a piece
pub has_piece : (a : ArrayRef) (files : Files) (from n : ℕ) → HasFile a files → from + n ≤ padded_words a.shape → HasPart files a.file.bytes (word_place a.form a.shape from) (width a.form * n)
has_piece a files from n has le = by_file (file files a.file.bytes) has
  where
    by_file : (o : Option (List ℕ)) → IsSomeAnd o (λ bytes. length bytes ≡ form_len a.form a.shape) → IsSomeAnd o (λ bytes. word_place a.form a.shape from + width a.form * n ≤ length bytes)
    by_file None h = absurd h
    by_file (Some bytes) h = let all : width a.form * (from + n) ≤ width a.form * padded_words a.shape = mul-le-mul_left (width a.form) le in omega arith

-- a piece of a file that is loaded
pub piece_loaded : (a : ArrayRef) (files : Files) (from n at : ℕ) (piece old new : List ℕ) → piece ≡ part files a.file.bytes (word_place a.form a.shape from) (width a.form * n) → length piece ≡ width a.form * n
    → IsLoaded (word_in a.form) (width a.form) at piece old new → AreWordsOf a files from new at n
piece_loaded a files from n at piece old new is long loaded k lt =
    loaded.loaded k (within a.form long)
    ∙ ap (λ p. word_in a.form (drop (width a.form * k) p)) is
    ∙ word_of_part a.form a.shape (contents a files) from n k lt
  where
    within : (form : Form) → length piece ≡ width form * n → k < length piece / width form
    within One e = omega arith
    within Narrow e = omega arith
    within Wide e = omega arith

pub others_loaded : (form : Form) (n at : ℕ) (piece old new : List ℕ) → length piece ≡ width form * n → IsLoaded (word_in form) (width form) at piece old new → IsSameBut at n old new
others_loaded form n at piece old new long loaded p out =
    elim out [
      | inl low ↦ loaded.before p low
      | inr high ↦ loaded.behind p (past form long high)
    ]
  where
    past : (form : Form) → length piece ≡ width form * n → at + n ≤ p → at + length piece / width form ≤ p
    past One e high = omega arith
    past Narrow e high = omega arith
    past Wide e high = omega arith

-- a piece behind the words that were read before
pub words_joined : (a : ArrayRef) (files : Files) (from at d n : ℕ) (old new : List ℕ) → AreWordsOf a files from old at d → AreWordsOf a files (from + d) new (at + d) n → IsSameBut (at + d) n old new → AreWordsOf a files from new at (d + n)
words_joined a files from at d n old new before piece others k h =
    elim (cases_lt k d) [
      | inl low ↦ others (at + k) (inl (omega arith)) ∙ before k low
      | inr high ↦
          let place : at + d + (k - d) ≡ at + k = omega arith in
          let word : from + d + (k - d) ≡ from + k = omega arith in
          ap (slice_index new) (sym place) ∙ piece (k - d) (omega arith) ∙ ap (word_in_file a files) word
    ]

pub others_joined : (at d n m : ℕ) (first old new : List ℕ) → d + n ≤ m → IsSameBut at m first old → IsSameBut (at + d) n old new → IsSameBut at m first new
others_joined at d n m first old new le before piece p out =
    piece p (elim out [ inl low ↦ inl (omega arith) | inr high ↦ inr (omega arith) ]) ∙ before p out

-- what a file has where it is there
pub file_there : (a : ArrayRef) (files : Files) → HasFile a files → (file files a.file.bytes ≡ Some (contents a files)) × (length (contents a files) ≡ form_len a.form a.shape)
file_there a files h = by_file (file files a.file.bytes) h
  where
    by_file : (o : Option (List ℕ)) → IsSomeAnd o (λ bytes. length bytes ≡ form_len a.form a.shape) → (o ≡ Some (unwrap_or o [])) × (length (unwrap_or o []) ≡ form_len a.form a.shape)
    by_file None h = absurd h
    by_file (Some bytes) h = (refl, h)

-- a disk that tells its files told them before
pub told_before : (name : List ℕ) (old new : Option Files) (now : Files) → others name new ≡ others name old → new ≡ Some now → (files : Files) × (old ≡ Some files)
told_before name None new now same is = absurd (none (sym (ap (others name) is) ∙ same))
  where
    none : Some (without_file now name) ≡ None → ⊥
    none e = absurd (cc)
told_before name (Some files) new now same is = (files, refl)

-- a disk tells one set of files
pub told_once : (told : Option Files) (x y : Files) → told ≡ Some x → told ≡ Some y → (P : Files → Type 0) → P x → P y
told_once told x y is other P holds =
    let both : Some x ≡ Some y = sym is ∙ other in
    let same : x ≡ y = cc in
    subst P same holds

-- words written over a part
pub words_written : (a : ArrayRef) (files : Files) (from at n : ℕ) (words ws : List ℕ) → HasFile a files → from + n ≤ padded_words a.shape → length ws ≡ n
    → ((k : ℕ) → k < n → slice_index ws k ≡ slice_index words (at + k)) → ((k : ℕ) → k < n → Fits a.form (slice_index ws k))
    → IsWritten a files (with_part files a.file.bytes (word_place a.form a.shape from) (flat_map (word_bytes (width a.form)) ws)) from words at n
words_written a files from at n words ws has le count same fit =
    let there = file_there a files has in
    let over = bytes_over a.form a.shape (contents a files) from ws there.1 (omega arith) in
    let bytes : List ℕ = overwritten (contents a files) (word_place a.form a.shape from) (flat_map (word_bytes (width a.form)) ws) in
    let now : file (with_file files a.file.bytes bytes) a.file.bytes ≡ Some bytes = file-with_file files a.file.bytes bytes in
    let contents_is : contents a (with_file files a.file.bytes bytes) ≡ bytes = ap (λ o. unwrap_or o []) now in
    record {
      has_file = subst (λ o. IsSomeAnd o (λ bs. length bs ≡ form_len a.form a.shape)) (sym now) (over.len ∙ there.1);
      head = ap (take (head_len a.form a.shape)) contents_is ∙ over.head;
      written = λ k lt. sym (same k lt) ∙ sym (over.stored k (omega arith) (fit k lt)) ∙ sym (ap (λ bs. word_at a.form a.shape bs (from + k)) contents_is);
      others = λ k out. ap (λ bs. word_at a.form a.shape bs k) contents_is ∙ over.others k (elim out [ inl low ↦ inl low | inr high ↦ inr (omega arith) ]);
      bytes = λ are. subst AreBytes (sym contents_is) (overwritten_are (contents a files) (word_place a.form a.shape from) (flat_map (word_bytes (width a.form)) ws) are (words_are (width a.form) ws));
    }

-- the words of one form, from a block
pub piece_written : (a : ArrayRef) (files now : Files) (from at n : ℕ) (words : List ℕ) → a.form ≡ One → HasFile a files → from + n ≤ padded_words a.shape → at + n ≤ length words
    → ((k : ℕ) → k < n → slice_index words (at + k) < 2 ^ 64)
    → Some now ≡ written a.file.bytes (word_place a.form a.shape from) (flat_map (word_bytes 8) (slice_range words at (at + n))) (Some files)
    → IsWritten a files now from words at n
piece_written a files now from at n words one has le room small is =
    let ws : List ℕ = slice_range words at (at + n) in
    let span : at + n - at ≡ n = omega arith in
    let rest = length-drop at words in
    let count : length ws ≡ n = length-take-le (at + n - at) (drop at words) (omega arith) ∙ span in
    let same : (k : ℕ) → k < n → slice_index ws k ≡ slice_index words (at + k) = λ k lt. get_or-take (at + n - at) (drop at words) k 0 (omega arith) ∙ get_or-drop at words k 0 in
    let fit : (k : ℕ) → k < n → Fits a.form (slice_index ws k) = λ k lt.
    subst (λ f. Fits f (slice_index ws k)) (sym one) ((words_fit.eight (slice_index ws k) (subst (λ v. v < 2 ^ 64) (sym (same k lt)) (small k lt))).0) in
    let eight : width a.form ≡ 8 = ap width one in
    let target : Some now ≡ Some (with_part files a.file.bytes (word_place a.form a.shape from) (flat_map (word_bytes (width a.form)) ws)) =
    is ∙ ap (λ w. Some (with_part files a.file.bytes (word_place a.form a.shape from) (flat_map (word_bytes w) ws))) (sym eight) in
    let same_files : now ≡ with_part files a.file.bytes (word_place a.form a.shape from) (flat_map (word_bytes (width a.form)) ws) = ap (λ o. unwrap_or o files) target in
    subst (λ gs. IsWritten a files gs from words at n) (sym same_files) (words_written a files from at n words ws has le count same fit)

pub nothing_written : (a : ArrayRef) (files : Files) (from at : ℕ) (words : List ℕ) → HasFile a files → IsWritten a files files from words at 0
nothing_written a files from at words has = record { has_file = has; head = refl; written = λ k lt. absurd (omega arith); others = λ k out. refl; bytes = λ are. are }

-- a piece behind the words that were written before
pub written_joined : (a : ArrayRef) (first old new : Files) (from at d n : ℕ) (words : List ℕ) → IsWritten a first old from words at d → IsWritten a old new (from + d) words (at + d) n → IsWritten a first new from words at (d + n)
written_joined a first old new from at d n words before piece = record {
  has_file = piece.has_file;
  head = piece.head ∙ before.head;
  written = λ k lt. elim (cases_lt k d) [
    | inl low ↦ before.written k low ∙ sym (piece.others (from + k) (inl (omega arith)))
    | inr high ↦
        let place : at + d + (k - d) ≡ at + k = omega arith in
        let word : from + d + (k - d) ≡ from + k = omega arith in
        ap (slice_index words) (sym place) ∙ piece.written (k - d) (omega arith) ∙ ap (word_in_file a new) word
  ];
  others = λ k out.
      piece.others k (elim out [ inl low ↦ inl (omega arith) | inr high ↦ inr (omega arith) ])
      ∙ before.others k (elim out [ inl low ↦ inl low | inr high ↦ inr (omega arith) ]);
  bytes = λ are. piece.bytes (before.bytes are);
}
