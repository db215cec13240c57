-- Pieces of an array file, tile by tile.
use Rattle.std.proofs.Common.{◌≡◌, ◌∙◌, ◌⊎◌, ℕ, ◌+◌, ◌-◌, ◌<◌, ◌≤◌, true, false, nat_lt, if◌then◌else◌, List, length, replicate, slice_index, min, sym, ap, arith, inl, inr}
use Rattle.std.proofs.lemmas.Bool.{cases_lt}
use borrow.Rule.Slice.PartMut.{put_mid}
use Rattle.tce_space.specs.Tiling.{Tiling, IsTiling, word_number, padded_words}
use Rattle.tce_space.proofs.Tilings.{word_number-lt, word_number_injective}
use Rattle.tce_array.specs.declared.form.Form.TheVariants.{One}
use Rattle.tce_tools.specs.declared.storage.Storage.TheVariants.{Array}
use Rattle.tce_tools.specs.Runs.{moved}
use Rattle.tce_tools.specs.Storage.{bare_bytes}
use Rattle.tce_tools.proofs.PieceWrites.{IsChange}
use Rattle.tce_tools.proofs.Shuffles.{copied, kept}
use Rattle.tce_tools.proofs.Stored.{bare_same}
use Rattle.tce_sym.specs.declared.tile_rows.TileRow.{TileRow}
use Rattle.tce_sym.specs.TileRows.{IsTileRow, AreWords}
use Rattle.tce_sym.proofs.HeldLines.{no_mark}

-- the elements of the first words, and zeros in place of the others
abbrev pub first_words : Tiling → (List ℕ → ℕ) → ℕ → List ℕ → ℕ
first_words s element count xs = if nat_lt (word_number s xs) count then element xs else 0

among_words : (s : Tiling) (element : List ℕ → ℕ) (count : ℕ) (xs : List ℕ) → word_number s xs < count → first_words s element count xs ≡ element xs
among_words s element count xs h = let test : nat_lt (word_number s xs) count ≡ true = grind (arith, h) in ap (λ b. if b then element xs else 0) test

behind_words : (s : Tiling) (element : List ℕ → ℕ) (count : ℕ) (xs : List ℕ) → count ≤ word_number s xs → first_words s element count xs ≡ 0
behind_words s element count xs h = let test : nat_lt (word_number s xs) count ≡ false = grind (arith, h) in ap (λ b. if b then element xs else 0) test

pub no_words : (s : Tiling) → IsTiling s → (f : List ℕ → ℕ) → bare_bytes (Array One) s (λ _. 0) ≡ bare_bytes (Array One) s (first_words s f 0)
no_words s t f = bare_same (Array One) s t (λ _. 0) (first_words s f 0) (λ xs h. sym (behind_words s f 0 xs (omega arith)))

pub all_words : (s : Tiling) → IsTiling s → (f : List ℕ → ℕ) (n : ℕ) → padded_words s ≤ n → bare_bytes (Array One) s (first_words s f n) ≡ bare_bytes (Array One) s f
all_words s t f n le = bare_same (Array One) s t (first_words s f n) f (λ xs h. among_words s f n xs (omega (arith, word_number-lt s xs t.same_rank t.positive h)))

-- a piece that is written
pub piece_change : (s : Tiling) (f : List ℕ → ℕ) (vs : List ℕ) (done len : ℕ) → IsTiling s → length vs ≡ len → done + len ≤ padded_words s → AreWords s f done len vs
    → IsChange (Array One) s (first_words s f done) (first_words s f (done + len)) done vs
piece_change s f vs done len t size room values = record {
  tiling = t;
  room = omega (arith, size);
  here = λ xs h k l is. values.elements k (omega (arith, size)) xs h is ∙ sym (among_words s f (done + len) xs (omega (arith, is, size)));
  elsewhere = λ xs h far. elim far [
    | inl low ↦ among_words s f (done + len) xs (omega arith) ∙ sym (among_words s f done xs low)
    | inr high ↦ behind_words s f (done + len) xs (omega (arith, size)) ∙ sym (behind_words s f done xs (omega arith))
  ];
  padding = λ k l none. values.padding k (omega (arith, size)) none;
}

-- the words of a row more, of which those that are no elements stay 0
pub record AreFilled (s : Tiling) (f : List ℕ → ℕ) (from count : ℕ) (words : List ℕ) : Type 0 where
  pub values : AreWords s f from count words
  pub zeros : (k : ℕ) → count ≤ k → slice_index words k ≡ 0

pub none_filled : (s : Tiling) (f : List ℕ → ℕ) (from n : ℕ) (words : List ℕ) → words ≡ replicate {A = ℕ} n 0 → AreFilled s f from 0 words
none_filled s f from n words is = record {
  values = record { elements = λ k l xs h at. absurd (omega arith); padding = λ k l none. absurd (omega arith) };
  zeros = λ k h. ap (λ l. slice_index l k) is ∙ no_mark n k;
}

pub more_filled : (s : Tiling) (f : List ℕ → ℕ) (from filled len used : ℕ) (row : TileRow) (old ws : List ℕ) → IsTiling s → IsTileRow s (from + filled) row → len ≤ row.len → used ≡ min row.used len
    → length ws ≡ used → filled + len ≤ length old → ((k : ℕ) → k < used → slice_index ws k ≡ f (moved row.coords.items k)) → AreFilled s f from filled old
    → AreFilled s f from (filled + len) (put_mid filled (filled + used - filled) old ws)
more_filled s f from filled len used row old ws t r short few size room read before = record {
  values = record {
    elements = λ k l xs h at. elim (cases_lt k filled) [
      | inl low ↦ same k (inl low) ∙ before.values.elements k low xs h at
      | inr high ↦ elim (cases_lt (k - filled) used) [
        | inl within ↦ copy k high within ∙ read (k - filled) within
            ∙ ap f (word_number_injective s (moved row.coords.items (k - filled)) xs t.same_rank t.positive (r.inside (k - filled) (omega arith)) h (number k high within ∙ sym at))
        | inr past ↦ absurd (r.padding (k - filled) (omega arith) (omega arith) xs h (omega (arith, at)))
      ]
    ];
    padding = λ k l none. elim (cases_lt k filled) [
      | inl low ↦ same k (inl low) ∙ before.values.padding k low none
      | inr high ↦ elim (cases_lt (k - filled) used) [
        | inl within ↦ absurd (none (moved row.coords.items (k - filled)) (r.inside (k - filled) (omega arith)) (number k high within))
        | inr past ↦ same k (inr (omega arith)) ∙ before.zeros k high
      ]
    ];
  };
  zeros = λ k h. same k (inr (omega arith)) ∙ before.zeros k (omega arith);
}
  where
    count : filled + used - filled ≡ length ws
    count = omega (arith, size)

    fits : filled + length ws ≤ length old
    fits = omega (arith, size)

    same : (k : ℕ) → (k < filled) ⊎ (filled + used ≤ k) → slice_index (put_mid filled (filled + used - filled) old ws) k ≡ slice_index old k
    same k far = kept filled (filled + used - filled) old ws k count fits (elim far [ inl low ↦ inl low | inr high ↦ inr (omega (arith, size)) ])

    copy : (k : ℕ) → filled ≤ k → k - filled < used → slice_index (put_mid filled (filled + used - filled) old ws) k ≡ slice_index ws (k - filled)
    copy k high within =
        let there : k ≡ filled + (k - filled) = omega arith in
        ap (slice_index (put_mid filled (filled + used - filled) old ws)) there ∙ copied filled (filled + used - filled) old ws (k - filled) count fits (omega (arith, size))

    number : (k : ℕ) → filled ≤ k → k - filled < used → word_number s (moved row.coords.items (k - filled)) ≡ from + k
    number k high within = r.numbers (k - filled) (omega arith) ∙ omega arith
