-- The words of a band, read from a file.
use Rattle.std.proofs.Common.{◌≡◌, ◌∙◌, ℕ, ◌+◌, ◌-◌, ◌*◌, ◌<◌, ◌≤◌, List, length, drop, slice_index, sym, ap, subst, inl, inr, arith}
use Rattle.std.proofs.lemmas.Bool.{cases_lt}
use Rattle.std.proofs.lemmas.Nat.{same_from_place}
use borrow.Rule.Slice.PartMut.{put_mid}
use Rattle.tce_space.specs.Box.{place, IsInside}
use Rattle.tce_space.specs.Tiling.{Tiling, word_number}
use Rattle.tce_array.specs.declared.form.Form.{Form}
use Rattle.tce_array.specs.declared.form.Form.TheVariants.{One}
use Rattle.tce_array.specs.Forms.{width, head_len, word_in}
use Rattle.tce_tools.specs.declared.storage.Storage.{Storage}
use Rattle.tce_tools.specs.declared.storage.Storage.TheVariants.{Flat, Array}
use Rattle.tce_tools.specs.declared.band.Band.{Band}
use Rattle.tce_tools.specs.Storage.{element_in}
use Rattle.tce_tools.specs.Runs.{AreElements}
use Rattle.tce_tools.specs.Bands.{IsAt}
use Rattle.tce_tools.proofs.Shuffles.{copied, kept}

pub flat_read : (storage : Storage) (s : Tiling) (bs vs : List ℕ) (start : ℕ) → storage ≡ Flat → ((k : ℕ) → k < length vs → slice_index vs k ≡ word_in One (drop (8 * start + width One * k) bs)) → AreElements s (element_in storage s bs) start vs
flat_read storage s bs vs start is values =
    subst (λ (t : Storage). AreElements s (element_in t s bs) start vs) (sym is) (λ k lt xs h placed.
    let at : 8 * start + 8 * k ≡ 0 + 8 * place s.extents xs = omega (arith, placed) in
    values k lt ∙ ap (λ n. word_in One (drop n bs)) at)

-- one piece more
pub piece_read : (form : Form) (s : Tiling) (band : Band) (bs tiled vs : List ℕ) (t at : ℕ) → length vs ≡ band.piece_len → t * band.piece_len + band.piece_len ≤ length tiled → at ≡ head_len form s + width form * (band.word + t * band.stride)
    → ((k : ℕ) → k < length vs → slice_index vs k ≡ word_in form (drop (at + width form * k) bs))
    → ((xs : List ℕ) → IsInside s.extents xs → (index : ℕ) → IsAt band (word_number s xs) index → index < t * band.piece_len → slice_index tiled index ≡ element_in (Array form) s bs xs)
    → (xs : List ℕ) → IsInside s.extents xs → (index : ℕ) → IsAt band (word_number s xs) index → index < (t + 1) * band.piece_len
    → slice_index (put_mid (t * band.piece_len) (t * band.piece_len + band.piece_len - t * band.piece_len) tiled vs) index ≡ element_in (Array form) s bs xs
piece_read form s band bs tiled vs t at len room place_is values before xs h index there lt =
    let from : ℕ = t * band.piece_len in
    let count : t * band.piece_len + band.piece_len - t * band.piece_len ≡ length vs = omega (arith, len) in
    let fits : t * band.piece_len + length vs ≤ length tiled = omega (arith, len, room) in
    elim (cases_lt index (t * band.piece_len)) [
      | inl low ↦ kept (t * band.piece_len) (t * band.piece_len + band.piece_len - t * band.piece_len) tiled vs index count fits (inl low) ∙ before xs h index there low
      | inr high ↦
          let both = same_from_place there.piece there.offset t (index - t * band.piece_len) band.piece_len there.within (omega arith) (omega (arith, there.index_is)) in
          let row : there.piece * band.stride ≡ t * band.stride = ap (λ p. p * band.stride) both.0 in
          let number : word_number s xs ≡ band.word + t * band.stride + (index - t * band.piece_len) = omega (arith, there.word_is, row, both.1) in
          let across : width form * word_number s xs ≡ width form * (band.word + t * band.stride + (index - t * band.piece_len)) = ap (λ n. width form * n) number in
          let byte : at + width form * (index - t * band.piece_len) ≡ head_len form s + width form * word_number s xs = omega (arith, place_is, across) in
          let here : index ≡ t * band.piece_len + (index - t * band.piece_len) = omega arith in
          ap (slice_index (put_mid (t * band.piece_len) (t * band.piece_len + band.piece_len - t * band.piece_len) tiled vs)) here
          ∙ copied (t * band.piece_len) (t * band.piece_len + band.piece_len - t * band.piece_len) tiled vs (index - t * band.piece_len) count fits (omega (arith, len))
          ∙ values (index - t * band.piece_len) (omega (arith, len))
          ∙ ap (λ n. word_in form (drop n bs)) byte
    ]
