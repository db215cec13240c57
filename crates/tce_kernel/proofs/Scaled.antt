-- Blocks and words of rows that are added with their factors.
use Rattle.std.proofs.Common.{◌≡◌, ℕ, ◌+◌, ◌<◌, ◌≤◌, List, length, get_or, map, replicate, sym, ◌∙◌, ap₂, arith}
use Rattle.std.specs.Simd.Lanes.{zip2, chunk}
use Rattle.std.proofs.lemmas.List.{length-map, get_or-map}
use Rattle.std.proofs.lemmas.Simd.{length-zip2, get_or-zip2}
use Rattle.tce_base.specs.Word.{wrapping_add, wrapping_mul}
use Rattle.tce_kernel.specs.Scaled.{with_scaled}
use Rattle.tce_kernel.proofs.Blocks.{chunk-zip2, splat_chunk}

pub length-with_scaled : (words row : List ℕ) (factor n : ℕ) → length words ≡ n → length row ≡ n → length (with_scaled words factor row) ≡ n
length-with_scaled words row factor n long same =
    length-zip2 wrapping_add words (map (wrapping_mul factor) row) (long ∙ sym (length-map row (wrapping_mul factor) ∙ same)) ∙ long

-- a block of lanes
pub chunk-with_scaled : (at n factor : ℕ) (words row lanes : List ℕ) → at + n ≤ length row → lanes ≡ chunk at n words
    → zip2 wrapping_add lanes (zip2 wrapping_mul (replicate n factor) (chunk at n row)) ≡ chunk at n (with_scaled words factor row)
chunk-with_scaled at n factor words row lanes room is =
    ap₂ (zip2 wrapping_add) is (splat_chunk wrapping_mul n factor at row room) ∙ sym (chunk-zip2 wrapping_add at n words (map (wrapping_mul factor) row))

-- one word
pub get_or-with_scaled : (at factor word : ℕ) (words row : List ℕ) → at < length words → at < length row → word ≡ get_or words at 0
    → wrapping_add word (wrapping_mul factor (get_or row at 0)) ≡ get_or (with_scaled words factor row) at 0
get_or-with_scaled at factor word words row lt also is =
    ap₂ wrapping_add is (sym (get_or-map (wrapping_mul factor) row at 0 0 also))
    ∙ sym (get_or-zip2 wrapping_add words (map (wrapping_mul factor) row) at 0 0 0 lt (omega (arith, also, length-map row (wrapping_mul factor))))
