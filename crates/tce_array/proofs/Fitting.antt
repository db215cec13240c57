-- Which words can be stored in a form.
use Rattle.std.proofs.Common.{◌≡◌, ◌∙◌, ◌⊎◌, ℕ, ◌+◌, ◌-◌, ◌%◌, ◌^◌, ◌<◌, ◌≤◌, true, false, if◌then◌else◌, nat_lt, sym, ap, inl, inr, arith}
use Rattle.std.proofs.lemmas.Bool.{cases_lt}
use Rattle.tce_base.specs.Word.{word_bytes, word_of_bytes, widened}
use Rattle.tce_array.specs.Forms.{word_in}
use Rattle.tce_array.specs.Files.{WordsFit}

eight : (w : ℕ) → w < 2 ^ 64 → word_of_bytes 8 (word_bytes 8 w) ≡ w
unfolding word_bytes word_of_bytes
eight w h = omega arith

four : (w : ℕ) → word_of_bytes 4 (word_bytes 4 w) ≡ w % 2 ^ 32
unfolding word_bytes word_of_bytes
four w = omega arith

widened_low : (n : ℕ) → n < 2 ^ 31 → widened n ≡ n
unfolding widened
widened_low n h = let test : nat_lt n (2 ^ 31) ≡ true = grind (arith, h) in ap (λ b. if b then n else n + (2 ^ 64 - 2 ^ 32)) test

widened_high : (n : ℕ) → 2 ^ 31 ≤ n → widened n ≡ n + (2 ^ 64 - 2 ^ 32)
unfolding widened
widened_high n h = let test : nat_lt n (2 ^ 31) ≡ false = grind (arith, h) in ap (λ b. if b then n else n + (2 ^ 64 - 2 ^ 32)) test

signed : (w : ℕ) → w < 2 ^ 64 → widened (w % 2 ^ 32) ≡ w → (w < 2 ^ 31) ⊎ (2 ^ 64 ≤ w + 2 ^ 31)
signed w h e =
    elim (cases_lt (w % 2 ^ 32) (2 ^ 31)) [
      | inl low ↦ inl (omega (arith, widened_low (w % 2 ^ 32) low))
      | inr high ↦ inr (omega (arith, widened_high (w % 2 ^ 32) high))
    ]

fits_signed : (w : ℕ) → w < 2 ^ 64 → (w < 2 ^ 31) ⊎ (2 ^ 64 ≤ w + 2 ^ 31) → widened (w % 2 ^ 32) ≡ w
fits_signed w h by =
    elim by [
      | inl low ↦ let same : w % 2 ^ 32 ≡ w = omega arith in ap widened same ∙ widened_low w low
      | inr high ↦ let last : w % 2 ^ 32 + (2 ^ 64 - 2 ^ 32) ≡ w = omega arith in widened_high (w % 2 ^ 32) (omega arith) ∙ last
    ]

pub words_fit : WordsFit
unfolding word_in
words_fit = record {
  eight = λ w h. (eight w h, eight w h);
  four = λ w h. ((λ e. signed w h (sym (ap widened (four w)) ∙ e)), (λ by. ap widened (four w) ∙ fits_signed w h by));
}
