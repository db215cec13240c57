use Rattle.std.proofs.Common.{◌≡◌, ℕ, ◌+◌, ◌-◌, ◌^◌, ◌<◌, ◌≤◌, sym, ap, ◌∙◌, arith}
use Rattle.std.proofs.lemmas.Bool.Decides.{nat_tests}
use Rattle.tce_base.specs.Word.{word_of_bytes, widened}
use Rattle.tce_words.proofs.bytes.narrow_word.Goals as goal

widened_low : (n : ℕ) → n < 2 ^ 31 → widened n ≡ n
unfolding widened
widened_low n low = grind (arith, nat_tests)

widened_high : (n : ℕ) → 2 ^ 31 ≤ n → widened n ≡ n + (2 ^ 64 - 2 ^ 32)
unfolding widened
widened_high n high = grind (arith, nat_tests)

pub returns-then-low : goal.returns-then-low
unfolding word_of_bytes
returns-then-low c = c.from.ensures ∙ sym (widened_low c.read_u32-low.result (omega arith)) ∙ ap widened c.read_u32-low.ensures

pub returns-else-low : goal.returns-else-low
unfolding word_of_bytes
returns-else-low c = ap (λ n. n + (2 ^ 64 - 2 ^ 32)) c.from-else-low.ensures ∙ sym (widened_high c.read_u32-low.result (omega arith)) ∙ ap widened c.read_u32-low.ensures
