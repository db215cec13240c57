-- Loops in which words are multiplied by a factor.
use Rattle.std.proofs.Common.{◌≡◌, ℕ, ◌+◌, ◌*◌, ◌<◌, List, ◌∷◌, refl, sym, subst}
use Rattle.tce_base.specs.Word.{wrapping_mul}
use Rattle.tce_space.specs.Box.{places}
use Rattle.tce_space.specs.Tiling.{ArePositive}
use Rattle.tce_block.specs.declared.loops.SumLoop.{SumLoop}
use Rattle.tce_block.specs.Places.{word_place}
use Rattle.tce_block.specs.StrideSteps.{sum_lens, sum_out_steps}
use Rattle.tce_block.specs.Turns.{IsMade}
use Rattle.tce_block.specs.Running.{IsSumWithin}
use Rattle.tce_block.proofs.Folds.{turns_before}
use Rattle.tce_block.proofs.Moves.{shift, rest_within, base_within, turns_more}

-- loops whose places are among `count` words
pub record CanScale (count : ℕ) (loops : List SumLoop) (out : ℕ) : Type 0 where
  pub positive : ArePositive (sum_lens loops)
  pub within : IsSumWithin count loops out

pub scale_rest : (count now : ℕ) (first : SumLoop) (rest loops : List SumLoop) (out x : ℕ) → loops ≡ first ∷ rest → CanScale count loops out → now ≡ count → x < first.len
    → CanScale now rest (out + x * first.out)
scale_rest count now first rest loops out x is given same lt =
    let fit : CanScale count (first ∷ rest) out = subst (λ ls. CanScale count ls out) is given in
    record {
      positive = fit.positive.1;
      within = rest_within count now first.len out first.out x (sum_lens rest) (sum_out_steps rest) fit.within same lt;
    }

pub scale_base : (count : ℕ) (first : SumLoop) (rest loops : List SumLoop) (out x : ℕ) → loops ≡ first ∷ rest → CanScale count loops out → x < first.len → out + x * first.out < count
scale_base count first rest loops out x is given lt =
    let fit : CanScale count (first ∷ rest) out = subst (λ ls. CanScale count ls out) is given in
    base_within count first.len out first.out x (sum_lens rest) (sum_out_steps rest) fit.positive.1 fit.within lt

pub scaled_more : (factor : ℕ) (first : SumLoop) (rest loops : List SumLoop) (out x : ℕ) (old now next : List ℕ) → loops ≡ first ∷ rest
    → IsMade (λ w xs. wrapping_mul factor w) (word_place out (sum_out_steps loops)) (turns_before (sum_lens rest) x) old now
    → IsMade (λ w xs. wrapping_mul factor w) (word_place (out + x * first.out) (sum_out_steps rest)) (places (sum_lens rest)) now next
    → IsMade (λ w xs. wrapping_mul factor w) (word_place out (sum_out_steps loops)) (turns_before (sum_lens rest) (x + 1)) old next
scaled_more factor first rest loops out x old now next is before more =
    let made : IsMade (λ w xs. wrapping_mul factor w) (word_place out (sum_out_steps (first ∷ rest))) (turns_before (sum_lens rest) x) old now =
    subst (λ ls. IsMade (λ w xs. wrapping_mul factor w) (word_place out (sum_out_steps ls)) (turns_before (sum_lens rest) x) old now) is before in
    subst (λ ls. IsMade (λ w xs. wrapping_mul factor w) (word_place out (sum_out_steps ls)) (turns_before (sum_lens rest) (x + 1)) old next) (sym is)
    (turns_more (λ w xs. wrapping_mul factor w) (λ w xs. wrapping_mul factor w) (word_place out (sum_out_steps (first ∷ rest))) (word_place (out + x * first.out) (sum_out_steps rest)) (sum_lens rest) x old now next made more
    (shift out first.out x (sum_out_steps rest)) (λ w xs inside. refl))
