-- The loop of an outer dimension.
use Rattle.std.proofs.Common.{◌≡◌, ◌∙◌, refl, sym, ap, ℕ, ◌+◌, ◌-◌, ◌*◌, ◌<◌, ◌≤◌, List, [], ◌∷◌, length, get_or, take, drop, subst, arith}
use Rattle.std.proofs.lemmas.List.{take_all}
use Rattle.tce_base.specs.Word.{wrapping_add}
use Rattle.tce_space.specs.Box.{places}
use Rattle.tce_block.specs.declared.loops.Loop.{Loop}
use Rattle.tce_block.specs.declared.loops.SumLoop.{SumLoop}
use Rattle.tce_block.specs.declared.loops.Turn.{Turn}
use Rattle.tce_block.specs.Places.{word_place}
use Rattle.tce_block.specs.StrideSteps.{lens, out_steps, left_steps, right_steps, sum_lens, sum_out_steps, operand_steps}
use Rattle.tce_block.specs.Turns.{IsMade, grown, turn_word, turned}
use Rattle.tce_block.specs.Running.{CanRun, CanSum}
use Rattle.tce_block.proofs.Folds.{turns_before}
use Rattle.tce_block.proofs.Moves.{shift, rest_within, rest_apart, base_within, kept_at, turns_more}

-- lists by their length
pub no_loop : {A : Type 0} (loops : List A) → length loops < 1 → loops ≡ []
no_loop [] h = refl
no_loop (l ∷ ls) h = absurd (omega arith)

pub one_loop : {A : Type 0} (d : A) (loops : List A) → 1 ≤ length loops → length loops < 2 → loops ≡ get_or loops 0 d ∷ []
one_loop d [] some few = absurd (omega arith)
one_loop d (l ∷ []) some few = refl
one_loop d (l ∷ m ∷ ls) some few = absurd (omega arith)

pub two_loops : {A : Type 0} (d : A) (loops : List A) → 2 ≤ length loops → length loops < 3 → loops ≡ get_or loops 0 d ∷ get_or loops 1 d ∷ []
two_loops d [] some few = absurd (omega arith)
two_loops d (l ∷ []) some few = absurd (omega arith)
two_loops d (l ∷ m ∷ []) some few = refl
two_loops d (l ∷ m ∷ n ∷ ls) some few = absurd (omega arith)

pub more_loops : {A : Type 0} (d : A) (loops : List A) → 1 ≤ length loops → loops ≡ get_or loops 0 d ∷ take (length loops - 1) (drop 1 loops)
more_loops d [] some = absurd (omega arith)
more_loops d (l ∷ ls) some = ap (λ rest. l ∷ rest) (sym (take_all (length (l ∷ ls) - 1) ls (omega arith)))

-- a turn's word depends on its operands' words alone
same_turn : (turn : Turn) (w : ℕ) {left also_left right also_right : ℕ} → left ≡ also_left → right ≡ also_right → turn_word turn w left right ≡ turn_word turn w also_left also_right
same_turn turn w {left = left} {also_left = also_left} {right = right} {also_right = also_right} p q = ap (λ x. turn_word turn w x right) p ∙ ap (turn_word turn w also_left) q

pub sum_rest : (count now : ℕ) (first : SumLoop) (rest loops : List SumLoop) (out operand x : ℕ) → loops ≡ first ∷ rest → CanSum count loops out operand → now ≡ count → x < first.len
    → CanSum now rest (out + x * first.out) (operand + x * first.operand)
sum_rest count now first rest loops out operand x is given same lt =
    let fit : CanSum count (first ∷ rest) out operand = subst (λ ls. CanSum count ls out operand) is given in
    record {
      positive = fit.positive.1;
      out_within = rest_within count now first.len out first.out x (sum_lens rest) (sum_out_steps rest) fit.out_within same lt;
      operand_within = rest_within count now first.len operand first.operand x (sum_lens rest) (operand_steps rest) fit.operand_within same lt;
      operand_apart = rest_apart first.len out first.out operand first.operand x (sum_lens rest) (sum_out_steps rest) (operand_steps rest) fit.operand_apart lt;
    }

pub sum_bases : (count : ℕ) (first : SumLoop) (rest loops : List SumLoop) (out operand x : ℕ) → loops ≡ first ∷ rest → CanSum count loops out operand → x < first.len
    → (out + x * first.out < count) × (operand + x * first.operand < count)
sum_bases count first rest loops out operand x is given lt =
    let fit : CanSum count (first ∷ rest) out operand = subst (λ ls. CanSum count ls out operand) is given in (
      base_within count first.len out first.out x (sum_lens rest) (sum_out_steps rest) fit.positive.1 fit.out_within lt,
      base_within count first.len operand first.operand x (sum_lens rest) (operand_steps rest) fit.positive.1 fit.operand_within lt,
    )

pub sum_turns_more : (first : SumLoop) (rest loops : List SumLoop) (out operand x : ℕ) (old now next : List ℕ) → loops ≡ first ∷ rest → CanSum (length old) loops out operand → x < first.len
    → IsMade (grown old (word_place operand (operand_steps loops))) (word_place out (sum_out_steps loops)) (turns_before (sum_lens rest) x) old now
    → IsMade (grown now (word_place (operand + x * first.operand) (operand_steps rest))) (word_place (out + x * first.out) (sum_out_steps rest)) (places (sum_lens rest)) now next
    → IsMade (grown old (word_place operand (operand_steps loops))) (word_place out (sum_out_steps loops)) (turns_before (sum_lens rest) (x + 1)) old next
sum_turns_more first rest loops out operand x old now next is given lt before more =
    let fit : CanSum (length old) (first ∷ rest) out operand = subst (λ ls. CanSum (length old) ls out operand) is given in
    let made : IsMade (grown old (word_place operand (operand_steps (first ∷ rest)))) (word_place out (sum_out_steps (first ∷ rest))) (turns_before (sum_lens rest) x) old now = subst (λ ls. IsMade (grown old (word_place operand (operand_steps ls))) (word_place out (sum_out_steps ls)) (turns_before (sum_lens rest) x) old now) is before in
    subst (λ ls. IsMade (grown old (word_place operand (operand_steps ls))) (word_place out (sum_out_steps ls)) (turns_before (sum_lens rest) (x + 1)) old next) (sym is)
    (turns_more (grown old (word_place operand (operand_steps (first ∷ rest)))) (grown now (word_place (operand + x * first.operand) (operand_steps rest))) (word_place out (sum_out_steps (first ∷ rest))) (word_place (out + x * first.out) (sum_out_steps rest)) (sum_lens rest) x old now next made more
    (shift out first.out x (sum_out_steps rest))
    (λ w xs inside. ap (wrapping_add w) (kept_at (grown old (word_place operand (operand_steps (first ∷ rest)))) (word_place out (sum_out_steps (first ∷ rest))) operand first.operand (operand_steps rest) first.len (sum_lens rest) x old now xs made lt fit.operand_apart fit.operand_within inside)))

pub turn_rest : (count now : ℕ) (first : Loop) (rest loops : List Loop) (out left right x : ℕ) → loops ≡ first ∷ rest → CanRun count loops out left right → now ≡ count → x < first.len
    → CanRun now rest (out + x * first.out) (left + x * first.left) (right + x * first.right)
turn_rest count now first rest loops out left right x is given same lt =
    let fit : CanRun count (first ∷ rest) out left right = subst (λ ls. CanRun count ls out left right) is given in
    record {
      positive = fit.positive.1;
      out_within = rest_within count now first.len out first.out x (lens rest) (out_steps rest) fit.out_within same lt;
      left_within = rest_within count now first.len left first.left x (lens rest) (left_steps rest) fit.left_within same lt;
      right_within = rest_within count now first.len right first.right x (lens rest) (right_steps rest) fit.right_within same lt;
      left_apart = rest_apart first.len out first.out left first.left x (lens rest) (out_steps rest) (left_steps rest) fit.left_apart lt;
      right_apart = rest_apart first.len out first.out right first.right x (lens rest) (out_steps rest) (right_steps rest) fit.right_apart lt;
    }

pub turn_bases : (count : ℕ) (first : Loop) (rest loops : List Loop) (out left right x : ℕ) → loops ≡ first ∷ rest → CanRun count loops out left right → x < first.len
    → (out + x * first.out < count) × (left + x * first.left < count) × (right + x * first.right < count)
turn_bases count first rest loops out left right x is given lt =
    let fit : CanRun count (first ∷ rest) out left right = subst (λ ls. CanRun count ls out left right) is given in (
      base_within count first.len out first.out x (lens rest) (out_steps rest) fit.positive.1 fit.out_within lt,
      base_within count first.len left first.left x (lens rest) (left_steps rest) fit.positive.1 fit.left_within lt,
      base_within count first.len right first.right x (lens rest) (right_steps rest) fit.positive.1 fit.right_within lt,
    )

pub turn_turns_more : (turn : Turn) (first : Loop) (rest loops : List Loop) (out left right x : ℕ) (old now next : List ℕ) → loops ≡ first ∷ rest → CanRun (length old) loops out left right → x < first.len
    → IsMade (turned turn old (word_place left (left_steps loops)) (word_place right (right_steps loops))) (word_place out (out_steps loops)) (turns_before (lens rest) x) old now
    → IsMade (turned turn now (word_place (left + x * first.left) (left_steps rest)) (word_place (right + x * first.right) (right_steps rest))) (word_place (out + x * first.out) (out_steps rest)) (places (lens rest)) now next
    → IsMade (turned turn old (word_place left (left_steps loops)) (word_place right (right_steps loops))) (word_place out (out_steps loops)) (turns_before (lens rest) (x + 1)) old next
turn_turns_more turn first rest loops out left right x old now next is given lt before more =
    let fit : CanRun (length old) (first ∷ rest) out left right = subst (λ ls. CanRun (length old) ls out left right) is given in
    let made : IsMade (turned turn old (word_place left (left_steps (first ∷ rest))) (word_place right (right_steps (first ∷ rest)))) (word_place out (out_steps (first ∷ rest))) (turns_before (lens rest) x) old now = subst (λ ls. IsMade (turned turn old (word_place left (left_steps ls)) (word_place right (right_steps ls))) (word_place out (out_steps ls)) (turns_before (lens rest) x) old now) is before in
    subst (λ ls. IsMade (turned turn old (word_place left (left_steps ls)) (word_place right (right_steps ls))) (word_place out (out_steps ls)) (turns_before (lens rest) (x + 1)) old next) (sym is)
    (turns_more (turned turn old (word_place left (left_steps (first ∷ rest))) (word_place right (right_steps (first ∷ rest)))) (turned turn now (word_place (left + x * first.left) (left_steps rest)) (word_place (right + x * first.right) (right_steps rest))) (word_place out (out_steps (first ∷ rest))) (word_place (out + x * first.out) (out_steps rest)) (lens rest) x old now next made more
    (shift out first.out x (out_steps rest))
    (λ w xs inside. same_turn turn w (kept_at (turned turn old (word_place left (left_steps (first ∷ rest))) (word_place right (right_steps (first ∷ rest)))) (word_place out (out_steps (first ∷ rest))) left first.left (left_steps rest) first.len (lens rest) x old now xs made lt fit.left_apart fit.left_within inside) (kept_at (turned turn old (word_place left (left_steps (first ∷ rest))) (word_place right (right_steps (first ∷ rest)))) (word_place out (out_steps (first ∷ rest))) right first.right (right_steps rest) first.len (lens rest) x old now xs made lt fit.right_apart fit.right_within inside)))
