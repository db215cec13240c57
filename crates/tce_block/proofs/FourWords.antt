-- Rows of four words.
use Rattle.std.proofs.Common.{◌≡◌, ◌∙◌, refl, sym, ap, ap₂, subst, ℕ, ◌+◌, ◌*◌, ◌<◌, List, [], ◌∷◌, length, arith}
use Rattle.std.specs.List.{range_with_len, fold}
use Rattle.tce_base.specs.Word.{wrapping_add}
use Rattle.tce_block.specs.declared.loops.Loop.{Loop}
use Rattle.tce_block.specs.declared.loops.Turn.TheVariants.{Grow}
use Rattle.tce_block.specs.Places.{word_place}
use Rattle.tce_block.specs.Turns.{IsMade, grown_by_products, turned}
use Rattle.tce_block.specs.Running.{CanRun, AreTurned}
use Rattle.tce_block.specs.Rows.{AreFourWords, IsScaled, product_at, four_products, products_along}
use Rattle.tce_block.proofs.Folds.{turns_before}
use Rattle.tce_block.proofs.Innermost.{place_along}
use Rattle.tce_block.proofs.Outer.{turn_turns_more}

-- a place of a loop with the step 1
next_place : (base step t : ℕ) → step ≡ 1 → base + t ≡ word_place base (step ∷ []) (t ∷ [])
next_place base step t is = let one : base + t ≡ base + t * 1 = omega arith in one ∙ ap (λ s. base + t * s) (sym is) ∙ sym (place_along base step t)

pub four_are : (words : List ℕ) (along : Loop) (left right word : ℕ) → AreFourWords along → four_products words left right word ≡ products_along words along left right word
four_are words along left right word four =
    let f : ℕ → ℕ → ℕ = λ w x. grown_by_products words (word_place left (along.left ∷ [])) (word_place right (along.right ∷ [])) w (x ∷ []) in
    let at : (i j t : ℕ) → i ≡ left + t → j ≡ right + t → product_at words i j ≡ product_at words (word_place left (along.left ∷ []) (t ∷ [])) (word_place right (along.right ∷ []) (t ∷ [])) =
    λ i j t p q. ap₂ (product_at words) (p ∙ next_place left along.left t four.1) (q ∙ next_place right along.right t four.2) in
    ap₂ wrapping_add (ap₂ wrapping_add (ap₂ wrapping_add (ap (wrapping_add word)
    (at left right 0 (omega arith) (omega arith))) (at (left + 1) (right + 1) 1 (omega arith) (omega arith)))
    (at (left + 2) (right + 2) 2 (omega arith) (omega arith))) (at (left + 3) (right + 3) 3 (omega arith) (omega arith))
    ∙ ap (λ n. fold f word (range_with_len 0 n)) (sym four.0)

-- the places of four turns along words of the result
pub four_within : (along : Loop) (count out left right t : ℕ) → CanRun count (along ∷ []) out left right → along.len ≡ 4 → IsScaled along → t < 4
    → (out + t < count) × (left < count) × (right + t < count)
four_within along count out left right t fit four scaled lt =
    let inside : t < along.len = omega arith in (
      subst (λ k. k < count) (sym (next_place out along.out t scaled.0)) (fit.out_within (t ∷ []) (inside, tt)),
      omega (arith, fit.left_within (0 ∷ []) (omega arith, tt)),
      subst (λ k. k < count) (sym (next_place right along.right t scaled.2)) (fit.right_within (t ∷ []) (inside, tt)),
    )

-- the first turns of a loop that adds products
abbrev pub AreMadeBefore : Loop → ℕ → ℕ → ℕ → ℕ → List ℕ → List ℕ → Type 0
AreMadeBefore along out left right x old now =
    IsMade (turned Grow old (word_place left (along.left ∷ [])) (word_place right (along.right ∷ []))) (word_place out (along.out ∷ [])) (turns_before [] x) old now

none_before : (along : Loop) (out left right : ℕ) (old : List ℕ) → AreMadeBefore along out left right 0 old old
none_before along out left right old = record { same_length = refl; made = λ k lt. refl }

-- one turn more
next_turn : (along : Loop) (out left right x m at factor word : ℕ) (old now next : List ℕ) → CanRun (length old) (along ∷ []) out left right → x < along.len → m ≡ x + 1
    → out + x * along.out ≡ at → left + x * along.left ≡ factor → right + x * along.right ≡ word
    → AreMadeBefore along out left right x old now → AreTurned Grow [] at factor word now next → AreMadeBefore along out left right m old next
next_turn along out left right x m at factor word old now next fit lt is at_is factor_is word_is before turn =
    let here : AreTurned Grow [] (out + x * along.out) (left + x * along.left) (right + x * along.right) now next =
    subst (λ a. AreTurned Grow [] a (left + x * along.left) (right + x * along.right) now next) (sym at_is)
    (subst (λ f. AreTurned Grow [] at f (right + x * along.right) now next) (sym factor_is)
    (subst (λ w. AreTurned Grow [] at factor w now next) (sym word_is) turn)) in
    subst (λ n. AreMadeBefore along out left right n old next) (sym is)
    (turn_turns_more Grow along [] (along ∷ []) out left right x old now next refl fit lt before here)

-- four turns, one after the other, along words of the result
pub four_turns : (along : Loop) (out left right : ℕ) (old one two three new : List ℕ) → CanRun (length old) (along ∷ []) out left right → along.len ≡ 4 → IsScaled along
    → AreTurned Grow [] out left right old one → AreTurned Grow [] (out + 1) left (right + 1) one two
    → AreTurned Grow [] (out + 2) left (right + 2) two three → AreTurned Grow [] (out + 3) left (right + 3) three new
    → AreTurned Grow (along ∷ []) out left right old new
four_turns along out left right old one two three new fit four scaled first second third last =
    let first_made : AreMadeBefore along out left right 1 old one =
    next_turn along out left right 0 1 out left right old old one fit (omega arith) refl (omega arith) (omega arith) (omega arith) (none_before along out left right old) first in
    let second_made : AreMadeBefore along out left right 2 old two =
    next_turn along out left right 1 2 (out + 1) left (right + 1) old one two fit (omega arith) refl (omega arith) (omega arith) (omega arith) first_made second in
    let third_made : AreMadeBefore along out left right 3 old three =
    next_turn along out left right 2 3 (out + 2) left (right + 2) old two three fit (omega arith) refl (omega arith) (omega arith) (omega arith) second_made third in
    let last_made : AreMadeBefore along out left right 4 old new =
    next_turn along out left right 3 4 (out + 3) left (right + 3) old three new fit (omega arith) refl (omega arith) (omega arith) (omega arith) third_made last in
    subst (λ n. AreMadeBefore along out left right n old new) (sym four) last_made
