use Rattle.std.proofs.Common.{◌≡◌, ◌∙◌, ℕ, ◌+◌, [], ◌∷◌, slice_index, sym, ap, ap₂, add-one, arith}
use Rattle.std.specs.List.{range_with_len, fold}
use Rattle.tce_base.specs.Word.{wrapping_add, wrapping_mul}
use Rattle.tce_block.specs.Places.{word_place}
use Rattle.tce_block.specs.Turns.{grown_by_products}
use Rattle.tce_block.proofs.Folds.{range_more}
use Rattle.tce_block.proofs.Innermost.{place_along}
use Rattle.tce_block.proofs.runs.grown_along.Goals as goal

pub overflow_mul-x : goal.overflow_mul-x
overflow_mul-x c = omega (arith, c.requires.limit, c.requires.left (c.loop-x.x ∷ []) (c.loop-x-test.true, tt))

pub overflow_add-left : goal.overflow_add-left
overflow_add-left c = omega (arith, c.requires.limit, c.requires.left (c.loop-x.x ∷ []) (c.loop-x-test.true, tt))

pub get-a-requires : goal.get-a-requires
get-a-requires c = omega (arith, c.requires.left (c.loop-x.x ∷ []) (c.loop-x-test.true, tt))

pub overflow_mul-x-in-loop-x : goal.overflow_mul-x-in-loop-x
overflow_mul-x-in-loop-x c = omega (arith, c.requires.limit, c.requires.right (c.loop-x.x ∷ []) (c.loop-x-test.true, tt))

pub overflow_add-right : goal.overflow_add-right
overflow_add-right c = omega (arith, c.requires.limit, c.requires.right (c.loop-x.x ∷ []) (c.loop-x-test.true, tt))

pub get-b-requires : goal.get-b-requires
get-b-requires c = omega (arith, c.requires.right (c.loop-x.x ∷ []) (c.loop-x-test.true, tt))

pub loop-x-preserved : goal.loop-x-preserved
unfolding wrapping_add wrapping_mul
loop-x-preserved c =
    let words = c.args.words.now in
    let x : ℕ = c.loop-x.x in
    let f : ℕ → ℕ → ℕ = λ w y. grown_by_products words (word_place c.args.left (c.args.along.left ∷ [])) (word_place c.args.right (c.args.along.right ∷ [])) w (y ∷ []) in
    let here : 0 + x ≡ x = omega arith in
    ap₂ (λ p q. wrapping_add c.loop-x.total (wrapping_mul p q))
    (c.get-a.ensures ∙ ap (slice_index words) (sym (place_along c.args.left c.args.along.left x)))
    (c.get-b.ensures ∙ ap (slice_index words) (sym (place_along c.args.right c.args.along.right x)))
    ∙ ap (λ w. f w x) c.loop-x.invariant
    ∙ ap (f (fold f c.args.word (range_with_len 0 x))) (sym here)
    ∙ sym (range_more f c.args.word 0 x)
    ∙ ap (λ n. fold f c.args.word (range_with_len 0 n)) (sym (add-one x))
