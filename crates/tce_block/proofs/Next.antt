-- The next block, and those behind it.
use Rattle.std.proofs.Common.{◌≡◌, ◌∙◌, ℕ, ◌+◌, ◌<◌, Bool, true, false, if◌then◌else◌, List, [], length, drop, sym, refl, ap, subst, arith, get_or, Some}
use Rattle.std.specs.Prelude.{slice_get}
use Rattle.std.proofs.lemmas.List.{drop-drop, drop_all, get_or-drop, length-drop}
use Rattle.std.proofs.lemmas.Option.{slice_get-get_or, slice_get_within, get_or_from_slice_get}
use Rattle.arrayvec.specs.ArrayVec.{ArrayVec, with_items}
use Rattle.arrayvec.proofs.ArrayVecLemmas.{items-with_items}
use Rattle.tce_space.specs.Box.{place, IsInside}
use Rattle.tce_space.specs.Tiling.{counts_along}
use Rattle.tce_block.specs.Parts.{Part, block, blocks}
use Rattle.tce_block.specs.Steps.{IsStep}
use Rattle.tce_block.proofs.Cover.{length-blocks, get-blocks}
use Rattle.tce_space.proofs.Boxes.{length_inside}

-- the block with the next numbers is the first that is left
pub first_left : (ns es bs : List ℕ) (now : List Part) → IsInside (counts_along ns es) bs → drop (place (counts_along ns es) bs) (blocks ns es) ≡ now → Some (block ns es bs) ≡ slice_get now 0
first_left ns es bs now h is =
    let k : ℕ = place (counts_along ns es) bs in
    let d : Part = block ns es bs in
    let at = get-blocks ns es bs h in
    let low : k < length (blocks ns es) = slice_get_within (blocks ns es) k d at in
    let left = length-drop k (blocks ns es) in
    let some : 0 < length (drop k (blocks ns es)) = omega arith in
    let here : k + 0 ≡ k = omega arith in
    sym (slice_get-get_or (drop k (blocks ns es)) 0 d some
    ∙ ap Some (get_or-drop k (blocks ns es) 0 d ∙ ap (λ i. get_or (blocks ns es) i d) here ∙ get_or_from_slice_get (blocks ns es) k d d at))
    ∙ ap (λ l. slice_get l 0) is

-- after a step the blocks are left that stand behind it
pub rest_left : (ns es old new : List ℕ) (wrapped : Bool) (now : List Part) → IsStep (counts_along ns es) old new wrapped → drop (place (counts_along ns es) old) (blocks ns es) ≡ now
    → (if wrapped then [] else drop (place (counts_along ns es) new) (blocks ns es)) ≡ drop 1 now
rest_left ns es old new true now step is =
    let last = step.last refl in
    let all = length-blocks ns es in
    sym (drop_all (place (counts_along ns es) old + 1) (blocks ns es) (omega arith))
    ∙ sym (drop-drop 1 (place (counts_along ns es) old) (blocks ns es))
    ∙ ap (drop 1) is
rest_left ns es old new false now step is =
    ap (λ k. drop k (blocks ns es)) (step.next refl)
    ∙ sym (drop-drop 1 (place (counts_along ns es) old) (blocks ns es))
    ∙ ap (drop 1) is

-- what is left where the blocks are not finished
pub not_finished : (finished : Bool) (left now : List Part) → (if finished then [] else left) ≡ now → finished ≡ false → left ≡ now
not_finished finished left now is h = ap (λ b. if b then [] else left) (sym h) ∙ is

-- the same where the numbers went through a slice
pub next_left : (ns es counts slice new : List ℕ) (numbers : ArrayVec ℕ) (wrapped : Bool) (now : List Part) → counts ≡ counts_along ns es → slice ≡ numbers.items → IsInside counts numbers.items → IsStep counts slice new wrapped
    → drop (place (counts_along ns es) numbers.items) (blocks ns es) ≡ now
    → (if wrapped then [] else drop (place (counts_along ns es) (with_items numbers new).items) (blocks ns es)) ≡ drop 1 now
next_left ns es counts slice new numbers wrapped now along whole h step is =
    let same : length new ≡ length numbers.items = length_inside counts new step.inside ∙ sym (length_inside counts numbers.items h) in
    let stepped : IsStep (counts_along ns es) numbers.items new wrapped = subst (λ cs. IsStep cs numbers.items new wrapped) along (subst (λ os. IsStep counts os new wrapped) whole step) in
    ap (λ xs. if wrapped then [] else drop (place (counts_along ns es) xs) (blocks ns es)) (items-with_items numbers new same)
    ∙ rest_left ns es numbers.items new wrapped now stepped is
