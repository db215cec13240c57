use Rattle.std.proofs.Common.{◌≡◌, ℕ, ◌+◌, ◌<◌, List, [], ◌∷◌, ◌++◌, length, map, get_or, take, slice_index, sym, ap, ◌∙◌}
use Rattle.std.proofs.lemmas.List.{map-append, take_all, take_more}
use Rattle.tce_exec.proofs.element.coordinates_of.Goals as goal

map_more : (f : ℕ → ℕ) (xs : List ℕ) (k d : ℕ) → k < length xs → map f (take (k + 1) xs) ≡ map f (take k xs) ++ f (get_or xs k d) ∷ []
map_more f xs k d low = ap (map f) (take_more xs k d low) ∙ map-append f (take k xs) (get_or xs k d ∷ [])

pub loop-index-init : goal.loop-index-init
loop-index-init c = c.new-coordinates.ensures

pub loop-index-preserved : goal.loop-index-preserved
loop-index-preserved c =
    let indexes = c.args.indexes.now in
    let numbers = c.args.numbers.now in
    let k = c.loop-index.index-index in
    c.push.ensures.items
    ∙ ap (λ (ys : List ℕ). ys ++ slice_index numbers (get_or indexes k 0) ∷ []) c.loop-index.invariant
    ∙ sym (map_more (slice_index numbers) indexes k 0 c.loop-index-test.true)

pub returns : goal.returns
returns c =
    c.loop-index.invariant
    ∙ ap (map (slice_index c.args.numbers.now)) (take_all c.loop-index.index-index c.args.indexes.now c.loop-index-test.false)
