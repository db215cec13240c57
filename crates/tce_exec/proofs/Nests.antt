-- Loops in the sequence in which they run.
use Rattle.std.proofs.Common.{◌≡◌, ℕ, zero, suc, ◌+◌, ◌<◌, ◌≤◌, true, List, [], ◌∷◌, ◌++◌, map, length, take, drop, get_or, slice_get, slice_index, slice_set, Some, refl, sym, ap, ap₂, ◌∙◌, subst, arith}
use Rattle.std.specs.List.{All, refill}
use Rattle.std.specs.List.Sorted.{IsPermutation}
use Rattle.std.proofs.lemmas.Bool.{false≢true}
use Rattle.std.proofs.lemmas.List.{take_more, take_more_set, take_all, take-append-le, map-append}
use Rattle.std.proofs.lemmas.List.Elements.{All-head, All-tail, All-weaker, All-map, All-same, All-push}
use Rattle.std.proofs.lemmas.List.Sorted.{IsPermutation-map, All-permutation}
use Rattle.std.proofs.lemmas.Option.{slice_get-get_or}
use Rattle.tce_tree.specs.Value.{assignment}
use Rattle.tce_tree.specs.WellFormed.{among, is_distinct}
use Rattle.tce_tree.proofs.Lists.{among_first, among_later, distinct_first, distinct_later}
use Rattle.tce_tree.proofs.Assignments.{with-same, with-other}
use Rattle.tce_exec.specs.Loops.{AreLoops}
use Rattle.tce_exec.specs.Nests.{IsNest, IsPlaced, ArePlaced, indexes_of, lens_of, with_len}
use Rattle.tce_exec.specs.declared.nest.Axis.{Axis}

-- one element more of a list whose elements are listed in turn
pub one_more : (f : Axis → ℕ) (axes : List Axis) (xs : List ℕ) (d : ℕ) (x : Axis) → map f axes ≡ take d xs → d < length xs → f x ≡ get_or xs d 0 → map f (axes ++ x ∷ []) ≡ take (d + 1) xs
one_more f axes xs d x h l e =
    map-append f axes (x ∷ []) ∙ ap₂ (λ ys y. ys ++ y ∷ []) h e ∙ sym (take_more xs d 0 l)

pub one_set : {X Y : Type 0} (f : X → Y) (xs : List X) (ys : List Y) (d : ℕ) (x : X) → take d ys ≡ map f (take d xs) → d < length xs → d < length ys
    → take (d + 1) (slice_set ys d (f (get_or xs d x))) ≡ map f (take (d + 1) xs)
one_set f xs ys d x h l m =
    take_more_set ys d (f (get_or xs d x)) m
    ∙ ap (λ zs. zs ++ f (get_or xs d x) ∷ []) h
    ∙ sym (map-append f (take d xs) (get_or xs d x ∷ []))
    ∙ ap (map f) (sym (take_more xs d x l))

pub same_numbers : (count : ℕ → ℕ) (axes : List Axis) → All (λ (x : Axis). x.len ≡ count x.index) axes → lens_of axes ≡ map count (indexes_of axes)
same_numbers count [] h = refl
same_numbers count (x ∷ axes) h =
    ap₂ (λ y ys. y ∷ ys) (All-head (λ (x : Axis). x.len ≡ count x.index) x axes h) (same_numbers count axes (All-tail (λ (x : Axis). x.len ≡ count x.index) x axes h))

-- an axis more, which stands at the next place
pub placed_more : (loops : List ℕ) (axes now : List Axis) (d : ℕ) (x : Axis) → d < length loops → now ≡ axes ++ x ∷ [] → x.at ≡ d → x.index ≡ get_or loops d 0 → All (IsPlaced loops) axes → All (IsPlaced loops) now
placed_more loops axes now d x low e at is h =
    let here : slice_get loops x.at ≡ Some x.index = ap (slice_get loops) at ∙ slice_get-get_or loops d 0 low ∙ ap (λ i. Some i) (sym is) in
    All-same (IsPlaced loops) now (axes ++ x ∷ []) e (All-push (IsPlaced loops) axes x h here)

-- elements behind one that is set
pub get_behind : {X : Type 0} (xs : List X) (i j : ℕ) (v : X) → i < j → slice_get (slice_set xs i v) j ≡ slice_get xs j
get_behind [] i j v low = refl
get_behind (x ∷ xs) zero zero v low = absurd (omega arith)
get_behind (x ∷ xs) zero (suc j) v low = refl
get_behind (x ∷ xs) (suc i) zero v low = absurd (omega arith)
get_behind (x ∷ xs) (suc i) (suc j) v low = get_behind xs i j v (omega arith)

-- an element that two lists share
pub same_element : {X : Type 0} (xs ys : List X) (d : ℕ) (x : X) → d < length xs → d < length ys → slice_get xs d ≡ slice_get ys d → get_or xs d x ≡ get_or ys d x
same_element xs ys d x low also e =
    let here : Some (get_or xs d x) ≡ Some (get_or ys d x) = sym (slice_get-get_or xs d x low) ∙ e ∙ slice_get-get_or ys d x also in
    cc

-- the index of a loop at a place
placed_among : (order : List ℕ) (k i : ℕ) → slice_get order k ≡ Some i → among order i ≡ true
placed_among [] k i e = absurd (cc)
placed_among (x ∷ order) zero i e = let same : x ≡ i = cc in ap (among (x ∷ order)) (sym same) ∙ among_first x order
placed_among (x ∷ order) (suc k) i e = among_later x order i (placed_among order k i e)

-- the loop at a place has its number
number_at : (order lens : List ℕ) (k i : ℕ) → is_distinct order ≡ true → length lens ≡ length order → slice_get order k ≡ Some i → assignment order lens i ≡ slice_index lens k
number_at [] lens k i d l e = absurd (cc)
number_at (x ∷ order) [] k i d l e = absurd (omega arith)
number_at (x ∷ order) (n ∷ lens) zero i d l e =
    let same : x ≡ i = cc in
    ap (assignment (x ∷ order) (n ∷ lens)) (sym same) ∙ with-same (assignment order lens) x n
number_at (x ∷ order) (n ∷ lens) (suc k) i d l e =
    with-other (assignment order lens) x n i (λ same. false≢true (sym (distinct_first x order d) ∙ ap (among order) (sym same) ∙ placed_among order k i e))
    ∙ number_at order lens k i (distinct_later x order d) (omega arith) e

-- axes with other numbers have the same indexes
same_indexes : (lens : List ℕ) (axes : List Axis) → indexes_of (map (with_len lens) axes) ≡ indexes_of axes
same_indexes lens [] = refl
same_indexes lens (x ∷ axes) = ap (λ is. x.index ∷ is) (same_indexes lens axes)

-- the axes of loops, in another sequence
pub placed_from : (order : List ℕ) (axes sorted : List Axis) → indexes_of axes ≡ order → All (IsPlaced order) axes → IsPermutation axes sorted → ArePlaced order sorted
placed_from order axes sorted indexes all same = record {
  same = subst (λ is. IsPermutation is (indexes_of sorted)) indexes (IsPermutation-map (λ (x : Axis). x.index) axes sorted same);
  placed = All-permutation (IsPlaced order) axes sorted same all;
}

-- the axes with the numbers of a block
pub nest_now : (order lens : List ℕ) (axes : List Axis) → AreLoops order lens → ArePlaced order axes → IsNest order lens (map (with_len lens) axes)
nest_now order lens axes loops placed = record {
  same = subst (IsPermutation order) (sym (same_indexes lens axes)) placed.same;
  numbers = All-map (λ (x : Axis). x.len ≡ assignment order lens x.index) (with_len lens) axes
      (All-weaker (IsPlaced order) (λ (x : Axis). slice_index lens x.at ≡ assignment order lens x.index) (λ x h. sym (number_at order lens x.at x.index loops.distinct loops.as_many h)) axes placed.placed);
  below = All-map (λ (x : Axis). x.index < 24) (with_len lens) axes
      (All-weaker (IsPlaced order) (λ (x : Axis). x.index < 24) (λ x h. loops.below x.index (placed_among order x.at x.index h)) axes placed.placed);
}

pub placed_now : (order lens : List ℕ) (axes : List Axis) → ArePlaced order axes → ArePlaced order (map (with_len lens) axes)
placed_now order lens axes placed = record {
  same = subst (IsPermutation order) (sym (same_indexes lens axes)) placed.same;
  placed = All-map (IsPlaced order) (with_len lens) axes placed.placed;
}

-- what a slice of a list holds after each of its elements was moved
pub refill_whole : (n : ℕ) (xs ws : List Axis) → length ws ≡ n → refill n xs ws ≡ ws
refill_whole n xs ws e =
    let whole : n ≤ length ws = omega arith in
    take-append-le n ws (drop (length ws) xs) whole ∙ take_all n ws (omega arith)

-- the loops at the front
pub loops_in_front : {X : Type 0} (f : Axis → X) (axes now : List Axis) (xs : List X) (n : ℕ) → now ≡ axes → n ≡ length axes → take (length now) xs ≡ map f now → take n xs ≡ map f axes
loops_in_front f axes now xs n e l h = ap (λ k. take k xs) (l ∙ ap length (sym e)) ∙ h ∙ ap (map f) e
