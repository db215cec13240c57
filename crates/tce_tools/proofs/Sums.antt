-- Sums of words modulo 2 ^ 64.
use Rattle.std.proofs.Common.{◌≡◌, ◌∙◌, ℕ, ◌+◌, ◌-◌, ◌%◌, ◌^◌, ◌<◌, ◌≤◌, List, [], ◌∷◌, ◌++◌, length, take, drop, sum, get_or, sym, refl, ap, arith}
use Rattle.std.proofs.Math.Seq.{take-add}
use Rattle.std.specs.List.{fold}
use Rattle.std.proofs.lemmas.List.Sums.{fold-append}
use Rattle.std.proofs.lemmas.List.{take_more, take_all, ext_get_or, length-map, get_or-map, get_or-take, get_or-drop, length-take-le, length-drop}
use Rattle.tce_base.specs.Word.{wrapping_sum}
use Rattle.tce_space.specs.Box.{places}
use Rattle.tce_space.specs.Tiling.{Tiling, elements}
use Rattle.tce_space.proofs.Boxes.{length-places, places_every}
use Rattle.tce_tools.specs.Flat.{in_order}
use Rattle.tce_tools.specs.Runs.{AreElements}

sum_from : (a : ℕ) (ys : List ℕ) → fold ◌+◌ a ys ≡ a + fold ◌+◌ 0 ys
sum_from a [] = omega arith
sum_from a (y ∷ ys) = sum_from (a + y) ys ∙ (let one = sum_from (0 + y) ys in let is : a + y + fold ◌+◌ 0 ys ≡ a + fold ◌+◌ (0 + y) ys = omega (arith, one) in is)

sum_both : (xs ys : List ℕ) → sum (xs ++ ys) ≡ sum xs + sum ys
sum_both xs ys = fold-append ◌+◌ 0 xs ys ∙ sum_from (sum xs) ys

sum_one : (n : ℕ) → sum (n ∷ []) ≡ n
sum_one n = omega arith

pub sum_none : 0 ≡ wrapping_sum []
unfolding wrapping_sum
sum_none = refl

-- the sum of two lists
pub sum_joined : (xs ys : List ℕ) (a b : ℕ) → a ≡ wrapping_sum xs → b ≡ wrapping_sum ys → (a + b) % 2 ^ 64 ≡ wrapping_sum (xs ++ ys)
unfolding wrapping_sum
sum_joined xs ys a b e f = let both = sum_both xs ys in omega (arith, both, e, f)

pub sum_more : (xs : List ℕ) (i a : ℕ) → i < length xs → a ≡ wrapping_sum (take i xs) → (a + get_or xs i 0) % 2 ^ 64 ≡ wrapping_sum (take (i + 1) xs)
unfolding wrapping_sum
sum_more xs i a l e =
    let both = sum_both (take i xs) (get_or xs i 0 ∷ []) in
    let next : sum (take (i + 1) xs) ≡ sum (take i xs ++ get_or xs i 0 ∷ []) = ap sum (take_more xs i 0 l) in
    omega (arith, both, next, e, sum_one (get_or xs i 0))

-- the values of a run are the next elements
pub next_elements : (s : Tiling) (f : List ℕ → ℕ) (from : ℕ) (vs : List ℕ) → AreElements s f from vs → from + length vs ≤ elements s → vs ≡ take (length vs) (drop from (in_order s f))
next_elements s f from vs values room =
    let all : length (in_order s f) ≡ elements s = length-map (places s.extents) f ∙ length-places s.extents in
    let behind : length (drop from (in_order s f)) ≡ elements s - from = omega (arith, length-drop from (in_order s f), all) in
    let len : length (take (length vs) (drop from (in_order s f))) ≡ length vs = length-take-le (length vs) (drop from (in_order s f)) (omega arith) in
    ext_get_or 0 vs (take (length vs) (drop from (in_order s f))) (sym len) (λ k lt.
    let there = places_every s.extents (from + k) (omega arith) in
    let short : from + k < length (places s.extents) = omega (arith, length-places s.extents) in
    values k lt (get_or (places s.extents) (from + k) []) there.0 there.1
    ∙ sym (get_or-map f (places s.extents) (from + k) [] 0 short)
    ∙ sym (get_or-drop from (in_order s f) k 0)
    ∙ sym (get_or-take (length vs) (drop from (in_order s f)) k 0 lt))

-- the sum with the values of a run more
pub sum_of_run : (s : Tiling) (f : List ℕ → ℕ) (from n a b : ℕ) (vs : List ℕ) → AreElements s f from vs → length vs ≡ n → from + n ≤ elements s → a ≡ wrapping_sum (take from (in_order s f)) → b ≡ wrapping_sum vs
    → (a + b) % 2 ^ 64 ≡ wrapping_sum (take (from + n) (in_order s f))
sum_of_run s f from n a b vs values len room e is =
    sum_joined (take from (in_order s f)) vs a b e is
    ∙ ap (λ l. wrapping_sum (take from (in_order s f) ++ l)) (next_elements s f from vs values (omega arith))
    ∙ ap wrapping_sum (sym (take-add from (length vs) (in_order s f)))
    ∙ ap (λ m. wrapping_sum (take (from + m) (in_order s f))) len

-- the sum of all
pub sum_of_all : (s : Tiling) (f : List ℕ → ℕ) (n a : ℕ) → elements s ≤ n → a ≡ wrapping_sum (take n (in_order s f)) → a ≡ wrapping_sum (in_order s f)
sum_of_all s f n a le e = e ∙ ap wrapping_sum (take_all n (in_order s f) (omega (arith, length-map (places s.extents) f, length-places s.extents)))
