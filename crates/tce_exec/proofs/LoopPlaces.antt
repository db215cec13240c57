-- The places of turns, by the coordinates of the loops.
use Rattle.std.proofs.Common.{◌≡◌, ℕ, zero, suc, ◌+◌, ◌-◌, ◌*◌, ◌<◌, ◌≤◌, true, List, [], ◌∷◌, map, slice_index, sum_by, refl, sym, ap, ap₂, ◌∙◌, inl, inr, arith, add_assoc}
use mathlib.Core.Path.{fun_ext}
use Rattle.std.specs.List.{range_with_len}
use Rattle.std.proofs.lemmas.Bool.{cases_Bool, cases_eq}
use Rattle.std.proofs.lemmas.List.Sums.{sum_by_push}
use Rattle.tce_space.specs.Box.{IsInside}
use Rattle.tce_space.proofs.Ranges.{range_next}
use Rattle.tce_tree.specs.Value.{Assignment, with_number, assignment}
use Rattle.tce_tree.specs.WellFormed.{among, is_distinct}
use Rattle.tce_tree.proofs.Lists.{among_first, among_later, distinct_first, distinct_later}
use Rattle.tce_tree.proofs.Permutations.{distinct-permutation, among-permutation}
use Rattle.tce_tree.proofs.Assignments.{with-same, with-other, assignment-at, assignment_inside, numbers_inside}
use Rattle.tce_block.proofs.BoxSums.{assignment-absent}
use Rattle.tce_layout.specs.Places.{steps_to}
use Rattle.tce_block.specs.Places.{offset}
use Rattle.tce_exec.specs.Loops.{place_along}
use Rattle.tce_exec.specs.LoopLaws.{IsSequence, lens_along, CoordinatesAreTurns, TurnsAreWithin, TurnsAreApart}
use Rattle.tce_exec.specs.Turns.{Turns, IsTurn, turn_at}
use Rattle.tce_exec.specs.LoopWindows.{stands_at}
use Rattle.tce_exec.specs.declared.window.Window.{Window}

-- ---- sums over the numbers below a limit

range_sum_next : (f : ℕ → ℕ) (n : ℕ) → sum_by f (range_with_len 0 (suc n)) ≡ sum_by f (range_with_len 0 n) + f n
range_sum_next f n = let next : suc n ≡ n + 1 = omega arith in ap (λ k. sum_by f (range_with_len 0 k)) next ∙ ap (sum_by f) (range_next n) ∙ sum_by_push f (range_with_len 0 n) n

sums_same : (f g : ℕ → ℕ) (n : ℕ) → ((i : ℕ) → i < n → f i ≡ g i) → sum_by f (range_with_len 0 n) ≡ sum_by g (range_with_len 0 n)
sums_same f g zero h = refl
sums_same f g (suc n) h =
    range_sum_next f n ∙ ap₂ (λ x y. x + y) (sums_same f g n (λ i l. h i (omega arith))) (h n (omega arith)) ∙ sym (range_sum_next g n)

-- one index more with a number
abbrev stepped : List ℕ → Assignment → ℕ → ℕ
stepped steps a i = slice_index steps i * a i

one_more : (steps : List ℕ) (a : Assignment) (i x n : ℕ) → a i ≡ 0 → i < n
    → sum_by (stepped steps (with_number a i x)) (range_with_len 0 n) ≡ x * slice_index steps i + sum_by (stepped steps a) (range_with_len 0 n)
one_more steps a i x zero z l = absurd (omega arith)
one_more steps a i x (suc n) z l =
    range_sum_next (stepped steps (with_number a i x)) n
    ∙ elim (cases_eq n i) [
      | inl e ↦
          ap₂ (λ y k. y + slice_index steps n * k)
          (sums_same (stepped steps (with_number a i x)) (stepped steps a) n (λ j low. ap (λ k. slice_index steps j * k) (with-other a i x j (λ q. omega arith))))
          (ap (with_number a i x) e ∙ with-same a i x)
          ∙ turned (sum_by (stepped steps a) (range_with_len 0 n)) (slice_index steps n) (slice_index steps i) x (a n) (ap (slice_index steps) e) (ap a e ∙ z)
          ∙ ap (λ y. x * slice_index steps i + y) (sym (range_sum_next (stepped steps a) n))
      | inr ne ↦
          ap₂ (λ y k. y + slice_index steps n * k) (one_more steps a i x n z (omega arith)) (with-other a i x n ne)
          ∙ add_assoc (x * slice_index steps i) (sum_by (stepped steps a) (range_with_len 0 n)) (slice_index steps n * a n)
          ∙ ap (λ y. x * slice_index steps i + y) (sym (range_sum_next (stepped steps a) n))
    ]
  where
    turned : (y s t k m : ℕ) → s ≡ t → m ≡ 0 → y + s * k ≡ k * t + (y + s * m)
    turned y s t k m e z = ap (λ r. y + r * k) e ∙ (let f : y + t * k ≡ k * t + (y + s * 0) = omega arith in f) ∙ ap (λ r. k * t + (y + s * r)) (sym z)

zeros : (steps : List ℕ) (n : ℕ) → sum_by (stepped steps (λ j. 0)) (range_with_len 0 n) ≡ 0
zeros steps zero = refl
zeros steps (suc n) = range_sum_next (stepped steps (λ j. 0)) n ∙ ap (λ y. y + slice_index steps n * 0) (zeros steps n) ∙ omega arith

-- the steps of assigned numbers are those of the loops' coordinates
pub steps_along_loops : (steps inner xs : List ℕ) → is_distinct inner ≡ true → ((i : ℕ) → among inner i ≡ true → i < 24)
    → steps_to steps (assignment inner xs) ≡ offset (map (slice_index steps) inner) xs
unfolding steps_to
steps_along_loops steps [] xs d low = zeros steps 24
steps_along_loops steps (i ∷ inner) [] d low = zeros steps 24
steps_along_loops steps (i ∷ inner) (x ∷ xs) d low =
    one_more steps (assignment inner xs) i x 24 (assignment-absent inner xs i (distinct_first i inner d)) (low i (among_first i inner))
    ∙ ap (λ y. x * slice_index steps i + y) (steps_along_loops steps inner xs (distinct_later i inner d) (λ j m. low j (among_later i inner j m)))

-- ---- turns

pub among_inner : (t : Turns) (inner : List ℕ) → IsSequence t inner → (i : ℕ) → among inner i ≡ among t.order i
among_inner t inner s i = sym (among-permutation t.order inner i s.same)

pub distinct_inner : (t : Turns) (inner : List ℕ) → IsSequence t inner → is_distinct inner ≡ true
distinct_inner t inner s = distinct-permutation t.order inner s.distinct s.same

below_inner : (t : Turns) (inner : List ℕ) → IsSequence t inner → (i : ℕ) → among inner i ≡ true → i < 24
below_inner t inner s i m = s.below i (sym (among_inner t inner s i) ∙ m)

is_turn : (t : Turns) (inner xs : List ℕ) → IsSequence t inner → IsInside (lens_along t inner) xs → IsTurn t (turn_at t inner xs)
is_turn t inner xs s h = record {
  loops = λ i m.
      let low : assignment inner xs i < t.count i = assignment_inside t.count inner xs i h (among_inner t inner s i ∙ m) in
      (omega arith, omega arith);
  others = λ i m.
      let none : assignment inner xs i ≡ 0 = assignment-absent inner xs i (among_inner t inner s i ∙ m) in
      omega (arith, none);
}

pub place_is : (t : Turns) (w : Window) (inner xs : List ℕ) → IsSequence t inner → place_along w inner xs ≡ stands_at w t.first (turn_at t inner xs)
place_is t w inner xs s =
    ap (λ n. w.first + n)
    (sym (steps_along_loops w.steps inner xs (distinct_inner t inner s) (below_inner t inner s))
    ∙ ap (steps_to w.steps) (fun_ext (λ i. taken (t.first i) (assignment inner xs i))))
  where
    taken : (x y : ℕ) → y ≡ x + y - x
    taken x y = omega arith

turn_back : (t : Turns) (inner : List ℕ) (b : Assignment) → IsSequence t inner → IsTurn t b → turn_at t inner (map (λ i. b i - t.first i) inner) ≡ b
turn_back t inner b s h = fun_ext (λ i.
    elim (cases_Bool (among t.order i)) [
      | inl m ↦
          let back : assignment inner (map (λ j. b j - t.first j) inner) i ≡ b i - t.first i = assignment-at inner (λ j. b j - t.first j) i (among_inner t inner s i ∙ m) in
          let low : t.first i ≤ b i = (h.loops i m).0 in
          omega (arith, back, low)
      | inr m ↦
          let none : assignment inner (map (λ j. b j - t.first j) inner) i ≡ 0 = assignment-absent inner (map (λ j. b j - t.first j) inner) i (among_inner t inner s i ∙ m) in
          let same : b i ≡ t.first i = h.others i m in
          omega (arith, none, same)
    ])

turn_inside : (t : Turns) (inner : List ℕ) (b : Assignment) → IsSequence t inner → IsTurn t b → IsInside (lens_along t inner) (map (λ i. b i - t.first i) inner)
turn_inside t inner b s h = numbers_inside t.count (λ i. b i - t.first i) inner (λ i m.
    let both = h.loops i (sym (among_inner t inner s i) ∙ m) in
    omega (arith, both.0, both.1))

pub coordinates_are_turns : CoordinatesAreTurns
coordinates_are_turns t w inner s = record {
  turn = λ xs h. is_turn t inner xs s h;
  place = λ xs h. place_is t w inner xs s;
  every = λ b h. (map (λ i. b i - t.first i) inner, turn_inside t inner b s h, turn_back t inner b s h);
}

pub turns_are_within : TurnsAreWithin
turns_are_within t w inner count s h = λ xs inside.
    let low : stands_at w t.first (turn_at t inner xs) < count = h (turn_at t inner xs) (is_turn t inner xs s inside) in
    omega (arith, low, place_is t w inner xs s)

pub turns_are_apart : TurnsAreApart
turns_are_apart t w other inner s h = λ xs ys here there same.
    h (turn_at t inner xs) (turn_at t inner ys) (is_turn t inner xs s here) (is_turn t inner ys s there)
    (sym (place_is t w inner xs s) ∙ same ∙ place_is t other inner ys s)
