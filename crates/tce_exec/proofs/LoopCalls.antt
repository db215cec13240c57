-- What the calls ask of the loops in their sequence, and what these leave.
use Rattle.std.proofs.Common.{◌≡◌, ℕ, ◌<◌, List, [], ◌∷◌, map, slice_index, refl, sym, ap, ◌∙◌, subst}
use Rattle.std.specs.List.Sorted.{IsPermutation}
use Rattle.std.proofs.lemmas.List.Sorted.{IsPermutation-refl}
use Rattle.tce_space.specs.Box.{places}
use Rattle.tce_space.specs.Tiling.{ArePositive}
use Rattle.tce_tree.specs.Value.{assignment}
use Rattle.tce_tree.proofs.Permutations.{among-permutation}
use Rattle.tce_tree.proofs.Assignments.{all_positive}
use Rattle.tce_block.specs.Places.{word_place, AreWithin, AreApart}
use Rattle.tce_block.specs.StrideSteps.{lens, out_steps, left_steps, right_steps, sum_lens, sum_out_steps, operand_steps}
use Rattle.tce_block.specs.Turns.{IsMade}
use Rattle.tce_block.specs.declared.loops.Loop.{Loop}
use Rattle.tce_block.specs.declared.loops.SumLoop.{SumLoop}
use Rattle.tce_exec.specs.LoopLaws.{IsSequence}
use Rattle.tce_exec.specs.Loops.{AreLoops, AreMade, numbers_along, place_along}
use Rattle.tce_exec.specs.Nests.{IsNest, indexes_of, lens_of, sum_loop, pair_loop}
use Rattle.tce_exec.specs.Turns.{Turns, turns_of}
use Rattle.tce_exec.specs.LoopWindows.{stands_at, steps_along}
use Rattle.tce_exec.specs.declared.nest.Axis.{Axis}
use Rattle.tce_exec.specs.declared.window.Window.{Window}
use Rattle.tce_exec.proofs.Falling.{some_numbers}
use Rattle.tce_exec.proofs.Making.{sequence_of}
use Rattle.tce_exec.proofs.Nests.{same_numbers}
use Rattle.tce_exec.proofs.LoopPlaces.{coordinates_are_turns, turns_are_within, turns_are_apart}

-- the turns of the loops from 0 on
abbrev from_zero : List ℕ → List ℕ → Turns
from_zero order lens = turns_of order (λ i. 0) (record { from = []; len = lens })

in_turns : (order lens inner : List ℕ) → AreLoops order lens → IsPermutation order inner → IsSequence (from_zero order lens) inner
in_turns order lens inner loops same = sequence_of order (λ i. 0) (record { from = []; len = lens }) inner loops same

-- ---- loops in another sequence

positive_inner : (order lens inner : List ℕ) → AreLoops order lens → IsPermutation order inner → ArePositive (numbers_along order lens inner)
positive_inner order lens inner loops same =
    all_positive (assignment order lens) inner (λ i m. some_numbers order lens i loops.as_many loops.some (among-permutation order inner i same ∙ m))

within_inner : (order lens inner : List ℕ) (w : Window) (n : ℕ) → AreLoops order lens → IsPermutation order inner → AreWithin n (numbers_along order lens order) (place_along w order)
    → AreWithin n (numbers_along order lens inner) (place_along w inner)
within_inner order lens inner w n loops same h =
    let t = from_zero order lens in
    let plain = coordinates_are_turns t w order (in_turns order lens order loops (IsPermutation-refl order)) in
    turns_are_within t w inner n (in_turns order lens inner loops same) (λ b turn.
    let found = plain.every b turn in
    let stands : place_along w order found.0 ≡ stands_at w t.first b = plain.place found.0 found.1 ∙ ap (stands_at w t.first) found.2 in
    subst (λ k. k < n) stands (h found.0 found.1))

apart_inner : (order lens inner : List ℕ) (w other : Window) → AreLoops order lens → IsPermutation order inner
    → AreApart (numbers_along order lens order) (place_along w order) (place_along other order) → AreApart (numbers_along order lens inner) (place_along w inner) (place_along other inner)
apart_inner order lens inner w other loops same h =
    let t = from_zero order lens in
    let plain = coordinates_are_turns t w order (in_turns order lens order loops (IsPermutation-refl order)) in
    let others = coordinates_are_turns t other order (in_turns order lens order loops (IsPermutation-refl order)) in
    turns_are_apart t w other inner (in_turns order lens inner loops same) (λ b c here there e.
    let found = plain.every b here in
    let second = others.every c there in
    h found.0 second.0 found.1 second.1
    (plain.place found.0 found.1 ∙ ap (stands_at w t.first) found.2 ∙ e ∙ sym (others.place second.0 second.1 ∙ ap (stands_at other t.first) second.2)))

-- ---- by the numbers and the steps of the loops that run

pub positive_nest : (order lens inner ns : List ℕ) → AreLoops order lens → IsPermutation order inner → ns ≡ numbers_along order lens inner → ArePositive ns
positive_nest order lens inner ns loops same e = subst ArePositive (sym e) (positive_inner order lens inner loops same)

pub within_nest : (order lens inner ns steps : List ℕ) (w : Window) (n : ℕ) → AreLoops order lens → IsPermutation order inner → ns ≡ numbers_along order lens inner → steps ≡ steps_along w inner
    → AreWithin n (numbers_along order lens order) (place_along w order) → AreWithin n ns (word_place w.first steps)
within_nest order lens inner ns steps w n loops same e f h =
    subst (λ ms. AreWithin n ms (word_place w.first steps)) (sym e)
    (subst (λ ss. AreWithin n (numbers_along order lens inner) (word_place w.first ss)) (sym f) (within_inner order lens inner w n loops same h))

pub apart_nest : (order lens inner ns steps other_steps : List ℕ) (w other : Window) → AreLoops order lens → IsPermutation order inner → ns ≡ numbers_along order lens inner
    → steps ≡ steps_along w inner → other_steps ≡ steps_along other inner
    → AreApart (numbers_along order lens order) (place_along w order) (place_along other order) → AreApart ns (word_place w.first steps) (word_place other.first other_steps)
apart_nest order lens inner ns steps other_steps w other loops same e f g h =
    subst (λ ms. AreApart ms (word_place w.first steps) (word_place other.first other_steps)) (sym e)
    (subst (λ ss. AreApart (numbers_along order lens inner) (word_place w.first ss) (word_place other.first other_steps)) (sym f)
    (subst (λ ss. AreApart (numbers_along order lens inner) (place_along w inner) (word_place other.first ss)) (sym g) (apart_inner order lens inner w other loops same h)))

-- ---- loops over one operand, and over two

pub sum_lens_are : (out operand : Window) (axes : List Axis) → sum_lens (map (sum_loop out operand) axes) ≡ lens_of axes
sum_lens_are out operand [] = refl
sum_lens_are out operand (x ∷ axes) = ap (λ ns. x.len ∷ ns) (sum_lens_are out operand axes)

pub sum_out_are : (out operand : Window) (axes : List Axis) → sum_out_steps (map (sum_loop out operand) axes) ≡ steps_along out (indexes_of axes)
sum_out_are out operand [] = refl
sum_out_are out operand (x ∷ axes) = ap (λ ns. slice_index out.steps x.index ∷ ns) (sum_out_are out operand axes)

pub operand_are : (out operand : Window) (axes : List Axis) → operand_steps (map (sum_loop out operand) axes) ≡ steps_along operand (indexes_of axes)
operand_are out operand [] = refl
operand_are out operand (x ∷ axes) = ap (λ ns. slice_index operand.steps x.index ∷ ns) (operand_are out operand axes)

-- what the loops that run are to those of a call
pub record AreSumLoops (order ns : List ℕ) (out operand : Window) (loops : List SumLoop) : Type 0 where
  pub inner : List ℕ
  pub same : IsPermutation order inner
  pub numbers : sum_lens loops ≡ numbers_along order ns inner
  pub outs : sum_out_steps loops ≡ steps_along out inner
  pub operands : operand_steps loops ≡ steps_along operand inner

pub sum_loops_are : (order ns : List ℕ) (out operand : Window) (axes : List Axis) (loops : List SumLoop) → IsNest order ns axes → loops ≡ map (sum_loop out operand) axes
    → AreSumLoops order ns out operand loops
sum_loops_are order ns out operand axes loops nest e = record {
  inner = indexes_of axes;
  same = nest.same;
  numbers = ap sum_lens e ∙ sum_lens_are out operand axes ∙ same_numbers (assignment order ns) axes nest.numbers;
  outs = ap sum_out_steps e ∙ sum_out_are out operand axes;
  operands = ap operand_steps e ∙ operand_are out operand axes;
}

pub lens_are : (out left right : Window) (axes : List Axis) → lens (map (pair_loop out left right) axes) ≡ lens_of axes
lens_are out left right [] = refl
lens_are out left right (x ∷ axes) = ap (λ ns. x.len ∷ ns) (lens_are out left right axes)

pub out_are : (out left right : Window) (axes : List Axis) → out_steps (map (pair_loop out left right) axes) ≡ steps_along out (indexes_of axes)
out_are out left right [] = refl
out_are out left right (x ∷ axes) = ap (λ ns. slice_index out.steps x.index ∷ ns) (out_are out left right axes)

pub left_are : (out left right : Window) (axes : List Axis) → left_steps (map (pair_loop out left right) axes) ≡ steps_along left (indexes_of axes)
left_are out left right [] = refl
left_are out left right (x ∷ axes) = ap (λ ns. slice_index left.steps x.index ∷ ns) (left_are out left right axes)

pub right_are : (out left right : Window) (axes : List Axis) → right_steps (map (pair_loop out left right) axes) ≡ steps_along right (indexes_of axes)
right_are out left right [] = refl
right_are out left right (x ∷ axes) = ap (λ ns. slice_index right.steps x.index ∷ ns) (right_are out left right axes)

pub record ArePairLoops (order ns : List ℕ) (out left right : Window) (loops : List Loop) : Type 0 where
  pub inner : List ℕ
  pub same : IsPermutation order inner
  pub numbers : lens loops ≡ numbers_along order ns inner
  pub outs : out_steps loops ≡ steps_along out inner
  pub lefts : left_steps loops ≡ steps_along left inner
  pub rights : right_steps loops ≡ steps_along right inner

pub pair_loops_are : (order ns : List ℕ) (out left right : Window) (axes : List Axis) (loops : List Loop) → IsNest order ns axes → loops ≡ map (pair_loop out left right) axes
    → ArePairLoops order ns out left right loops
pair_loops_are order ns out left right axes loops nest e = record {
  inner = indexes_of axes;
  same = nest.same;
  numbers = ap lens e ∙ lens_are out left right axes ∙ same_numbers (assignment order ns) axes nest.numbers;
  outs = ap out_steps e ∙ out_are out left right axes;
  lefts = ap left_steps e ∙ left_are out left right axes;
  rights = ap right_steps e ∙ right_are out left right axes;
}

-- ---- what the loops leave

pub made_by_one : (word : (List ℕ → ℕ) → ℕ → List ℕ → ℕ) (order ns : List ℕ) (out operand : Window) (loops : List SumLoop) (old new : List ℕ) → AreSumLoops order ns out operand loops
    → IsMade (word (word_place operand.first (operand_steps loops))) (word_place out.first (sum_out_steps loops)) (places (sum_lens loops)) old new
    → AreMade order ns (λ inner. word (place_along operand inner)) out old new
made_by_one word order ns out operand loops old new are made = record {
  inner = are.inner;
  same = are.same;
  made = subst (λ ss. IsMade (word (word_place operand.first ss)) (place_along out are.inner) (places (numbers_along order ns are.inner)) old new) are.operands
      (subst (λ ss. IsMade (word (word_place operand.first (operand_steps loops))) (word_place out.first ss) (places (numbers_along order ns are.inner)) old new) are.outs
      (subst (λ ms. IsMade (word (word_place operand.first (operand_steps loops))) (word_place out.first (sum_out_steps loops)) (places ms) old new) are.numbers made));
}

pub made_by_two : (word : (List ℕ → ℕ) → (List ℕ → ℕ) → ℕ → List ℕ → ℕ) (order ns : List ℕ) (out left right : Window) (loops : List Loop) (old new : List ℕ) → ArePairLoops order ns out left right loops
    → IsMade (word (word_place left.first (left_steps loops)) (word_place right.first (right_steps loops))) (word_place out.first (out_steps loops)) (places (lens loops)) old new
    → AreMade order ns (λ inner. word (place_along left inner) (place_along right inner)) out old new
made_by_two word order ns out left right loops old new are made = record {
  inner = are.inner;
  same = are.same;
  made = subst (λ ss. IsMade (word (place_along left are.inner) (word_place right.first ss)) (place_along out are.inner) (places (numbers_along order ns are.inner)) old new) are.rights
      (subst (λ ss. IsMade (word (word_place left.first ss) (word_place right.first (right_steps loops))) (place_along out are.inner) (places (numbers_along order ns are.inner)) old new) are.lefts
      (subst (λ ss. IsMade (word (word_place left.first (left_steps loops)) (word_place right.first (right_steps loops))) (word_place out.first ss) (places (numbers_along order ns are.inner)) old new) are.outs
      (subst (λ ms. IsMade (word (word_place left.first (left_steps loops)) (word_place right.first (right_steps loops))) (word_place out.first (out_steps loops)) (places ms) old new) are.numbers made)));
}
