-- The loops along which a place moves, before those along which it stays.
use Rattle.std.proofs.Common.{◌≡◌, ℕ, ◌+◌, ◌-◌, ◌*◌, ◌<◌, not, eqb, List, [], ◌∷◌, ◌++◌, map, filter, length, slice_index, sum_by, take, refl, sym, ap, ◌∙◌, subst, inl, inr, arith, zero-add, add-zero}
use Rattle.std.specs.List.{All}
use Rattle.std.specs.List.Sorted.{IsPermutation}
use Rattle.std.proofs.lemmas.Bool.{cases_Bool, eqb-true}
use Rattle.std.proofs.lemmas.List.{map-append}
use Rattle.std.proofs.lemmas.List.Elements.{All-nil, All-cons}
use Rattle.std.proofs.lemmas.List.Sums.{sum_by-cons}
use Rattle.std.proofs.lemmas.List.Sorted.{IsPermutation-filter_both, IsPermutation-map, IsPermutation-trans, All-permutation}
use Rattle.tce_space.specs.Box.{places}
use Rattle.tce_space.specs.Tiling.{ArePositive}
use Rattle.tce_tree.specs.Value.{assignment}
use Rattle.tce_block.specs.Places.{offset, word_place, AreWithin, AreApart}
use Rattle.tce_block.specs.StrideSteps.{lens, out_steps, left_steps, right_steps}
use Rattle.tce_block.specs.Turns.{IsMade, computed}
use Rattle.tce_block.specs.declared.loops.Loop.{Loop}
use Rattle.tce_space.specs.declared.arithmetic.Arithmetic.{Arithmetic}
use Rattle.tce_exec.specs.Loops.{AreLoops, AreMade, numbers_along, place_along}
use Rattle.tce_exec.specs.Nests.{IsNest, indexes_of, lens_of, pair_loop, moves, advanced}
use Rattle.tce_exec.specs.Sequences.{ArePuts}
use Rattle.tce_exec.specs.LoopWindows.{steps_along}
use Rattle.tce_exec.specs.declared.nest.Axis.{Axis}
use Rattle.tce_exec.specs.declared.sequence.LoopSequence.{LoopSequence}
use Rattle.tce_exec.specs.declared.window.Window.{Window}
use Rattle.tce_exec.proofs.LoopCalls.{positive_nest, within_nest, apart_nest, lens_are, out_are, left_are, right_are}
use Rattle.tce_exec.proofs.Nests.{same_numbers}
use Rattle.tce_exec.proofs.Stills.{lasts, within_split, apart_split, farthest_below, computed_split}

abbrev pub kept_of : Window → List Axis → List Axis
kept_of out axes = filter (moves out) axes

abbrev pub still_of : Window → List Axis → List Axis
still_of out axes = filter (λ x. not (moves out x)) axes

-- the steps of a window along axes
abbrev pub steps_of : Window → List Axis → List ℕ
steps_of w axes = steps_along w (indexes_of axes)

nest_again : (order ns : List ℕ) (axes sorted : List Axis) → IsNest order ns axes → IsPermutation axes sorted → IsNest order ns sorted
nest_again order ns axes sorted nest same = record {
  same = IsPermutation-trans order (indexes_of axes) (indexes_of sorted) nest.same (IsPermutation-map (λ (x : Axis). x.index) axes sorted same);
  numbers = All-permutation (λ (x : Axis). x.len ≡ assignment order ns x.index) axes sorted same nest.numbers;
  below = All-permutation (λ (x : Axis). x.index < 24) axes sorted same nest.below;
}

pub split_nest : (order ns : List ℕ) (out : Window) (axes : List Axis) → IsNest order ns axes → IsNest order ns (kept_of out axes ++ still_of out axes)
split_nest order ns out axes nest =
    nest_again order ns axes (kept_of out axes ++ still_of out axes) nest (IsPermutation-filter_both (moves out) (λ x. not (moves out x)) (λ x. refl) axes)

-- ---- both lists, one after the other

lens_both : (kept still : List Axis) → lens_of (kept ++ still) ≡ lens_of kept ++ lens_of still
lens_both kept still = map-append (λ (x : Axis). x.len) kept still

steps_both : (w : Window) (kept still : List Axis) → steps_of w kept ++ steps_of w still ≡ steps_along w (indexes_of (kept ++ still))
steps_both w kept still =
    sym (ap (steps_along w) (map-append (λ (x : Axis). x.index) kept still) ∙ map-append (slice_index w.steps) (indexes_of kept) (indexes_of still))

as_many : (w : Window) (axes : List Axis) → length (steps_of w axes) ≡ length (lens_of axes)
as_many w [] = refl
as_many w (x ∷ axes) = let rest = as_many w axes in omega arith

some_front : (xs ys : List ℕ) → ArePositive (xs ++ ys) → ArePositive xs
some_front [] ys h = tt
some_front (x ∷ xs) ys h = (h.0, some_front xs ys h.1)

some_back : (xs ys : List ℕ) → ArePositive (xs ++ ys) → ArePositive ys
some_back [] ys h = h
some_back (x ∷ xs) ys h = some_back xs ys h.1

-- what a window's place is moved by
pub advanced_is : (out w : Window) (axes : List Axis) → sum_by (advanced out w) axes ≡ offset (steps_of w (still_of out axes)) (lasts (lens_of (still_of out axes)))
advanced_is out w [] = refl
advanced_is out w (x ∷ axes) =
    sum_by-cons (advanced out w) x axes
    ∙ elim (cases_Bool (moves out x)) [
      | inl e ↦ rw e (zero-add (sum_by (advanced out w) axes) ∙ advanced_is out w axes)
      | inr e ↦ rw e (ap (λ n. (x.len - 1) * slice_index w.steps x.index + n) (advanced_is out w axes))
    ]

-- the result's own place is not moved
pub still_offset : (out : Window) (axes : List Axis) (ys : List ℕ) → offset (steps_of out (still_of out axes)) ys ≡ 0
still_offset out [] ys = refl
still_offset out (x ∷ axes) ys =
    elim (cases_Bool (eqb (slice_index out.steps x.index) 0)) [
      | inl e ↦ rw e (one_still (slice_index out.steps x.index) (steps_of out (still_of out axes)) ys (eqb-true _ _ e) (λ zs. still_offset out axes zs))
      | inr e ↦ rw e (still_offset out axes ys)
    ]
  where
    one_still : (s : ℕ) (ss ys : List ℕ) → s ≡ 0 → ((zs : List ℕ) → offset ss zs ≡ 0) → offset (s ∷ ss) ys ≡ 0
    one_still s ss [] e h = refl
    one_still s ss (y ∷ ys) e h = let rest = h ys in ap (λ n. y * n + offset ss ys) e ∙ omega arith

-- ---- what the loops that move ask, and leave

pub record IsCall (order ns : List ℕ) (out : Window) (axes : List Axis) : Type 0 where
  pub loops : AreLoops order ns
  pub nest : IsNest order ns axes

positive_both : (order ns : List ℕ) (out : Window) (axes : List Axis) → IsCall order ns out axes → ArePositive (lens_of (kept_of out axes) ++ lens_of (still_of out axes))
positive_both order ns out axes call =
    let both = split_nest order ns out axes call.nest in
    positive_nest order ns (indexes_of (kept_of out axes ++ still_of out axes)) (lens_of (kept_of out axes) ++ lens_of (still_of out axes)) call.loops both.same
    (sym (lens_both (kept_of out axes) (still_of out axes)) ∙ same_numbers (assignment order ns) (kept_of out axes ++ still_of out axes) both.numbers)

within_both : (order ns : List ℕ) (out w : Window) (axes : List Axis) (n : ℕ) → IsCall order ns out axes → AreWithin n (numbers_along order ns order) (place_along w order)
    → AreWithin n (lens_of (kept_of out axes) ++ lens_of (still_of out axes)) (word_place w.first (steps_of w (kept_of out axes) ++ steps_of w (still_of out axes)))
within_both order ns out w axes n call h =
    let both = split_nest order ns out axes call.nest in
    within_nest order ns (indexes_of (kept_of out axes ++ still_of out axes)) _ _ w n call.loops both.same
    (sym (lens_both (kept_of out axes) (still_of out axes)) ∙ same_numbers (assignment order ns) (kept_of out axes ++ still_of out axes) both.numbers)
    (steps_both w (kept_of out axes) (still_of out axes)) h

apart_both : (order ns : List ℕ) (out w other : Window) (axes : List Axis) → IsCall order ns out axes → AreApart (numbers_along order ns order) (place_along w order) (place_along other order)
    → AreApart (lens_of (kept_of out axes) ++ lens_of (still_of out axes)) (word_place w.first (steps_of w (kept_of out axes) ++ steps_of w (still_of out axes)))
    (word_place other.first (steps_of other (kept_of out axes) ++ steps_of other (still_of out axes)))
apart_both order ns out w other axes call h =
    let both = split_nest order ns out axes call.nest in
    apart_nest order ns (indexes_of (kept_of out axes ++ still_of out axes)) _ _ _ w other call.loops both.same
    (sym (lens_both (kept_of out axes) (still_of out axes)) ∙ same_numbers (assignment order ns) (kept_of out axes ++ still_of out axes) both.numbers)
    (steps_both w (kept_of out axes) (still_of out axes)) (steps_both other (kept_of out axes) (still_of out axes)) h

pub advanced_below : (order ns : List ℕ) (out w : Window) (axes : List Axis) (n : ℕ) → IsCall order ns out axes → AreWithin n (numbers_along order ns order) (place_along w order)
    → w.first + sum_by (advanced out w) axes < n
advanced_below order ns out w axes n call h =
    let some = positive_both order ns out axes call in
    subst (λ k. w.first + k < n) (sym (advanced_is out w axes))
    (farthest_below n w.first (lens_of (kept_of out axes)) (lens_of (still_of out axes)) (steps_of w (kept_of out axes)) (steps_of w (still_of out axes)) (as_many w (kept_of out axes))
    (some_front _ (lens_of (still_of out axes)) some) (some_back (lens_of (kept_of out axes)) _ some) (within_both order ns out w axes n call h))

-- the loops that run, and where the operands begin
pub record RunsKept (out left right : Window) (axes : List Axis) (loops : List Loop) (left_first right_first : ℕ) : Type 0 where
  pub loops_are : loops ≡ map (pair_loop out left right) (kept_of out axes)
  pub left_is : left_first ≡ left.first + sum_by (advanced out left) axes
  pub right_is : right_first ≡ right.first + sum_by (advanced out right) axes

kept_lens : (out left right : Window) (axes : List Axis) (loops : List Loop) (f g : ℕ) → RunsKept out left right axes loops f g → lens loops ≡ lens_of (kept_of out axes)
kept_lens out left right axes loops f g runs = ap lens runs.loops_are ∙ lens_are out left right (kept_of out axes)

first_moved : (out w : Window) (axes : List Axis) (f : ℕ) → f ≡ w.first + sum_by (advanced out w) axes → f ≡ w.first + offset (steps_of w (still_of out axes)) (lasts (lens_of (still_of out axes)))
first_moved out w axes f e = e ∙ ap (λ n. w.first + n) (advanced_is out w axes)

out_unmoved : (out : Window) (axes : List Axis) → out.first ≡ out.first + offset (steps_of out (still_of out axes)) (lasts (lens_of (still_of out axes)))
out_unmoved out axes = sym (ap (λ n. out.first + n) (still_offset out axes (lasts (lens_of (still_of out axes)))) ∙ add-zero out.first)

pub positive_kept : (order ns : List ℕ) (out left right : Window) (axes : List Axis) (loops : List Loop) (f g : ℕ) → IsCall order ns out axes → RunsKept out left right axes loops f g → ArePositive (lens loops)
positive_kept order ns out left right axes loops f g call runs =
    subst ArePositive (sym (kept_lens out left right axes loops f g runs)) (some_front _ (lens_of (still_of out axes)) (positive_both order ns out axes call))

-- the places of one window
pub within_kept : (order ns : List ℕ) (out w : Window) (axes : List Axis) (n f : ℕ) (numbers steps : List ℕ) → IsCall order ns out axes
    → numbers ≡ lens_of (kept_of out axes) → steps ≡ steps_of w (kept_of out axes) → f ≡ w.first + offset (steps_of w (still_of out axes)) (lasts (lens_of (still_of out axes)))
    → AreWithin n (numbers_along order ns order) (place_along w order) → AreWithin n numbers (word_place f steps)
within_kept order ns out w axes n f numbers steps call e s at h =
    subst (λ ms. AreWithin n ms (word_place f steps)) (sym e)
    (subst (λ ss. AreWithin n (lens_of (kept_of out axes)) (word_place f ss)) (sym s)
    (subst (λ k. AreWithin n (lens_of (kept_of out axes)) (word_place k (steps_of w (kept_of out axes)))) (sym at)
    (within_split n w.first (lens_of (kept_of out axes)) (lens_of (still_of out axes)) (steps_of w (kept_of out axes)) (steps_of w (still_of out axes)) (as_many w (kept_of out axes))
    (some_back (lens_of (kept_of out axes)) _ (positive_both order ns out axes call)) (within_both order ns out w axes n call h))))

pub apart_kept : (order ns : List ℕ) (out w other : Window) (axes : List Axis) (f g : ℕ) (numbers steps other_steps : List ℕ) → IsCall order ns out axes
    → numbers ≡ lens_of (kept_of out axes) → steps ≡ steps_of w (kept_of out axes) → other_steps ≡ steps_of other (kept_of out axes)
    → f ≡ w.first + offset (steps_of w (still_of out axes)) (lasts (lens_of (still_of out axes))) → g ≡ other.first + offset (steps_of other (still_of out axes)) (lasts (lens_of (still_of out axes)))
    → AreApart (numbers_along order ns order) (place_along w order) (place_along other order) → AreApart numbers (word_place f steps) (word_place g other_steps)
apart_kept order ns out w other axes f g numbers steps other_steps call e s t at there h =
    let split = apart_split w.first other.first (lens_of (kept_of out axes)) (lens_of (still_of out axes)) (steps_of w (kept_of out axes)) (steps_of w (still_of out axes))
    (steps_of other (kept_of out axes)) (steps_of other (still_of out axes)) (as_many w (kept_of out axes)) (as_many other (kept_of out axes))
    (some_back (lens_of (kept_of out axes)) _ (positive_both order ns out axes call)) (apart_both order ns out w other axes call h) in
    subst (λ ms. AreApart ms (word_place f steps) (word_place g other_steps)) (sym e)
    (subst (λ ss. AreApart (lens_of (kept_of out axes)) (word_place f ss) (word_place g other_steps)) (sym s)
    (subst (λ ss. AreApart (lens_of (kept_of out axes)) (word_place f (steps_of w (kept_of out axes))) (word_place g ss)) (sym t)
    (subst (λ k. AreApart (lens_of (kept_of out axes)) (word_place k (steps_of w (kept_of out axes))) (word_place g (steps_of other (kept_of out axes)))) (sym at)
    (subst (λ k. AreApart (lens_of (kept_of out axes)) (word_place (w.first + offset (steps_of w (still_of out axes)) (lasts (lens_of (still_of out axes)))) (steps_of w (kept_of out axes)))
    (word_place k (steps_of other (kept_of out axes)))) (sym there) split))))

-- ---- by the loops that run

pub out_within : (order ns : List ℕ) (out left right : Window) (axes : List Axis) (loops : List Loop) (f g n : ℕ) → IsCall order ns out axes → RunsKept out left right axes loops f g
    → AreWithin n (numbers_along order ns order) (place_along out order) → AreWithin n (lens loops) (word_place out.first (out_steps loops))
out_within order ns out left right axes loops f g n call runs h =
    within_kept order ns out out axes n out.first (lens loops) (out_steps loops) call (kept_lens out left right axes loops f g runs)
    (ap out_steps runs.loops_are ∙ out_are out left right (kept_of out axes)) (out_unmoved out axes) h

pub left_within : (order ns : List ℕ) (out left right : Window) (axes : List Axis) (loops : List Loop) (f g n : ℕ) → IsCall order ns out axes → RunsKept out left right axes loops f g
    → AreWithin n (numbers_along order ns order) (place_along left order) → AreWithin n (lens loops) (word_place f (left_steps loops))
left_within order ns out left right axes loops f g n call runs h =
    within_kept order ns out left axes n f (lens loops) (left_steps loops) call (kept_lens out left right axes loops f g runs)
    (ap left_steps runs.loops_are ∙ left_are out left right (kept_of out axes)) (first_moved out left axes f runs.left_is) h

pub right_within : (order ns : List ℕ) (out left right : Window) (axes : List Axis) (loops : List Loop) (f g n : ℕ) → IsCall order ns out axes → RunsKept out left right axes loops f g
    → AreWithin n (numbers_along order ns order) (place_along right order) → AreWithin n (lens loops) (word_place g (right_steps loops))
right_within order ns out left right axes loops f g n call runs h =
    within_kept order ns out right axes n g (lens loops) (right_steps loops) call (kept_lens out left right axes loops f g runs)
    (ap right_steps runs.loops_are ∙ right_are out left right (kept_of out axes)) (first_moved out right axes g runs.right_is) h

pub left_apart : (order ns : List ℕ) (out left right : Window) (axes : List Axis) (loops : List Loop) (f g : ℕ) → IsCall order ns out axes → RunsKept out left right axes loops f g
    → AreApart (numbers_along order ns order) (place_along out order) (place_along left order) → AreApart (lens loops) (word_place out.first (out_steps loops)) (word_place f (left_steps loops))
left_apart order ns out left right axes loops f g call runs h =
    apart_kept order ns out out left axes out.first f (lens loops) (out_steps loops) (left_steps loops) call (kept_lens out left right axes loops f g runs)
    (ap out_steps runs.loops_are ∙ out_are out left right (kept_of out axes)) (ap left_steps runs.loops_are ∙ left_are out left right (kept_of out axes))
    (out_unmoved out axes) (first_moved out left axes f runs.left_is) h

pub right_apart : (order ns : List ℕ) (out left right : Window) (axes : List Axis) (loops : List Loop) (f g : ℕ) → IsCall order ns out axes → RunsKept out left right axes loops f g
    → AreApart (numbers_along order ns order) (place_along out order) (place_along right order) → AreApart (lens loops) (word_place out.first (out_steps loops)) (word_place g (right_steps loops))
right_apart order ns out left right axes loops f g call runs h =
    apart_kept order ns out out right axes out.first g (lens loops) (out_steps loops) (right_steps loops) call (kept_lens out left right axes loops f g runs)
    (ap out_steps runs.loops_are ∙ out_are out left right (kept_of out axes)) (ap right_steps runs.loops_are ∙ right_are out left right (kept_of out axes))
    (out_unmoved out axes) (first_moved out right axes g runs.right_is) h

-- what is made over lists is made over lists that are the same
made_same : (operation : Arithmetic) (f g h : ℕ) (ns ms ss ts us vs ws xs : List ℕ) (old new : List ℕ) → ns ≡ ms → ss ≡ ts → us ≡ vs → ws ≡ xs
    → IsMade (computed operation old (word_place g us) (word_place h ws)) (word_place f ss) (places ns) old new
    → IsMade (computed operation old (word_place g vs) (word_place h xs)) (word_place f ts) (places ms) old new
made_same operation f g h ns ms ss ts us vs ws xs old new d e i j made =
    subst (λ rs. IsMade (computed operation old (word_place g vs) (word_place h rs)) (word_place f ts) (places ms) old new) j
    (subst (λ rs. IsMade (computed operation old (word_place g rs) (word_place h ws)) (word_place f ts) (places ms) old new) i
    (subst (λ rs. IsMade (computed operation old (word_place g us) (word_place h ws)) (word_place f rs) (places ms) old new) e
    (subst (λ rs. IsMade (computed operation old (word_place g us) (word_place h ws)) (word_place f ss) (places rs) old new) d made)))

-- and so it is from the same first places
made_from : (operation : Arithmetic) (f g h i j : ℕ) (ns ss us ws : List ℕ) (old new : List ℕ) → g ≡ i → h ≡ j
    → IsMade (computed operation old (word_place g us) (word_place h ws)) (word_place f ss) (places ns) old new
    → IsMade (computed operation old (word_place i us) (word_place j ws)) (word_place f ss) (places ns) old new
made_from operation f g h i j ns ss us ws old new d e made =
    subst (λ k. IsMade (computed operation old (word_place i us) (word_place k ws)) (word_place f ss) (places ns) old new) e
    (subst (λ k. IsMade (computed operation old (word_place k us) (word_place h ws)) (word_place f ss) (places ns) old new) d made)

pub made_kept : (operation : Arithmetic) (order ns : List ℕ) (out left right : Window) (axes : List Axis) (loops : List Loop) (f g : ℕ) (old new : List ℕ) → IsCall order ns out axes
    → RunsKept out left right axes loops f g
    → IsMade (computed operation old (word_place f (left_steps loops)) (word_place g (right_steps loops))) (word_place out.first (out_steps loops)) (places (lens loops)) old new
    → AreMade order ns (λ inner. computed operation old (place_along left inner) (place_along right inner)) out old new
made_kept operation order ns out left right axes loops f g old new call runs made =
    let kept : List Axis = kept_of out axes in
    let still : List Axis = still_of out axes in
    let both = split_nest order ns out axes call.nest in
    let front = made_same operation out.first _ _ (lens loops) (lens_of kept) (out_steps loops) (steps_of out kept) (left_steps loops) (steps_of left kept) (right_steps loops) (steps_of right kept) old new
    (kept_lens out left right axes loops f g runs) (ap out_steps runs.loops_are ∙ out_are out left right kept) (ap left_steps runs.loops_are ∙ left_are out left right kept)
    (ap right_steps runs.loops_are ∙ right_are out left right kept)
    (made_from operation out.first f g _ _ (lens loops) (out_steps loops) (left_steps loops) (right_steps loops) old new (first_moved out left axes f runs.left_is) (first_moved out right axes g runs.right_is) made) in
    record {
      inner = indexes_of (kept ++ still);
      same = both.same;
      made = made_same operation out.first left.first right.first _ _ _ _ _ _ _ _ old new
          (sym (lens_both kept still) ∙ same_numbers (assignment order ns) (kept ++ still) both.numbers) (steps_both out kept still) (steps_both left kept still) (steps_both right kept still)
          (computed_split operation out.first left.first right.first (lens_of kept) (lens_of still) (steps_of out kept) (steps_of out still) (steps_of left kept) (steps_of left still)
          (steps_of right kept) (steps_of right still) old new (as_many out kept) (as_many left kept) (as_many right kept) (some_back (lens_of kept) _ (positive_both order ns out axes call))
          (still_offset out axes) front);
    }

-- ---- before the loops run

pub some_axes : (order ns : List ℕ) (axes : List Axis) → AreLoops order ns → IsNest order ns axes → All (λ (x : Axis). 0 < x.len) axes
some_axes order ns axes loops nest =
    all_some axes (positive_nest order ns (indexes_of axes) (lens_of axes) loops nest.same (same_numbers (assignment order ns) axes nest.numbers))
  where
    all_some : (axes : List Axis) → ArePositive (lens_of axes) → All (λ (x : Axis). 0 < x.len) axes
    all_some [] h = All-nil (λ (x : Axis). 0 < x.len)
    all_some (x ∷ axes) h = All-cons (λ (x : Axis). 0 < x.len) x axes h.0 (all_some axes h.1)

pub runs_kept : (out left right : Window) (sequence : LoopSequence) → ArePuts out left right sequence
    → RunsKept out left right sequence.axes.items (take sequence.moving.count sequence.puts) (left.first + sequence.moving.left) (right.first + sequence.moving.right)
runs_kept out left right sequence puts = record {
  loops_are = puts.loops_are;
  left_is = ap (λ n. left.first + n) puts.left_is;
  right_is = ap (λ n. right.first + n) puts.right_is;
}
