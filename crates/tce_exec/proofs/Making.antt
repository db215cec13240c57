-- What turns leave in the state that words stand for.
use Rattle.std.specs.List.Sorted.{IsPermutation}
use Rattle.std.proofs.Common.{◌≡◌, ◌≢◌, ℕ, ◌+◌, ◌-◌, ◌<◌, ◌≤◌, ◌^◌, ◌⊎◌, Bool, true, false, ◌&&◌, eqb, if◌then◌else◌, List, [], ◌∷◌, map, length, slice_index, bytes_eq, refl, sym, ap, ap₂, ◌∙◌, subst, inl, inr, arith}
use mathlib.Core.Path.{fun_ext}
use Rattle.std.proofs.lemmas.Bool.{cases_Bool, eq-eqb, eqb-true, false≢true}
use Rattle.std.proofs.lemmas.List.{get_or_past}
use Rattle.std.proofs.lemmas.Slice.Eq.{bytes_eq-Decides}
use Rattle.tce_base.specs.Word.{wrapping_add}
use Rattle.tce_base.proofs.Words.{plus-zero}
use Rattle.tce_space.specs.Box.{places, IsInside}
use Rattle.tce_space.specs.IndexSet.{has, members}
use Rattle.tce_space.specs.Tiling.{ArePositive}
use Rattle.tce_tree.specs.Value.{Assignment, assignment, sum_over}
use Rattle.tce_tree.specs.WellFormed.{among}
use Rattle.tce_tree.proofs.Lists.{same_truth}
use Rattle.tce_tree.proofs.Values.{map-same}
use Rattle.tce_tree.proofs.Assignments.{all_positive}
use Rattle.tce_tree.proofs.Sums.{sum_over_permuted}
use Rattle.tce_tree.proofs.Permutations.{members_has}
use Rattle.tce_block.specs.Last.{last_of_box}
use Rattle.tce_block.specs.Parts.{Part}
use Rattle.tce_block.specs.Sums.{moved}
use Rattle.tce_block.proofs.BoxSums.{assignment-absent}
use Rattle.tce_walk.specs.Parts.{part_growth, last_on_place, falls_on}
use Rattle.tce_code.specs.Execution.{Setting, State, coordinates}
use Rattle.tce_walk.specs.TailLaws.{dims_at}
use Rattle.tce_block.specs.Results.{assigned, HasNumbers}
use Rattle.tce_block.specs.Turns.{IsMade}
use Rattle.tce_block.proofs.Folds.{Each, each_inside, fold_idle}
use Rattle.tce_block.proofs.Growths.{growths_add_up}
use Rattle.tce_block.proofs.Lasts.{results_end_at_last}
use Rattle.tce_walk.specs.Laws.{HoldsWords}
use Rattle.tce_exec.specs.Loops.{AreLoops, place_along}
use Rattle.tce_exec.specs.LoopLaws.{IsSequence, lens_along, OthersStay, ArePartTurns, AreWordsOf, TurnsGrow, TurnsSet}
use Rattle.tce_exec.specs.Turns.{IsTurn, turns_of, turn_at}
use Rattle.tce_exec.specs.LoopWindows.{stands_at}
use Rattle.tce_exec.specs.declared.window.Window.{Window}
use Rattle.tce_exec.proofs.Falling.{moved_assigned, moved_turn, assigned_in, first_in, some_numbers, last_free, last_out, falls_yes, falls_when, place_numbers}
use Rattle.tce_exec.proofs.LoopPlaces.{coordinates_are_turns, among_inner, distinct_inner, place_is}
use Rattle.tce_exec.proofs.Sums.{sum_over_same, sum_over-zero}

-- ---- words at no turn's place

pub each_weaker : (P Q : List ℕ → Type 0) (turns : List (List ℕ)) → ((xs : List ℕ) → P xs → Q xs) → Each P turns → Each Q turns
each_weaker P Q [] h e = tt
each_weaker P Q (xs ∷ turns) h e = (h xs e.0, each_weaker P Q turns h e.1)

pub others_stay : OthersStay
others_stay t w inner word old new s made = λ k none.
    let turns = coordinates_are_turns t w inner s in
    elim (below_or k (length old)) [
      | inl low ↦
          made.made k low
          ∙ fold_idle word (place_along w inner) k (slice_index old k) (places (lens_along t inner))
          (each_weaker (IsInside (lens_along t inner)) (λ xs. place_along w inner xs ≢ k) (places (lens_along t inner))
          (λ xs inside e. none (turn_at t inner xs) (turns.turn xs inside) (sym (turns.place xs inside) ∙ e)) (each_inside (lens_along t inner)))
      | inr past ↦
          get_or_past new k 0 (let same : length new ≡ length old = made.same_length in omega arith) ∙ sym (get_or_past old k 0 past)
    ]
  where
    below_or : (k n : ℕ) → (k < n) ⊎ (n ≤ k)
    below_or k n = search arith

-- ---- growing

pub sequence_of : (order : List ℕ) (a : Assignment) (part : Part) (inner : List ℕ) → AreLoops order part.len → IsPermutation order inner → IsSequence (turns_of order a part) inner
sequence_of order a part inner loops same = record { distinct = loops.distinct; below = loops.below; same = same }

-- the sum that falls on the place of a turn, in the sequence of the loops and by the coordinates of the node's place
growth_is : (s : Setting) (v : ℕ) (order : List ℕ) (a : Assignment) (part : Part) (inner : List ℕ) (out : Window) (view : List ℕ → State) (count : ℕ) (f : Assignment → ℕ) (c : Assignment) (p : List ℕ)
    → ArePartTurns s v order a part inner out view count → IsTurn (turns_of order a part) c → coordinates (dims_at s v) c ≡ p
    → sum_over (assignment order part.len) inner (λ b. if eqb (stands_at out (turns_of order a part).first (moved order part.from b)) (stands_at out (turns_of order a part).first c) then f (moved order part.from b) else 0) a
    ≡ part_growth s v order f a part p
growth_is s v order a part inner out view count f c p h turn at =
    let t = turns_of order a part in
    sum_over_permuted (assignment order part.len) inner order _ a (distinct_inner t inner (sequence_of order a part inner h.loops h.same)) h.loops.distinct (among_inner t inner (sequence_of order a part inner h.loops h.same))
    ∙ sum_over_same (assignment order part.len) order _ (λ b. if bytes_eq p (coordinates (dims_at s v) (moved order part.from b)) then f (moved order part.from b) else 0) a (λ b below.
    let b_turn = moved_turn order a part b below in
    let same = h.shows.apart (moved order part.from b) c b_turn turn in
    ap (λ q. if q then f (moved order part.from b) else 0)
    (same_truth (eqb (stands_at out t.first (moved order part.from b)) (stands_at out t.first c)) (bytes_eq p (coordinates (dims_at s v) (moved order part.from b)))
    (λ e. (bytes_eq-Decides p (coordinates (dims_at s v) (moved order part.from b))).1 (sym (same.0 (eqb-true _ _ e) ∙ at)))
    (λ e. eq-eqb _ _ (same.1 (sym ((bytes_eq-Decides p (coordinates (dims_at s v) (moved order part.from b))).0 e) ∙ sym at)))))

-- no turn falls on a place, which does not grow
growth_none : (s : Setting) (v : ℕ) (order : List ℕ) (a : Assignment) (part : Part) (f : Assignment → ℕ) (p : List ℕ)
    → ((b : Assignment) → IsTurn (turns_of order a part) b → coordinates (dims_at s v) b ≡ p → ⊥) → part_growth s v order f a part p ≡ 0
growth_none s v order a part f p none =
    sum_over_same (assignment order part.len) order _ (λ b. 0) a (λ b below.
    elim (cases_Bool (bytes_eq p (coordinates (dims_at s v) (moved order part.from b)))) [
      | inl e ↦ absurd (none (moved order part.from b) (moved_turn order a part b below) (sym ((bytes_eq-Decides p (coordinates (dims_at s v) (moved order part.from b))).0 e)))
      | inr e ↦ ap (λ q. if q then f (moved order part.from b) else 0) e
    ])
    ∙ sum_over-zero (assignment order part.len) order a

grown_place : (s : Setting) (v : ℕ) (order : List ℕ) (a : Assignment) (part : Part) (inner : List ℕ) (out : Window) (view : List ℕ → State) (f : Assignment → ℕ) (word : List ℕ → ℕ) (old new : List ℕ)
    → ArePartTurns s v order a part inner out view (length old) → HoldsWords v (view old) → AreWordsOf f (turns_of order a part) inner word
    → IsMade (λ w xs. wrapping_add w (word xs)) (place_along out inner) (places (lens_along (turns_of order a part) inner)) old new
    → (c : Assignment) → IsTurn (turns_of order a part) c
    → view new v (coordinates (dims_at s v) c) ≡ wrapping_add (view old v (coordinates (dims_at s v) c)) (part_growth s v order f a part (coordinates (dims_at s v) c))
grown_place s v order a part inner out view f word old new h holds words made c turn =
    let t = turns_of order a part in
    let p : List ℕ = coordinates (dims_at s v) c in
    let k : ℕ = stands_at out t.first c in
    let before : view old v p ≡ slice_index old k = h.shows.word old refl c turn in
    h.shows.word new made.same_length c turn
    ∙ growths_add_up (assignment order part.len) inner (λ b. stands_at out t.first (moved order part.from b)) (λ b. f (moved order part.from b)) a (place_along out inner) word old new k made
    (λ xs inside.
    let here : turn_at t inner xs ≡ moved order part.from (assigned a inner xs) = sym (moved_assigned order a part inner xs (sequence_of order a part inner h.loops h.same) inside) in
    (place_is t out inner xs (sequence_of order a part inner h.loops h.same) ∙ ap (stands_at out t.first) here, words xs inside ∙ ap f here))
    (h.shows.within c turn) (subst (λ n. n < 2 ^ 64) before (holds p))
    ∙ ap₂ wrapping_add (sym before) (growth_is s v order a part inner out view (length old) f c p h turn refl)

-- a place on which no turn falls
stays : (s : Setting) (v : ℕ) (order : List ℕ) (a : Assignment) (part : Part) (inner : List ℕ) (out : Window) (view : List ℕ → State) (word : ℕ → List ℕ → ℕ) (old new : List ℕ)
    → ArePartTurns s v order a part inner out view (length old) → IsMade word (place_along out inner) (places (lens_along (turns_of order a part) inner)) old new
    → (u : ℕ) (p : List ℕ) → (u ≡ v → (b : Assignment) → IsTurn (turns_of order a part) b → coordinates (dims_at s v) b ≡ p → ⊥) → view new u p ≡ view old u p
stays s v order a part inner out view word old new h made =
    h.shows.others old new refl made.same_length (others_stay (turns_of order a part) out inner word old new (sequence_of order a part inner h.loops h.same) made)

-- some turn falls on the place, or none
data Falls (s : Setting) (v : ℕ) (order : List ℕ) (a : Assignment) (part : Part) (p : List ℕ) : Type 0 where
  meets_place : falls_on s v order a part p ≡ true → Falls s v order a part p
  misses_place : falls_on s v order a part p ≡ false → ((b : Assignment) → IsTurn (turns_of order a part) b → coordinates (dims_at s v) b ≡ p → ⊥) → Falls s v order a part p

falls : (s : Setting) (v : ℕ) (order : List ℕ) (a : Assignment) (part : Part) (p : List ℕ) → ((i : ℕ) → among order i ≡ true → i < 24) → Falls s v order a part p
falls s v order a part p low =
    elim (cases_Bool (falls_on s v order a part p)) [
      | inl e ↦ meets_place e
      | inr e ↦ misses_place e (λ b turn at. false≢true (sym e ∙ falls_when s v order a part p b low turn at))
    ]

pub turns_grow : TurnsGrow
turns_grow s v order a part inner out view f word old new h holds words made = fun_ext (λ u. fun_ext (λ p.
    elim (cases_Bool (eqb u v)) [
      | inl e ↦
          ap (λ n. view new n p) (eqb-true u v e)
          ∙ at_node p
          ∙ sym (ap (λ n. wrapping_add (view old n p) (part_growth s v order f a part p)) (eqb-true u v e))
          ∙ sym (ap (λ q. if q then wrapping_add (view old u p) (part_growth s v order f a part p) else view old u p) e)
      | inr e ↦
          stays s v order a part inner out view (λ w xs. wrapping_add w (word xs)) old new h made u p (λ same b turn at. false≢true (sym e ∙ eq-eqb u v same))
          ∙ sym (ap (λ q. if q then wrapping_add (view old u p) (part_growth s v order f a part p) else view old u p) e)
    ]))
  where
    at_node : (p : List ℕ) → view new v p ≡ wrapping_add (view old v p) (part_growth s v order f a part p)
    at_node p =
        elim (falls s v order a part p h.loops.below) [
          | meets_place e ↦
              let found = falls_yes s v order a part p h.loops.as_many h.loops.some e in
              subst (λ q. view new v q ≡ wrapping_add (view old v q) (part_growth s v order f a part q)) found.2
              (grown_place s v order a part inner out view f word old new h holds words made (last_on_place s v order a part p) found.1)
          | misses_place e none ↦
              stays s v order a part inner out view (λ w xs. wrapping_add w (word xs)) old new h made v p (λ same b turn at. none b turn at)
              ∙ sym (plus-zero (view old v p) (holds p))
              ∙ ap (wrapping_add (view old v p)) (sym (growth_none s v order a part f p none))
        ]

-- ---- setting

-- how far the numbers of an assignment are above the first turn's
abbrev above : List ℕ → Part → Assignment → Assignment
above order part c i = c i - assignment order part.from i

-- turns that fall on the place of turn `c` have its numbers at the dims of the node
has_numbers : (set : ℕ) (order : List ℕ) (a : Assignment) (part : Part) (inner xs : List ℕ) (c : Assignment) → IsSequence (turns_of order a part) inner
    → IsInside (lens_along (turns_of order a part) inner) xs → coordinates set (turn_at (turns_of order a part) inner xs) ≡ coordinates set c
    → HasNumbers (has set) (above order part c) inner (assigned a inner xs)
has_numbers set order a part inner xs c s inside same = λ i m t.
    let turns' = turns_of order a part in
    let in_order : among order i ≡ true = sym (among_inner turns' inner s i) ∙ m in
    let number : turn_at turns' inner xs i ≡ c i = sym (place_numbers set (coordinates set c) (turn_at turns' inner xs) i (s.below i in_order) t same) ∙ place_numbers set (coordinates set c) c i (s.below i in_order) t refl in
    let first : turns'.first i ≡ assignment order part.from i = first_in order a part i in_order in
    let here : assigned a inner xs i ≡ assignment inner xs i = assigned_in turns'.count a inner xs i (distinct_inner turns' inner s) inside m in
    omega (arith, number, first, here)

numbers_fall : (set : ℕ) (order : List ℕ) (a : Assignment) (part : Part) (inner xs : List ℕ) (c : Assignment) → IsSequence (turns_of order a part) inner
    → IsInside (lens_along (turns_of order a part) inner) xs → IsTurn (turns_of order a part) c → HasNumbers (has set) (above order part c) inner (assigned a inner xs)
    → coordinates set (turn_at (turns_of order a part) inner xs) ≡ coordinates set c
numbers_fall set order a part inner xs c s inside turn h = map-same (members set) (turn_at (turns_of order a part) inner xs) c (λ i m.
    let turns' = turns_of order a part in
    let is : IsTurn turns' (turn_at turns' inner xs) = (coordinates_are_turns turns' (record { first = 0; steps = [] }) inner s).turn xs inside in
    elim (cases_Bool (among order i)) [
      | inl q ↦
          let loop : among inner i ≡ true = among_inner turns' inner s i ∙ q in
          let number : assigned a inner xs i ≡ c i - assignment order part.from i = h i loop (members_has set i m) in
          let first : turns'.first i ≡ assignment order part.from i = first_in order a part i q in
          let here : assigned a inner xs i ≡ assignment inner xs i = assigned_in turns'.count a inner xs i (distinct_inner turns' inner s) inside loop in
          let low : turns'.first i ≤ c i = (turn.loops i q).0 in
          omega (arith, number, first, here, low)
      | inr q ↦ is.others i q ∙ sym (turn.others i q)
    ])

-- the last turn of the box of numbers above the first turn's is the last on the place
last_same : (s : Setting) (v : ℕ) (order : List ℕ) (a : Assignment) (part : Part) (inner : List ℕ) (p : List ℕ) → IsSequence (turns_of order a part) inner
    → length part.len ≡ length order → ArePositive part.len → IsTurn (turns_of order a part) (last_on_place s v order a part p)
    → moved order part.from (last_of_box (assignment order part.len) (has (dims_at s v)) (above order part (last_on_place s v order a part p)) inner a) ≡ last_on_place s v order a part p
last_same s v order a part inner p q l some turn = fun_ext (λ i.
    let t = turns_of order a part in
    let c : Assignment = last_on_place s v order a part p in
    let box : Bool → Bool → ℕ = λ x y. assignment order part.from i + (if x then (if y then c i - assignment order part.from i else assignment order part.len i - 1) else a i) in
    elim (cases_Bool (among order i)) [
      | inl m ↦
          let loop : among inner i ≡ true = among_inner t inner q i ∙ m in
          let first : t.first i ≡ assignment order part.from i = first_in order a part i m in
          let low : t.first i ≤ c i = (turn.loops i m).0 in
          let positive : 0 < assignment order part.len i = some_numbers order part.len i l some m in
          elim (cases_Bool (has (dims_at s v) i)) [
            | inl y ↦ ap (λ x. box x (has (dims_at s v) i)) loop ∙ ap (box true) y ∙ omega (arith, first, low)
            | inr y ↦
                let free : c i ≡ assignment order part.from i + assignment order part.len i - 1 = last_free (dims_at s v) (assignment (members (dims_at s v)) p) order a part i m y in
                ap (λ x. box x (has (dims_at s v) i)) loop ∙ ap (box true) y ∙ omega (arith, free, positive)
          ]
      | inr m ↦
          let out : among inner i ≡ false = among_inner t inner q i ∙ m in
          let none : assignment order part.from i ≡ 0 = assignment-absent order part.from i m in
          let here : c i ≡ a i = last_out (dims_at s v) (assignment (members (dims_at s v)) p) order a part i m in
          ap (λ x. box x (has (dims_at s v) i)) out ∙ omega (arith, none, here)
    ])

set_place : (s : Setting) (v : ℕ) (order : List ℕ) (a : Assignment) (part : Part) (inner : List ℕ) (out : Window) (view : List ℕ → State) (f : Assignment → ℕ) (word : List ℕ → ℕ) (old new : List ℕ)
    → ArePartTurns s v order a part inner out view (length old) → AreWordsOf f (turns_of order a part) inner word
    → IsMade (λ w xs. word xs) (place_along out inner) (places (lens_along (turns_of order a part) inner)) old new
    → (p : List ℕ) → falls_on s v order a part p ≡ true → view new v p ≡ f (last_on_place s v order a part p)
set_place s v order a part inner out view f word old new h words made p e =
    let t = turns_of order a part in
    let found = falls_yes s v order a part p h.loops.as_many h.loops.some e in
    let c : Assignment = last_on_place s v order a part p in
    let k : ℕ = stands_at out t.first c in
    let turns = coordinates_are_turns t out inner (sequence_of order a part inner h.loops h.same) in
    ap (view new v) (sym found.2)
    ∙ h.shows.word new made.same_length c found.1
    ∙ results_end_at_last (assignment order part.len) inner (has (dims_at s v)) (above order part c) a (λ b. f (moved order part.from b)) (place_along out inner) word old new k made
    (distinct_inner t inner (sequence_of order a part inner h.loops h.same)) positive (λ i m y. low i m)
    (λ xs inside. words xs inside ∙ ap f (sym (moved_assigned order a part inner xs (sequence_of order a part inner h.loops h.same) inside)))
    (λ xs inside. (
      (λ same. has_numbers (dims_at s v) order a part inner xs c (sequence_of order a part inner h.loops h.same) inside ((h.shows.apart (turn_at t inner xs) c (turns.turn xs inside) found.1).0 (sym (turns.place xs inside) ∙ same))),
      (λ numbers. turns.place xs inside ∙ (h.shows.apart (turn_at t inner xs) c (turns.turn xs inside) found.1).1 (numbers_fall (dims_at s v) order a part inner xs c (sequence_of order a part inner h.loops h.same) inside found.1 numbers)),
    ))
    (h.shows.within c found.1)
    ∙ ap f (last_same s v order a part inner p (sequence_of order a part inner h.loops h.same) h.loops.as_many h.loops.some found.1)
  where
    positive : ArePositive (map (assignment order part.len) inner)
    positive = all_positive (assignment order part.len) inner (λ i m. some_numbers order part.len i h.loops.as_many h.loops.some (sym (among_inner (turns_of order a part) inner (sequence_of order a part inner h.loops h.same) i) ∙ m))

    low : (i : ℕ) → among inner i ≡ true → last_on_place s v order a part p i - assignment order part.from i < assignment order part.len i
    low i m =
        let t = turns_of order a part in
        let in_order : among order i ≡ true = sym (among_inner t inner (sequence_of order a part inner h.loops h.same) i) ∙ m in
        let turn = (falls_yes s v order a part p h.loops.as_many h.loops.some e).1 in
        let first : t.first i ≡ assignment order part.from i = first_in order a part i in_order in
        let above_first : t.first i ≤ last_on_place s v order a part p i = (turn.loops i in_order).0 in
        let below : last_on_place s v order a part p i < t.first i + assignment order part.len i = (turn.loops i in_order).1 in
        omega (arith, first, above_first, below)

pub turns_set : TurnsSet
turns_set s v order a part inner out view f word old new h words made = fun_ext (λ u. fun_ext (λ p.
    elim (cases_Bool (eqb u v)) [
      | inl e ↦
          ap (λ n. view new n p) (eqb-true u v e)
          ∙ at_node p
          ∙ sym (ap (λ n. if falls_on s v order a part p then f (last_on_place s v order a part p) else view old n p) (eqb-true u v e))
          ∙ sym (ap (λ q. if q && falls_on s v order a part p then f (last_on_place s v order a part p) else view old u p) e)
      | inr e ↦
          stays s v order a part inner out view (λ w xs. word xs) old new h made u p (λ same b turn at. false≢true (sym e ∙ eq-eqb u v same))
          ∙ sym (ap (λ q. if q && falls_on s v order a part p then f (last_on_place s v order a part p) else view old u p) e)
    ]))
  where
    at_node : (p : List ℕ) → view new v p ≡ (if falls_on s v order a part p then f (last_on_place s v order a part p) else view old v p)
    at_node p =
        elim (falls s v order a part p h.loops.below) [
          | meets_place e ↦
              set_place s v order a part inner out view f word old new h words made p e
              ∙ sym (ap (λ q. if q then f (last_on_place s v order a part p) else view old v p) e)
          | misses_place e none ↦
              stays s v order a part inner out view (λ w xs. word xs) old new h made v p (λ same b turn at. none b turn at)
              ∙ sym (ap (λ q. if q then f (last_on_place s v order a part p) else view old v p) e)
        ]
