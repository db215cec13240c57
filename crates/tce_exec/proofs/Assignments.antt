-- Coordinates as assignments of numbers to the indexes of a list.
use Rattle.std.proofs.Common.{◌≡◌, ℕ, true, false, eqb, ◌&&◌, List, [], ◌∷◌, map, length, refl, sym, ap, ap₂, ◌∙◌, arith, ltb-true}
use Rattle.std.proofs.lemmas.Bool.{eq-eqb, eqb-true, and_parts, false≢true}
use Rattle.tce_space.specs.Box.{IsInside, is_inside}
use Rattle.tce_space.proofs.Boxes.{is_inside_true, length_inside}
use Rattle.tce_tree.specs.Value.{with_number, assignment}
use Rattle.tce_tree.specs.WellFormed.{among, is_distinct}
use Rattle.tce_tree.proofs.Lists.{distinct_first, distinct_later}
use Rattle.tce_tree.proofs.Values.{map-same}
use Rattle.tce_tree.proofs.Assignments.{with-same, with-other}
use Rattle.tce_exec.specs.NodeStates.{are_inside}

-- ---- which coordinates lie inside the extents

pub are_inside-true : (ns xs : List ℕ) → IsInside ns xs → are_inside ns xs ≡ true
are_inside-true ns xs h = ap₂ (λ x y. x && y) (eq-eqb (length xs) (length ns) (length_inside ns xs h)) (is_inside_true ns xs h)

inside_from : (ns xs : List ℕ) → length xs ≡ length ns → is_inside ns xs ≡ true → IsInside ns xs
inside_from [] [] l h = tt
inside_from [] (x ∷ xs) l h = absurd (omega arith)
inside_from (n ∷ ns) [] l h = absurd (omega arith)
inside_from (n ∷ ns) (x ∷ xs) l h =
    let both = and_parts _ (is_inside ns xs) h in
    (ltb-true x n both.0, inside_from ns xs (omega arith) both.1)

pub are_inside-holds : (ns xs : List ℕ) → are_inside ns xs ≡ true → IsInside ns xs
are_inside-holds ns xs h =
    let both = and_parts (eqb (length xs) (length ns)) (is_inside ns xs) h in
    inside_from ns xs (eqb-true (length xs) (length ns) both.0) both.1

-- ---- assignments

-- the coordinates of different indexes, taken back from their numbers
pub map-assignment : (js at : List ℕ) → is_distinct js ≡ true → length at ≡ length js → map (assignment js at) js ≡ at
map-assignment [] [] d l = refl
map-assignment [] (x ∷ xs) d l = absurd (omega arith)
map-assignment (j ∷ js) [] d l = absurd (omega arith)
map-assignment (j ∷ js) (x ∷ xs) d l =
    ap₂ (λ y ys. y ∷ ys) (with-same (assignment js xs) j x)
    (map-same js (with_number (assignment js xs) j x) (assignment js xs) (λ i m. with-other (assignment js xs) j x i (λ q.
    false≢true (sym (distinct_first j js d) ∙ ap (among js) (sym q) ∙ m)))
    ∙ map-assignment js xs (distinct_later j js d) (omega arith))
