-- Which turns of a part of loops fall on a place of a node.
use Rattle.std.proofs.Common.{◌≡◌, ℕ, ◌+◌, ◌-◌, ◌<◌, ◌≤◌, Bool, true, false, not, ◌&&◌, ◌||◌, if◌then◌else◌, ltb, leb, ltb-true, leb-true, List, [], ◌∷◌, map, length, bytes_eq, refl, sym, ap, ap₂, ◌∙◌, inl, inr, arith}
use mathlib.Core.Path.{fun_ext}
use Rattle.std.specs.List.{range_with_len}
use Rattle.std.proofs.lemmas.Bool.{cases_Bool, cases_eq, and_parts, and_from, false≢true}
use Rattle.std.proofs.lemmas.Bool.Decides.{nat_tests}
use Rattle.std.proofs.lemmas.Slice.Eq.{bytes_eq-Decides}
use Rattle.tce_space.specs.Box.{IsInside}
use Rattle.tce_space.specs.IndexSet.{has, members}
use Rattle.tce_space.specs.Tiling.{ArePositive}
use Rattle.tce_tree.specs.Value.{Assignment, with_number, assignment}
use Rattle.tce_tree.specs.WellFormed.{among, is_distinct}
use Rattle.tce_tree.proofs.Lists.{among_cases, among-all, all-among, filter-among, among-range, distinct_first, distinct_later}
use Rattle.tce_tree.proofs.Values.{map-same}
use Rattle.tce_tree.proofs.Assignments.{with-same, with-other, assignment-at}
use Rattle.tce_tree.proofs.Permutations.{members_has}
use Rattle.tce_block.specs.Last.{meets, last_of_part}
use Rattle.tce_block.specs.Parts.{Part}
use Rattle.tce_block.specs.Sums.{moved}
use Rattle.tce_block.proofs.BoxSums.{assignment-absent}
use Rattle.tce_walk.specs.Parts.{last_on_place, falls_on}
use Rattle.tce_code.specs.Execution.{Setting, coordinates}
use Rattle.tce_walk.specs.TailLaws.{dims_at}
use Rattle.tce_block.specs.Results.{assigned}
use Rattle.tce_block.proofs.Lasts.{assigned_out}
use Rattle.tce_exec.specs.LoopLaws.{IsSequence, lens_along}
use Rattle.tce_exec.specs.Turns.{IsTurn, turns_of, turn_at}
use Rattle.tce_exec.proofs.LoopPlaces.{among_inner, distinct_inner}
use Rattle.tce_exec.proofs.Sums.{IsBelow}

-- ---- the first turn

pub first_in : (order : List ℕ) (a : Assignment) (part : Part) (i : ℕ) → among order i ≡ true → (turns_of order a part).first i ≡ assignment order part.from i
first_in order a part i m = ap (λ b. if b then assignment order part.from i else a i) m

pub first_out : (order : List ℕ) (a : Assignment) (part : Part) (i : ℕ) → among order i ≡ false → (turns_of order a part).first i ≡ a i
first_out order a part i m = ap (λ b. if b then assignment order part.from i else a i) m

pub some_numbers : (order lens : List ℕ) (i : ℕ) → length lens ≡ length order → ArePositive lens → among order i ≡ true → 0 < assignment order lens i
some_numbers [] lens i l h m = absurd (false≢true m)
some_numbers (j ∷ order) [] i l h m = absurd (omega arith)
some_numbers (j ∷ order) (n ∷ lens) i l h m =
    elim (cases_eq i j) [
      | inl e ↦
          let first : 0 < n = h.0 in
          let here : assignment (j ∷ order) (n ∷ lens) i ≡ n = ap (assignment (j ∷ order) (n ∷ lens)) e ∙ with-same (assignment order lens) j n in
          omega (arith, first, here)
      | inr ne ↦
          let later : 0 < assignment order lens i = some_numbers order lens i (omega arith) h.1 (elim (among_cases j order i m) [ inl e ↦ absurd (ne (sym e)) | inr t ↦ t ]) in
          omega (arith, later, with-other (assignment order lens) j n i ne)
    ]

-- ---- turns as numbers above the first turn's

pub assigned_in : (extent : ℕ → ℕ) (a : Assignment) (indexes xs : List ℕ) (j : ℕ) → is_distinct indexes ≡ true → IsInside (map extent indexes) xs → among indexes j ≡ true
    → assigned a indexes xs j ≡ assignment indexes xs j
assigned_in extent a [] xs j d h m = absurd (false≢true m)
assigned_in extent a (i ∷ rest) [] j d h m = absurd h
assigned_in extent a (i ∷ rest) (x ∷ xs) j d h m =
    elim (cases_eq j i) [
      | inl e ↦
          ap (assigned (with_number a i x) rest xs) e ∙ assigned_out (with_number a i x) rest xs i (distinct_first i rest d) ∙ with-same a i x
          ∙ sym (ap (with_number (assignment rest xs) i x) e ∙ with-same (assignment rest xs) i x)
      | inr ne ↦
          assigned_in extent (with_number a i x) rest xs j (distinct_later i rest d) h.1 (elim (among_cases i rest j m) [ inl e ↦ absurd (ne (sym e)) | inr t ↦ t ])
          ∙ sym (with-other (assignment rest xs) i x j ne)
    ]

-- the turn at coordinates
pub moved_assigned : (order : List ℕ) (a : Assignment) (part : Part) (inner xs : List ℕ) → IsSequence (turns_of order a part) inner → IsInside (lens_along (turns_of order a part) inner) xs
    → moved order part.from (assigned a inner xs) ≡ turn_at (turns_of order a part) inner xs
moved_assigned order a part inner xs s h = fun_ext (λ i.
    elim (cases_Bool (among order i)) [
      | inl m ↦
          let inside : among inner i ≡ true = among_inner (turns_of order a part) inner s i ∙ m in
          ap₂ (λ x y. x + y) (sym (first_in order a part i m)) (assigned_in (turns_of order a part).count a inner xs i (distinct_inner (turns_of order a part) inner s) h inside)
      | inr m ↦
          let outside : among inner i ≡ false = among_inner (turns_of order a part) inner s i ∙ m in
          let none : assignment order part.from i ≡ 0 = assignment-absent order part.from i m in
          let rest : assignment inner xs i ≡ 0 = assignment-absent inner xs i outside in
          omega (arith, none, rest, assigned_out a inner xs i outside, first_out order a part i m)
    ])

pub moved_turn : (order : List ℕ) (a : Assignment) (part : Part) (b : Assignment) → IsBelow (assignment order part.len) order a b → IsTurn (turns_of order a part) (moved order part.from b)
moved_turn order a part b h = record {
  loops = λ i m.
      let first : (turns_of order a part).first i ≡ assignment order part.from i = first_in order a part i m in
      let low : b i < assignment order part.len i = h.below i m in
      (omega (arith, first), omega (arith, first, low));
  others = λ i m.
      let none : assignment order part.from i ≡ 0 = assignment-absent order part.from i m in
      omega (arith, none, h.others i m, first_out order a part i m);
}

-- ---- the last turn with given numbers at the members of a set

pub last_fixed : (set : ℕ) (b : Assignment) (order : List ℕ) (a : Assignment) (part : Part) (i : ℕ) → among order i ≡ true → has set i ≡ true → last_of_part (has set) b order a part i ≡ b i
last_fixed set b order a part i m h =
    ap (λ t. if t then (if has set i then b i else assignment order part.from i + assignment order part.len i - 1) else a i) m
    ∙ ap (λ t. if t then b i else assignment order part.from i + assignment order part.len i - 1) h

pub last_free : (set : ℕ) (b : Assignment) (order : List ℕ) (a : Assignment) (part : Part) (i : ℕ) → among order i ≡ true → has set i ≡ false
    → last_of_part (has set) b order a part i ≡ assignment order part.from i + assignment order part.len i - 1
last_free set b order a part i m h =
    ap (λ t. if t then (if has set i then b i else assignment order part.from i + assignment order part.len i - 1) else a i) m
    ∙ ap (λ t. if t then b i else assignment order part.from i + assignment order part.len i - 1) h

pub last_out : (set : ℕ) (b : Assignment) (order : List ℕ) (a : Assignment) (part : Part) (i : ℕ) → among order i ≡ false → last_of_part (has set) b order a part i ≡ a i
last_out set b order a part i m = ap (λ t. if t then (if has set i then b i else assignment order part.from i + assignment order part.len i - 1) else a i) m

-- the test of one loop
abbrev meets_at : ℕ → Assignment → List ℕ → Part → ℕ → Bool
meets_at set b order part i = not (has set i) || (leb (assignment order part.from i) (b i) && ltb (b i) (assignment order part.from i + assignment order part.len i))

pub met_numbers : (set : ℕ) (b : Assignment) (order : List ℕ) (part : Part) (i : ℕ) → meets (has set) b order part ≡ true → among order i ≡ true → has set i ≡ true
    → (assignment order part.from i ≤ b i) × (b i < assignment order part.from i + assignment order part.len i)
met_numbers set b order part i h m t =
    let here : meets_at set b order part i ≡ true = among-all (meets_at set b order part) order i h m in
    let both = and_parts (leb (assignment order part.from i) (b i)) (ltb (b i) (assignment order part.from i + assignment order part.len i))
    (sym (ap (λ q. not q || (leb (assignment order part.from i) (b i) && ltb (b i) (assignment order part.from i + assignment order part.len i))) t) ∙ here) in
    (leb-true _ _ both.0, ltb-true _ _ both.1)

pub last_turn : (set : ℕ) (b : Assignment) (order : List ℕ) (a : Assignment) (part : Part) → length part.len ≡ length order → ArePositive part.len → meets (has set) b order part ≡ true
    → IsTurn (turns_of order a part) (last_of_part (has set) b order a part)
last_turn set b order a part l p h = record {
  loops = λ i m.
      let first : (turns_of order a part).first i ≡ assignment order part.from i = first_in order a part i m in
      let some : 0 < assignment order part.len i = some_numbers order part.len i l p m in
      elim (cases_Bool (has set i)) [
        | inl t ↦
            let both = met_numbers set b order part i h m t in
            let here : last_of_part (has set) b order a part i ≡ b i = last_fixed set b order a part i m t in
            (omega (arith, first, here, both.0), omega (arith, first, here, both.1))
        | inr f ↦
            let here : last_of_part (has set) b order a part i ≡ assignment order part.from i + assignment order part.len i - 1 = last_free set b order a part i m f in
            (omega (arith, first, here, some), omega (arith, first, here, some))
      ];
  others = λ i m. last_out set b order a part i m ∙ sym (first_out order a part i m);
}

-- ---- turns that fall on a place

pub falls_yes : (s : Setting) (v : ℕ) (order : List ℕ) (a : Assignment) (part : Part) (p : List ℕ) → length part.len ≡ length order → ArePositive part.len
    → falls_on s v order a part p ≡ true
    → (meets (has (dims_at s v)) (assignment (members (dims_at s v)) p) order part ≡ true) × IsTurn (turns_of order a part) (last_on_place s v order a part p)
    × (coordinates (dims_at s v) (last_on_place s v order a part p) ≡ p)
falls_yes s v order a part p l some h =
    let both = and_parts (meets (has (dims_at s v)) (assignment (members (dims_at s v)) p) order part) (bytes_eq p (coordinates (dims_at s v) (last_on_place s v order a part p))) h in (
      both.0,
      last_turn (dims_at s v) (assignment (members (dims_at s v)) p) order a part l some both.0,
      sym ((bytes_eq-Decides p (coordinates (dims_at s v) (last_on_place s v order a part p))).0 both.1),
    )

member_of : (set i : ℕ) → i < 24 → has set i ≡ true → among (members set) i ≡ true
unfolding members
member_of set i low h = filter-among (has set) (range_with_len 0 24) i h (among-range 0 24 i (omega arith) (omega arith))

-- the numbers of a place are those of an assignment that falls on it
pub place_numbers : (set : ℕ) (p : List ℕ) (b : Assignment) (i : ℕ) → i < 24 → has set i ≡ true → coordinates set b ≡ p → assignment (members set) p i ≡ b i
place_numbers set p b i low h e = ap (λ q. assignment (members set) q i) (sym e) ∙ assignment-at (members set) b i (member_of set i low h)

meets_turn : (set : ℕ) (p : List ℕ) (order : List ℕ) (a : Assignment) (part : Part) (b : Assignment) → ((i : ℕ) → among order i ≡ true → i < 24) → IsTurn (turns_of order a part) b
    → coordinates set b ≡ p → meets (has set) (assignment (members set) p) order part ≡ true
meets_turn set p order a part b low h e = all-among (meets_at set (assignment (members set) p) order part) order (λ i m.
    elim (cases_Bool (has set i)) [
      | inl t ↦
          let n : assignment (members set) p i ≡ b i = place_numbers set p b i (low i m) t e in
          let first : (turns_of order a part).first i ≡ assignment order part.from i = first_in order a part i m in
          let above : (turns_of order a part).first i ≤ b i = (h.loops i m).0 in
          let under : b i < (turns_of order a part).first i + assignment order part.len i = (h.loops i m).1 in
          tested (has set i) (assignment order part.from i) (assignment (members set) p i) (assignment order part.from i + assignment order part.len i) (omega (arith, n, first, above)) (omega (arith, n, first, under))
      | inr f ↦ ap (λ q. not q || (leb (assignment order part.from i) (assignment (members set) p i) && ltb (assignment (members set) p i) (assignment order part.from i + assignment order part.len i))) f
    ])
  where
    tested : (q : Bool) (x y z : ℕ) → x ≤ y → y < z → (not q || (leb x y && ltb y z)) ≡ true
    tested true x y z h k = grind (arith, nat_tests)
    tested false x y z h k = refl

last_same : (set : ℕ) (p : List ℕ) (order : List ℕ) (a : Assignment) (part : Part) (b : Assignment) → ((i : ℕ) → among order i ≡ true → i < 24) → IsTurn (turns_of order a part) b
    → coordinates set b ≡ p → p ≡ coordinates set (last_of_part (has set) (assignment (members set) p) order a part)
last_same set p order a part b low h e =
    sym e ∙ map-same (members set) b (last_of_part (has set) (assignment (members set) p) order a part) (λ i m.
    elim (cases_Bool (among order i)) [
      | inl t ↦ sym (last_fixed set (assignment (members set) p) order a part i t (members_has set i m) ∙ place_numbers set p b i (low i t) (members_has set i m) e)
      | inr f ↦ h.others i f ∙ first_out order a part i f ∙ sym (last_out set (assignment (members set) p) order a part i f)
    ])

pub falls_when : (s : Setting) (v : ℕ) (order : List ℕ) (a : Assignment) (part : Part) (p : List ℕ) (b : Assignment) → ((i : ℕ) → among order i ≡ true → i < 24)
    → IsTurn (turns_of order a part) b → coordinates (dims_at s v) b ≡ p → falls_on s v order a part p ≡ true
falls_when s v order a part p b low h e =
    and_from (meets (has (dims_at s v)) (assignment (members (dims_at s v)) p) order part) (bytes_eq p (coordinates (dims_at s v) (last_on_place s v order a part p)))
    (meets_turn (dims_at s v) p order a part b low h e)
    ((bytes_eq-Decides p (coordinates (dims_at s v) (last_on_place s v order a part p))).1 (last_same (dims_at s v) p order a part b low h e))
