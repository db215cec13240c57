-- The join of two nestings, class by class from the outermost.
use Rattle.std.proofs.Common.{◌≡◌, ℕ, ◌+◌, ◌<◌, ◌≤◌, Bool, true, false, not, ◌&&◌, ◌||◌, ◌⊎◌, ◌↔◌, inl, inr, refl, arith, ◌∙◌, sym, ap, subst, List, [], ◌∷◌, ◌++◌, length}
use Rattle.std.specs.Prelude.{IsTrue}
use Rattle.std.proofs.Common.{length-append, take, drop, get_or}
use Rattle.std.proofs.lemmas.List.{take_more, take-append-drop}
use Rattle.std.proofs.lemmas.Bool.{cases_Bool, false≢true, both_ways, or_cases, or_from, or_left, or_right, and_parts, and_from, and_cases, not-true, not_from_false}
use Rattle.tce_space.specs.IndexSet.{IsIndexSet, has, count}
use Rattle.tce_fusion.specs.Relation.{Relation, above, joined, HasNoConflict}
use Rattle.tce_fusion.specs.StateClasses.{in_class, IsNesting, IsInhabited}
use Rattle.tce_nesting.specs.Classes.{AreOutermost, IsJoinOf}
use Rattle.tce_nesting.proofs.Classes.{above-cons, in_class-push, drop-item}
use Rattle.tce_nesting.proofs.Counts.{rest_smaller}

or_false : (x : Bool) → (x || false) ≡ x
or_false true = refl
or_false false = refl

no_right : (a ii ci nj : Bool) → (a || (not ii && not true && ci && nj)) ≡ a
no_right a true ci nj = or_false a
no_right a false ci nj = or_false a

-- ---- relations of nestings

-- what is above another index has a class
pub in_class-above : (cs : List ℕ) (i j : ℕ) → IsTrue (above cs i j) → IsTrue (in_class cs i)
in_class-above [] i j h = absurd (false≢true h)
in_class-above (c ∷ cs) i j h = elim (above-cons c cs i j h).1 [
  | inl x ↦ or_left (has c i) (in_class cs i) x
  | inr y ↦ or_right (has c i) (in_class cs i) (in_class-above cs i j y)
]

pub above-asymmetric : (cs : List ℕ) (i j : ℕ) → IsTrue (above cs i j) → IsTrue (above cs j i) → ⊥
above-asymmetric [] i j h k = false≢true h
above-asymmetric (c ∷ cs) i j h k =
    let first = above-cons c cs i j h in
    let second = above-cons c cs j i k in
    elim first.1 [
      | inl x ↦ both_ways (has c i) second.0 x
      | inr x ↦ elim second.1 [
        | inl y ↦ both_ways (has c j) first.0 y
        | inr y ↦ above-asymmetric cs i j x y
      ]
    ]

-- one more class as the innermost
pub above-push : (cs : List ℕ) (c i j : ℕ) → above (cs ++ c ∷ []) i j ≡ (above cs i j || (not (in_class cs i) && not (in_class cs j) && has c i && not (has c j)))
above-push [] c i j = first (has c i) (has c j)
  where
    first : (x y : Bool) → (not y && (x || false)) ≡ (false || (not false && not false && x && not y))
    first true true = refl
    first true false = refl
    first false true = refl
    first false false = refl
above-push (d ∷ cs) c i j =
    ap (λ t. not (has d j) && (has d i || t)) (above-push cs c i j)
    ∙ further (has d i) (has d j) (above cs i j) (in_class cs i) (in_class cs j) (has c i) (not (has c j))
  where
    further : (di dj a ii ij ci nj : Bool) → (not dj && (di || (a || (not ii && not ij && ci && nj)))) ≡ ((not dj && (di || a)) || (not (di || ii) && not (dj || ij) && ci && nj))
    further true true a ii ij ci nj = refl
    further true false a ii ij ci nj = refl
    further false true a true ij ci nj = refl
    further false true a false ij ci nj = refl
    further false false a ii ij ci nj = refl

-- ---- the join so far

pub record IsPartOfJoin (loops : ℕ) (r s : Relation) (classes : List ℕ) (rest : ℕ) : Type 0 where
  pub rest_is : (i : ℕ) → has rest i ≡ (has loops i && not (in_class classes i))
  pub inner : (i : ℕ) → IsTrue (in_class classes i) → IsTrue (has loops i)
  pub relation : (i j : ℕ) → IsTrue (has loops i) → IsTrue (has loops j) → (has rest i && has rest j) ≡ false → above classes i j ≡ joined r s i j
  pub room : length classes + count rest ≤ count loops

-- ---- steps of the join

pub part_start : (loops : ℕ) (r s : Relation) → IsPartOfJoin loops r s [] loops
part_start loops r s = record {
  rest_is = λ i. whole (has loops i);
  inner = λ i h. absurd (false≢true h);
  relation = λ i j li lj out. absurd (both_ways (has loops i && has loops j) out (and_from (has loops i) (has loops j) li lj));
  room = omega arith;
}
  where
    whole : (x : Bool) → x ≡ (x && not false)
    whole true = refl
    whole false = refl

-- the members of both outermost parts make the next class
pub record IsNextClass (r s : Relation) (rest first second class : ℕ) : Type 0 where
  pub left : AreOutermost r rest first
  pub right : AreOutermost s rest second
  pub both : (i : ℕ) → has class i ≡ (has first i && has second i)

class_within : (r s : Relation) (rest first second class : ℕ) → IsNextClass r s rest first second class → (i : ℕ) → IsTrue (has class i) → IsTrue (has rest i)
class_within r s rest first second class next i h =
    next.left.within i (and_parts (has first i) (has second i) (sym (next.both i) ∙ h)).0

-- the rest of the loops has no class yet
pub class_apart : (loops : ℕ) (r s : Relation) (classes : List ℕ) (rest first second class : ℕ) → IsPartOfJoin loops r s classes rest → IsNextClass r s rest first second class → (i : ℕ) → IsTrue (has class i) → in_class classes i ≡ false
class_apart loops r s classes rest first second class part next i h =
    not-true (in_class classes i) (and_parts (has loops i) (not (in_class classes i)) (sym (part.rest_is i) ∙ class_within r s rest first second class next i h)).1

pub class_size : (r s : Relation) (rest first second class left : ℕ) → IsNextClass r s rest first second class → IsIndexSet class → IsInhabited class → ((i : ℕ) → has left i ≡ (has rest i && not (has class i))) → count left < count rest
class_size r s rest first second class left next limit some minus =
    rest_smaller rest class left limit some (class_within r s rest first second class next) minus

-- without a next class there is a conflict
pub no_class : (loops : ℕ) (r s : Relation) (rest first second class : ℕ) → IsNextClass r s rest first second class → ((i : ℕ) → IsTrue (has rest i) → IsTrue (has loops i)) → IsInhabited rest → ((i : ℕ) → has class i ≡ false) → HasNoConflict loops (joined r s) → ⊥
no_class loops r s rest first second class next within some none quiet =
    next.left.inhabited some (λ i. elim (cases_Bool (has first i)) [
      | inl fi ↦ absurd (next.right.inhabited some (λ j. elim (cases_Bool (has second j)) [
        | inl sj ↦ absurd (clash i j fi sj)
        | inr x ↦ x
      ]))
      | inr x ↦ x
    ])
  where
    apart : (i : ℕ) → IsTrue (has first i) → IsTrue (has second i) → ⊥
    apart i fi si = both_ways (has class i) (none i) (next.both i ∙ and_from (has first i) (has second i) fi si)

    clash : (i j : ℕ) → IsTrue (has first i) → IsTrue (has second j) → ⊥
    clash i j fi sj =
        let ri = next.left.within i fi in
        let rj = next.right.within j sj in
        let fj : has first j ≡ false = elim (cases_Bool (has first j)) [ inl x ↦ absurd (apart j x sj) | inr x ↦ x ] in
        let si : has second i ≡ false = elim (cases_Bool (has second i)) [ inl x ↦ absurd (apart i fi x) | inr x ↦ x ] in
        quiet i j (within i ri) (within j rj)
        (or_left (r i j) (s i j) (next.left.upper i j fi rj ∙ ap (λ t. not t) fj))
        (or_right (r j i) (s j i) (next.right.upper j i sj ri ∙ ap (λ t. not t) si))

-- one class more
pub part_further : (loops : ℕ) (r s : Relation) (classes : List ℕ) (rest first second class left : ℕ) → IsPartOfJoin loops r s classes rest → IsNextClass r s rest first second class → IsIndexSet class → IsInhabited class → ((i : ℕ) → has left i ≡ (has rest i && not (has class i))) → IsPartOfJoin loops r s (classes ++ class ∷ []) left
part_further loops r s classes rest first second class left part next limit some minus = record {
  rest_is = λ i. minus i ∙ ap (λ t. t && not (has class i)) (part.rest_is i) ∙ fold (has loops i) (in_class classes i) (has class i) ∙ ap (λ t. has loops i && not t) (sym (in_class-push classes class i));
  inner = λ i h. inner i h;
  relation = λ i j li lj out. relation i j li lj out;
  room = let small = class_size r s rest first second class left next limit some minus in
      let room = part.room in
      simp length-append (omega (arith, small, room));
}
  where
    fold : (l c k : Bool) → ((l && not c) && not k) ≡ (l && not (c || k))
    fold false c k = refl
    fold true true k = refl
    fold true false k = refl

    in_loops : (i : ℕ) → IsTrue (has rest i) → IsTrue (has loops i)
    in_loops i h = (and_parts (has loops i) (not (in_class classes i)) (sym (part.rest_is i) ∙ h)).0

    inner : (i : ℕ) → IsTrue (in_class (classes ++ class ∷ []) i) → IsTrue (has loops i)
    inner i h = elim (or_cases (in_class classes i) (has class i) (sym (in_class-push classes class i) ∙ h)) [
      | inl x ↦ part.inner i x
      | inr y ↦ in_loops i (class_within r s rest first second class next i y)
    ]

    unplaced : (i : ℕ) → IsTrue (has rest i) → in_class classes i ≡ false
    unplaced i h = not-true (in_class classes i) (and_parts (has loops i) (not (in_class classes i)) (sym (part.rest_is i) ∙ h)).1

    placed : (i : ℕ) → IsTrue (has loops i) → has rest i ≡ false → IsTrue (in_class classes i)
    placed i li out = elim (cases_Bool (in_class classes i)) [
      | inl x ↦ x
      | inr x ↦ absurd (both_ways (has rest i) out (part.rest_is i ∙ and_from (has loops i) (not (in_class classes i)) li (not_from_false (in_class classes i) x)))
    ]

    -- a pair that was not in the rest
    old : (i j : ℕ) → IsTrue (has loops i) → IsTrue (has loops j) → (has rest i && has rest j) ≡ false → above (classes ++ class ∷ []) i j ≡ joined r s i j
    old i j li lj out = above-push classes class i j ∙ shorter (and_cases (has rest i) (has rest j) out) ∙ part.relation i j li lj out
      where
        shorter : (has rest i ≡ false) ⊎ (has rest j ≡ false) → (above classes i j || (not (in_class classes i) && not (in_class classes j) && has class i && not (has class j))) ≡ above classes i j
        shorter (inl x) = ap (λ t. above classes i j || (not t && not (in_class classes j) && has class i && not (has class j))) (placed i li x) ∙ or_false (above classes i j)
        shorter (inr x) = ap (λ t. above classes i j || (not (in_class classes i) && not t && has class i && not (has class j))) (placed j lj x) ∙ no_right (above classes i j) (in_class classes i) (has class i) (not (has class j))

    -- a pair of the rest, one of which is in the class
    new : (i j : ℕ) → IsTrue (has rest i) → IsTrue (has rest j) → (has left i && has left j) ≡ false → above (classes ++ class ∷ []) i j ≡ joined r s i j
    new i j ri rj out = above-push classes class i j ∙ alone ∙ elim (cases_Bool (has class i)) [
      | inl ci ↦
          let at = and_parts (has first i) (has second i) (sym (next.both i) ∙ ci) in
          ap (λ t. t && not (has class j)) ci ∙ ap (λ t. not t) (next.both j) ∙ split (has first j) (has second j)
          ∙ sym (ap (λ t. t || s i j) (next.left.upper i j at.0 rj) ∙ ap (λ t. not (has first j) || t) (next.right.upper i j at.1 rj))
      | inr fi ↦
          let li : IsTrue (has left i) = minus i ∙ and_from (has rest i) (not (has class i)) ri (not_from_false (has class i) fi) in
          let lj : has left j ≡ false = elim (and_cases (has left i) (has left j) out) [ inl x ↦ absurd (both_ways (has left i) x li) | inr x ↦ x ] in
          let cj : IsTrue (has class j) = elim (cases_Bool (has class j)) [
            | inl x ↦ x
            | inr x ↦ absurd (both_ways (has left j) lj (minus j ∙ and_from (has rest j) (not (has class j)) rj (not_from_false (has class j) x)))
          ] in
          let at = and_parts (has first j) (has second j) (sym (next.both j) ∙ cj) in
          ap (λ t. t && not (has class j)) fi ∙ sym (or_from (r i j) (s i j) (next.left.lower i j ri at.0) (next.right.lower i j ri at.1))
    ]
      where
        flat : above classes i j ≡ false
        flat = elim (cases_Bool (above classes i j)) [ inl x ↦ absurd (both_ways (in_class classes i) (unplaced i ri) (in_class-above classes i j x)) | inr x ↦ x ]

        alone : (above classes i j || (not (in_class classes i) && not (in_class classes j) && has class i && not (has class j))) ≡ (has class i && not (has class j))
        alone = ap (λ t. t || (not (in_class classes i) && not (in_class classes j) && has class i && not (has class j))) flat
            ∙ ap (λ t. not t && not (in_class classes j) && has class i && not (has class j)) (unplaced i ri)
            ∙ ap (λ t. not false && not t && has class i && not (has class j)) (unplaced j rj)

        split : (x y : Bool) → not (x && y) ≡ (not x || not y)
        split true y = refl
        split false y = refl

    relation : (i j : ℕ) → IsTrue (has loops i) → IsTrue (has loops j) → (has left i && has left j) ≡ false → above (classes ++ class ∷ []) i j ≡ joined r s i j
    relation i j li lj out = elim (cases_Bool (has rest i && has rest j)) [
      | inl both ↦ let at = and_parts (has rest i) (has rest j) both in new i j at.0 at.1 out
      | inr apart ↦ old i j li lj apart
    ]

-- all classes: nothing is left
pub join_end : (loops : ℕ) (r s : Relation) (classes : List ℕ) (rest : ℕ) → IsPartOfJoin loops r s classes rest → ((i : ℕ) → has rest i ≡ false) → IsJoinOf loops r s classes
join_end loops r s classes rest part none = record {
  placed = λ i. placed i;
  relation = λ i j li lj. part.relation i j li lj (ap (λ t. t && has rest j) (none i));
}
  where
    and_true : (x : Bool) → x ≡ (x && not false)
    and_true true = refl
    and_true false = refl

    placed : (i : ℕ) → in_class classes i ≡ has loops i
    placed i = elim (cases_Bool (in_class classes i)) [
      | inl x ↦ x ∙ sym (part.inner i x)
      | inr x ↦ x ∙ sym (and_true (has loops i) ∙ ap (λ t. has loops i && not t) (sym x) ∙ sym (part.rest_is i) ∙ none i)
    ]

-- a join has no conflict
pub join_quiet : (loops : ℕ) (r s : Relation) (classes : List ℕ) → IsJoinOf loops r s classes → HasNoConflict loops (joined r s)
join_quiet loops r s classes join i j li lj x y =
    above-asymmetric classes i j (join.relation i j li lj ∙ x) (join.relation j i lj li ∙ y)

-- what a test of emptiness says
pub inhabited_from : (s : ℕ) (empty : Bool) → IsTrue empty ↔ ((i : ℕ) → has s i ≡ false) → empty ≡ false → IsInhabited s
inhabited_from s empty says some none = both_ways empty some (says.1 none)

-- the rest is of the loops
pub rest_within : (loops : ℕ) (r s : Relation) (classes : List ℕ) (rest : ℕ) → IsPartOfJoin loops r s classes rest → (i : ℕ) → IsTrue (has rest i) → IsTrue (has loops i)
rest_within loops r s classes rest part i h = (and_parts (has loops i) (not (in_class classes i)) (sym (part.rest_is i) ∙ h)).0

-- a class of a nesting has no index of an earlier one
pub class_later : (before after : List ℕ) (c : ℕ) → IsNesting (before ++ c ∷ after) → (i : ℕ) → IsTrue (has c i) → in_class before i ≡ false
class_later [] after c nesting i h = refl
class_later (d ∷ before) after c nesting i h = or_from (has d i) (in_class before i) out (class_later before after c nesting.3 i h)
  where
    here : (before : List ℕ) → IsTrue (in_class (before ++ c ∷ after) i)
    here [] = or_left (has c i) (in_class after i) h
    here (d ∷ before) = or_right (has d i) (in_class (before ++ c ∷ after) i) (here before)

    out : has d i ≡ false
    out = elim (cases_Bool (has d i)) [
      | inl x ↦ absurd (both_ways (in_class (before ++ c ∷ after) i) (nesting.2 i x) (here before))
      | inr x ↦ x
    ]

pub take_item : (cs : List ℕ) (k x : ℕ) → k < length cs → x ≡ get_or cs k x → take (k + 1) cs ≡ take k cs ++ x ∷ []
take_item cs k x low is = take_more cs k x low ∙ ap (λ y. take k cs ++ y ∷ []) (sym is)

-- the class at a place has no index of an earlier one
pub class_before : (cs : List ℕ) (k x : ℕ) → k < length cs → x ≡ get_or cs k x → IsNesting cs → (i : ℕ) → IsTrue (has x i) → in_class (take k cs) i ≡ false
class_before cs k x low is nesting =
    class_later (take k cs) (drop (k + 1) cs) x (subst (λ ds. IsNesting ds) (sym (take-append-drop k cs) ∙ ap (λ t. take k cs ++ t) (drop-item cs k x low is)) nesting)
