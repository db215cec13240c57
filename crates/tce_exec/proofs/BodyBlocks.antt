-- A body in one block of the loops round it.
use Rattle.std.proofs.Common.{◌≡◌, ℕ, zero, suc, ◌+◌, ◌*◌, ◌^◌, ◌<◌, ◌≤◌, eqb, Bool, true, false, if◌then◌else◌, List, [], ◌∷◌, length, map, get_or, slice_index, refl, sym, ap, ap₂, ◌∙◌, subst, inl, inr, arith}
use mathlib.Core.Path.{fun_ext}
use Rattle.std.specs.List.{All}
use Rattle.std.proofs.Math.Nat.{le-mul_of_pos_right}
use Rattle.std.proofs.lemmas.Bool.{false≢true, cases_Bool, cases_eq, eq-eqb, ne_eqb, or_left, or_right}
use Rattle.std.proofs.lemmas.List.Elements.{All-from_recursion}
use Rattle.tce_space.specs.Box.{product}
use Rattle.tce_space.specs.IndexSet.{has}
use Rattle.tce_space.specs.Space.{IndexSpace, IsSpace, extent_at, edge_at}
use Rattle.tce_space.proofs.Spaces.{index_limits}
use Rattle.tce_cache.specs.Cache.{State as CacheState}
use Rattle.tce_tree.specs.ContractionTree.{node_loops}
use Rattle.tce_tree.specs.Value.{Assignment, assignment, with_number}
use Rattle.tce_tree.specs.WellFormed.{among, is_distinct}
use Rattle.tce_tree.proofs.Assignments.{with-same, with-other, all_positive}
use Rattle.tce_tree.proofs.Lists.{distinct_first, distinct_later}
use Rattle.tce_block.specs.Parts.{Part}
use Rattle.tce_code.specs.Execution.{Setting, State, exec, repeated}
use Rattle.tce_code.specs.Program.{Program, program_of}
use Rattle.tce_code.specs.declared.op.Op.{Op}
use Rattle.tce_walk.specs.Bodies.{IsOperationIn, IsBodyAt, touches_of_body}
use Rattle.tce_walk.specs.PartRuns.{exec_along, exec_part}
use Rattle.tce_exec.specs.Bodies.{AreRanges, IsBodyIn, IsOperationAt, touches_along}
use Rattle.tce_exec.specs.Links.{IsInBlock, IsBegun, turns_in}
use Rattle.tce_exec.specs.Steps.{IsKept, IsRead, IsChanged}
use Rattle.tce_exec.specs.TilesOfBlocks.{AreTurnsOfBlock, StayBetweenEdges}
use Rattle.tce_exec.specs.Turns.{IsTurn, turns_of}
use Rattle.tce_exec.specs.Workspace.{Workspace, setting_in}
use Rattle.tce_exec.specs.Prepared.{IsPrepared}
use Rattle.tce_exec.specs.declared.body.BodyBlock.{BodyBlock}
use Rattle.tce_exec.proofs.Bodies.{body_in, ranges_long}
use Rattle.tce_exec.proofs.Edges.{blocks_stay_in_tiles}
use Rattle.tce_exec.proofs.Following.{change_on, changed_as}
use Rattle.tce_exec.proofs.Reading.{each_of}
use Rattle.tce_exec.proofs.Workspaces.{kept_setting}

-- ---- the numbers of loops

pub along_same : (s : Setting) (body : Program) (order from len : List ℕ) (a b : Assignment) → ((i : ℕ) → among order i ≡ false → a i ≡ b i) → (state : State)
    → exec_along s body order from len state a ≡ exec_along s body order from len state b
along_same s body [] from len a b h state = ap (λ c. exec s body state c) (fun_ext (λ i. h i refl))
along_same s body (i ∷ order) [] len a b h state = refl
along_same s body (i ∷ order) (f ∷ from) [] a b h state = refl
along_same s body (i ∷ order) (f ∷ from) (n ∷ len) a b h state =
    ap (λ turn. repeated n turn state) (fun_ext (λ x. fun_ext (λ before.
    along_same s body order from len (with_number a i (f + x)) (with_number b i (f + x)) (λ j o. elim (cases_eq i j) [
      | inl e ↦ ap (with_number a i (f + x)) (sym e) ∙ with-same a i (f + x) ∙ sym (ap (with_number b i (f + x)) (sym e) ∙ with-same b i (f + x))
      | inr ne ↦ with-other a i (f + x) j (λ q. ne (sym q)) ∙ h j (rw (ne_eqb i j ne) o) ∙ sym (with-other b i (f + x) j (λ q. ne (sym q)))
    ]) before)))

pub member_of : (loops : List ℕ) (d : ℕ) → d < length loops → among loops (get_or loops d 0) ≡ true
member_of [] d low = absurd (omega (arith, low))
member_of (j ∷ js) zero low = or_left (eqb j j) (among js j) (eq-eqb j j refl)
member_of (j ∷ js) (suc d) low = or_right (eqb j (get_or js d 0)) (among js (get_or js d 0)) (member_of js d (omega (arith, low)))

assigned : (loops xs : List ℕ) (d : ℕ) → is_distinct loops ≡ true → length xs ≡ length loops → d < length loops → assignment loops xs (get_or loops d 0) ≡ get_or xs d 0
assigned [] xs d distinct long low = absurd (omega (arith, low))
assigned (j ∷ js) [] d distinct long low = absurd (omega (arith, long))
assigned (j ∷ js) (x ∷ xs) zero distinct long low = ap (λ b. if b then x else assignment js xs j) (eq-eqb j j refl)
assigned (j ∷ js) (x ∷ xs) (suc d) distinct long low =
    let i : ℕ = get_or js d 0 in
    let other : i ≡ j → ⊥ = λ same. false≢true (sym (distinct_first j js distinct) ∙ ap (among js) (sym same) ∙ member_of js d (omega (arith, low))) in
    ap (λ b. if b then x else assignment js xs i) (ne_eqb i j other) ∙ assigned js xs d (distinct_later j js distinct) (omega (arith, long)) (omega (arith, low))

positive : (space : IndexSpace) (loops from len : List ℕ) → AreRanges space loops from len → 0 < product len
positive space [] [] [] h = omega arith
positive space [] [] (n ∷ ns) h = absurd h
positive space [] (f ∷ fs) ns h = absurd h
positive space (i ∷ is) [] ns h = absurd h
positive space (i ∷ is) (f ∷ fs) [] h = absurd h
positive space (i ∷ is) (f ∷ fs) (n ∷ ns) h =
    let rest = positive space is fs ns h.3 in
    let more : n ≤ n * product ns = le-mul_of_pos_right n rest in
    let some : 0 < n = h.1 in
    omega (arith, more, some)

-- ---- a body at the first turn

pub from_long : (s : Setting) (space : IndexSpace) (loops : List ℕ) (ops : List Op) (part : Part) (a : Assignment) → IsSpace space → IsBodyAt space s loops ops part a → length part.from ≡ length loops
from_long s space loops ops part a is h = (ranges_long space loops part.from part.len (body_in s space loops ops part a is h).ranges).0

begun_at : (s : Setting) (space : IndexSpace) (b : BodyBlock) (part : Part) (a : Assignment) (first : List ℕ) → IsSpace space → s.elements.extent ≡ extent_at space
    → IsBodyAt space s b.loops.now b.ops.now part a → b.from.now ≡ part.from → b.len.now ≡ part.len → slice_index first ≡ (turns_of b.loops.now a part).first
    → IsBegun s space b first
begun_at s space b part a first is extents h from_is len_is first_is = record {
  body = record {
    ranges = subst (λ f. AreRanges space loops f b.len.now) (sym from_is) (subst (AreRanges space loops part.from) (sym len_is) whole.ranges);
    each = λ k d low. let at = h.each k d low in record {
      node = at.node;
      known = at.known;
      alone = at.alone;
      inside = λ i m. elim (cases_Bool (among loops i)) [
        | inl t ↦ inl t
        | inr o ↦ elim (at.inside i m) [
          | inl t ↦ absurd (false≢true (sym o ∙ t))
          | inr lt ↦ inr (let same = other i o in omega (arith, same, lt))
        ]
      ];
    };
  };
  block = record {
    turn = subst (λ f. IsTurn (record { order = loops; first = f; count = assignment loops b.len.now }) f) (sym first_is)
        (subst (λ l. IsTurn (record { order = loops; first = (turns_of loops a part).first; count = assignment loops l }) (turns_of loops a part).first) (sym len_is) turns.first);
    between = subst (λ f. StayBetweenEdges (record { order = loops; first = f; count = assignment loops b.len.now }) (edge_at space)) (sym first_is)
        (subst (λ l. StayBetweenEdges (record { order = loops; first = (turns_of loops a part).first; count = assignment loops l }) (edge_at space)) (sym len_is) turns.between);
    distinct = h.distinct;
    member = λ d low. member_of loops d low;
    from_is = λ d low.
        ap (λ f. f (get_or loops d 0)) first_is
        ∙ ap (λ t. if t then assignment loops part.from (get_or loops d 0) else a (get_or loops d 0)) (member_of loops d low)
        ∙ assigned loops part.from d h.distinct long.0 low
        ∙ ap (λ f. get_or f d 0) (sym from_is);
    len_is = λ d low. ap (λ l. assignment loops l (get_or loops d 0)) len_is ∙ assigned loops part.len d h.distinct long.1 low ∙ ap (λ l. get_or l d 0) (sym len_is);
  };
  inside = λ k d low. let at = h.each k d low in record {
    node = at.node;
    alone = at.alone;
    at = record {
      known = at.known;
      inside = λ i m. let low_at = turns.inside (node_loops s.tree at.node) (λ j n o. elim (at.inside j n) [
        | inl t ↦ absurd (false≢true (sym o ∙ t))
        | inr lt ↦ (let e = ap (λ f. f j) extents in omega (arith, lt, e))
      ]) (turns_of loops a part).first turns.first i m in let e = ap (λ f. f i) extents in let q = ap (λ f. f i) first_is in omega (arith, low_at, e, q);
    };
  };
  some = positive space loops b.from.now b.len.now (subst (λ f. AreRanges space loops f b.len.now) (sym from_is) (subst (AreRanges space loops part.from) (sym len_is) whole.ranges));
  few = h.few;
  known = All-from_recursion (λ i. i < 24) loops (each_of (λ i. i < 24) loops (λ i m. let low = h.declared i m in let limit = is.index_limit in omega (arith, low, limit)));
}
  where
    loops : List ℕ
    loops = b.loops.now

    whole : IsBodyIn s space loops part.from part.len b.ops.now a
    whole = body_in s space loops b.ops.now part a is h

    long : (length part.from ≡ length loops) × (length part.len ≡ length loops)
    long = ranges_long space loops part.from part.len whole.ranges

    turns : AreTurnsOfBlock (extent_at space) (edge_at space) loops a part
    turns = blocks_stay_in_tiles (extent_at space) (edge_at space) loops a h.number part
        (all_positive (edge_at space) loops (λ i m. (index_limits space i is (h.declared i m)).edge_some)) h.block

    other : (i : ℕ) → among loops i ≡ false → slice_index first i ≡ a i
    other i o = ap (λ f. f i) first_is ∙ ap (λ t. if t then assignment loops part.from i else a i) o

first_of_turns : (loops : List ℕ) (a c : Assignment) (part : Part) → c ≡ a → (turns_of loops c part).first ≡ (turns_of loops a part).first
first_of_turns loops a c part e = ap (λ d. (turns_of loops d part).first) e

pub begun : (s : Setting) (space : IndexSpace) (b : BodyBlock) (part : Part) (a mid : Assignment) (from first : List ℕ) → IsSpace space → s.elements.extent ≡ extent_at space
    → IsBodyAt space s b.loops.now b.ops.now part a → b.from.now ≡ part.from → b.len.now ≡ part.len → from ≡ part.from → mid ≡ a
    → slice_index first ≡ (λ i. if among b.loops.now i then assignment b.loops.now from i else mid i) → IsBegun s space b first
begun s space b part a mid from first is extents h from_is len_is from_same mid_is first_is =
    begun_at s space b part a first is extents h from_is len_is
    (first_is ∙ ap (λ f. let t : Assignment = λ i. if among b.loops.now i then assignment b.loops.now f i else mid i in t) from_same ∙ first_of_turns b.loops.now a mid part mid_is)

-- what is left there is what the body leaves at the numbers of the loops round it
pub as_body : (x z : Workspace) (b : BodyBlock) (part : Part) (a mid : Assignment) (from first : List ℕ) → b.from.now ≡ part.from → b.len.now ≡ part.len → mid ≡ a
    → slice_index first ≡ (λ i. if among b.loops.now i then assignment b.loops.now from i else mid i)
    → IsChanged (λ state. exec_along (setting_in x) (program_of b.ops.now) b.loops.now b.from.now b.len.now state (slice_index first)) (touches_along b.len.now b.ops.now) x z
    → IsChanged (λ state. exec_part (setting_in x) (program_of b.ops.now) b.loops.now part state a) (touches_of_body b.ops.now part) x z
as_body x z b part a mid from first from_is len_is mid_is first_is h =
    subst (λ l. IsChanged (λ state. exec_along (setting_in x) (program_of b.ops.now) b.loops.now part.from l state a) (touches_along l b.ops.now) x z) len_is
    (subst (λ f. IsChanged (λ state. exec_along (setting_in x) (program_of b.ops.now) b.loops.now f b.len.now state a) (touches_along b.len.now b.ops.now) x z) from_is
    (changed_as (λ state. exec_along (setting_in x) (program_of b.ops.now) b.loops.now b.from.now b.len.now state (slice_index first))
    (λ state. exec_along (setting_in x) (program_of b.ops.now) b.loops.now b.from.now b.len.now state a) (touches_along b.len.now b.ops.now) x z
    (λ state told. along_same (setting_in x) (program_of b.ops.now) b.loops.now b.from.now b.len.now (slice_index first) a
    (λ i o. ap (λ f. f i) first_is ∙ ap (λ t. if t then assignment b.loops.now from i else mid i) o ∙ ap (λ f. f i) mid_is) state) h))

-- ---- windows that are found first

pub held_done : (x y z : Workspace) (b : BodyBlock) (first : Assignment) (t : ℕ) → IsPrepared x → IsKept x y → IsRead (3 * length b.ops.now) x y → 0 < product b.len.now
    → IsChanged (λ state. exec_along (setting_in y) (program_of b.ops.now) b.loops.now b.from.now b.len.now state first) t y z → z.cache ≡ y.cache
    → IsChanged (λ state. exec_along (setting_in x) (program_of b.ops.now) b.loops.now b.from.now b.len.now state first) (touches_along b.len.now b.ops.now) x z
held_done x y z b first t is kept read some h same =
    let f : Setting → State → State = λ s state. exec_along s (program_of b.ops.now) b.loops.now b.from.now b.len.now state first in
    let now : IsChanged (f (setting_in y)) 0 y z = record { prepared = h.prepared; state = h.state; few = omega (arith, ap (λ (c : CacheState). c.touches) same); continued = h.continued } in
    let more : 3 * length b.ops.now ≤ 3 * length b.ops.now * product b.len.now = le-mul_of_pos_right (3 * length b.ops.now) some in
    change_on (3 * length b.ops.now) 0 (touches_along b.len.now b.ops.now) (f (setting_in x)) x y z (omega (arith, more, turned (product b.len.now) (3 * length b.ops.now))) kept read
    (subst (λ s. IsChanged (f s) 0 y z) (kept_setting x y is.cache kept) now)
  where
    turned : (p q : ℕ) → q * p ≡ p * q
    turned p q = omega arith

pub held_few : (t : ℕ) (b : BodyBlock) → 0 < product b.len.now → t + touches_along b.len.now b.ops.now ≤ 2 ^ 100 → t + 3 * length b.ops.now ≤ 2 ^ 100
held_few t b some few =
    let more : 3 * length b.ops.now ≤ 3 * length b.ops.now * product b.len.now = le-mul_of_pos_right (3 * length b.ops.now) some in
    omega (arith, more, few, turned (product b.len.now) (3 * length b.ops.now))
  where
    turned : (p q : ℕ) → q * p ≡ p * q
    turned p q = omega arith
