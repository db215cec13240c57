-- Blocks that are run one after the other.
use Rattle.std.proofs.Common.{◌≡◌, ℕ, ◌+◌, ◌*◌, ◌<◌, ◌≤◌, ◌^◌, Bool, true, false, if◌then◌else◌, List, [], ◌∷◌, ◌++◌, map, length, drop, slice_get, slice_index, Some, None, append_assoc, append-nil, length-append, refl, sym, ap, ◌∙◌, subst, arith}
use Rattle.std.specs.List.{All}
use Rattle.std.specs.Int.{div_ceil}
use Rattle.std.proofs.lemmas.List.{length-map}
use Rattle.std.proofs.lemmas.List.Elements.{All-from_recursion}
use Rattle.std.proofs.lemmas.List.Sums.{fold_push}
use Rattle.tce_space.specs.Box.{product}
use Rattle.tce_space.specs.Space.{IndexSpace, IsSpace, extent_at, edge_at}
use Rattle.tce_space.specs.Tiling.{counts_along}
use Rattle.tce_space.proofs.Spaces.{index_limits}
use Rattle.tce_tree.specs.Value.{Assignment}
use Rattle.tce_tree.specs.WellFormed.{among}
use Rattle.tce_tree.proofs.NamedIndexes.{node_loops_declared}
use Rattle.tce_tree.proofs.Assignments.{all_positive}
use Rattle.tce_block.specs.Parts.{Part}
use Rattle.tce_block.proofs.Cover.{length-blocks}
use Rattle.tce_walk.specs.Parts.{after_part}
use Rattle.tce_walk.proofs.PartLaws.{parts_make_tails}
use Rattle.tce_code.specs.Execution.{Setting, exec}
use Rattle.tce_walk.specs.TailLaws.{AreLoops}
use Rattle.tce_walk.specs.Touches.{block_count}
use Rattle.tce_walk.specs.Machine.{tail_program, touches_of_tail, IsTailAt}
use Rattle.tce_walk.specs.declared.machine.Tail.{Tail}
use Rattle.tce_exec.specs.Loops.{AreLoops as AreLoopsWith}
use Rattle.tce_exec.specs.Workspace.{Workspace, setting_in, state_in}
use Rattle.tce_exec.specs.Prepared.{IsPrepared}
use Rattle.tce_exec.specs.Steps.{IsKept, IsChanged}
use Rattle.tce_exec.proofs.Following.{changed_as, changed_twice}
use Rattle.tce_exec.specs.Following.{kept_on, kept_own, continued_own}
use Rattle.tce_exec.proofs.Holding.{places_hold_words}
use Rattle.tce_exec.proofs.Reading.{each_of}
use Rattle.tce_exec.proofs.Workspaces.{kept_setting}
use Rattle.tce_exec.specs.Blocks.{loops_of, blocks_of, IsBlockOf}
use Rattle.tce_exec.specs.Along.{after_parts, IsAlong}
use Rattle.tce_walk.proofs.BandRuns.{mapped-same, none-left}
use Rattle.tce_walk.proofs.TermBlocks.{counts_are}

-- ---- two changes, one after the other

-- ---- the blocks

pub begun : (x : Workspace) (tail : Tail) (a : Assignment) → IsPrepared x → IsAlong x x tail a (blocks_of x.places.space tail)
begun x tail a is = record {
  ran = [];
  all = refl;
  kept = kept_own x;
  changed = record { prepared = is; state = mapped-same (state_in x); few = omega arith; continued = continued_own x };
}

pub at_end : (ran rest : List Part) (part : Part) → slice_get (ran ++ part ∷ rest) (length ran) ≡ Some part
at_end [] rest part = refl
at_end (p ∷ ran) rest part = at_end ran rest part

pub more : (ran rest all : List Part) (part : Part) → all ≡ ran ++ part ∷ rest → all ≡ (ran ++ part ∷ []) ++ rest
more ran rest all part e = e ∙ sym (append_assoc ran (part ∷ []) rest)

-- what comes first of those that are left
record IsFirst (left : List Part) (part : Part) : Type 0 where
  rest : List Part
  left_is : left ≡ part ∷ rest
  behind : drop 1 left ≡ rest

first_is : (left : List Part) (part : Part) → slice_get left 0 ≡ Some part → IsFirst left part
first_is [] part e = absurd (cc)
first_is (p ∷ rest) part e = let same : p ≡ part = cc in record { rest = rest; left_is = ap (λ q. q ∷ rest) same; behind = refl }

-- what an answer tells of the blocks that are left
pub first_told : (told : Bool) (part : Part) (left : List Part) → (if told then Some part else None) ≡ slice_get left 0 → told ≡ true → slice_get left 0 ≡ Some part
first_told told part left e is = sym e ∙ ap (λ b. if b then Some part else None) is

pub none_told : (told : Bool) (part : Part) (left : List Part) → (if told then Some part else None) ≡ slice_get left 0 → told ≡ false → slice_get left 0 ≡ None
none_told told part left e is = sym e ∙ ap (λ b. if b then Some part else None) is

-- fewer are left behind the first one
pub one_left : (left : List Part) (part : Part) → slice_get left 0 ≡ Some part → length (drop 1 left) < length left
one_left [] part is = absurd (cc)
one_left (p ∷ rest) part is = omega arith

pub is_block : (x y : Workspace) (tail : Tail) (a : Assignment) (left : List Part) (part : Part) → IsAlong x y tail a left → slice_get left 0 ≡ Some part → IsBlockOf x.places.space tail part
is_block x y tail a left part along e =
    let first = first_is left part e in (
      length along.ran,
      ap (λ l. slice_get l (length along.ran)) (along.all ∙ ap (λ l. along.ran ++ l) first.left_is) ∙ at_end along.ran first.rest part,
    )

blocks_counted : (space : IndexSpace) (tail : Tail) → length (blocks_of space tail) ≡ block_count space (loops_of tail)
blocks_counted space tail =
    length-blocks (map (extent_at space) (loops_of tail)) (map (edge_at space) (loops_of tail)) ∙ counts_are space (loops_of tail)

pub few_left : (x y : Workspace) (tail : Tail) (a : Assignment) (left : List Part) (part : Part) → IsAlong x y tail a left → slice_get left 0 ≡ Some part
    → x.cache.touches + touches_of_tail x.places.space tail ≤ 2 ^ 100 → y.cache.touches + 3 ≤ 2 ^ 100
few_left x y tail a left part along e few =
    let first = first_is left part e in
    let all : length (blocks_of x.places.space tail) ≡ length along.ran + length (part ∷ first.rest) =
    ap length (along.all ∙ ap (λ l. along.ran ++ l) first.left_is) ∙ length-append along.ran (part ∷ first.rest) in
    let next : length (part ∷ first.rest) ≡ length first.rest + 1 = omega arith in
    omega (arith, few, all, next, blocks_counted x.places.space tail, along.changed.few)

pub tail_now : (x y : Workspace) (tail : Tail) (a : Assignment) → IsPrepared x → IsKept x y → IsTailAt (setting_in x) tail a → IsTailAt (setting_in y) tail a
tail_now x y tail a is kept h = subst (λ s. IsTailAt s tail a) (sym (kept_setting x y is.cache kept)) h

pub stepped : (x y z : Workspace) (tail : Tail) (a : Assignment) (left : List Part) (part : Part) → IsPrepared x → IsAlong x y tail a left → slice_get left 0 ≡ Some part
    → IsKept y z → IsChanged (after_part (setting_in y) tail a part) 3 y z → IsAlong x z tail a (drop 1 left)
stepped x y z tail a left part is along e kept changed =
    let first = first_is left part e in
    let s : Setting = setting_in x in
    record {
      ran = along.ran ++ part ∷ [];
      all = more along.ran first.rest (blocks_of x.places.space tail) part (along.all ∙ ap (λ l. along.ran ++ l) first.left_is) ∙ ap (λ l. (along.ran ++ part ∷ []) ++ l) (sym first.behind);
      kept = kept_on x y z along.kept kept;
      changed =
          changed_as (λ state. after_part s tail a part (after_parts s tail a along.ran state)) (after_parts s tail a (along.ran ++ part ∷ [])) (3 * length (along.ran ++ part ∷ [])) x z
          (λ state told. sym (fold_push (λ before p. after_part s tail a p before) state along.ran part))
          (changed_twice (3 * length along.ran) 3 (3 * length (along.ran ++ part ∷ [])) (after_parts s tail a along.ran) (after_part s tail a part) x y z
          (counted along.ran part) along.kept along.changed
          (subst (λ t. IsChanged (after_part t tail a part) 3 y z) (kept_setting x y is.cache along.kept) changed));
    }
  where
    counted : (ran : List Part) (part : Part) → 3 * length ran + 3 ≤ 3 * length (ran ++ part ∷ [])
    counted ran part = let l : length (ran ++ part ∷ []) ≡ length ran + 1 = length-append ran (part ∷ []) in omega (arith, l)

-- ---- the whole tail

pub loop_declared : (x : Workspace) (tail : Tail) (a : Assignment) → IsSpace x.places.space → IsPrepared x → IsTailAt (setting_in x) tail a
    → (i : ℕ) → among (loops_of tail) i ≡ true → i < length x.places.space.indexes
loop_declared x tail a space is h i m =
    node_loops_declared x.places.space x.places.tree tail.node h.known space.index_limit is.measured.declared i (h.loops i m)

pub loops_declared : (x : Workspace) (tail : Tail) (a : Assignment) → IsSpace x.places.space → IsPrepared x → IsTailAt (setting_in x) tail a
    → All (λ i. i < length x.places.space.indexes) (loops_of tail)
loops_declared x tail a space is h =
    All-from_recursion (λ i. i < length x.places.space.indexes) (loops_of tail) (each_of (λ i. i < length x.places.space.indexes) (loops_of tail) (loop_declared x tail a space is h))

-- the extents and edges of declared indexes are above 0
pub record HasTurns (space : IndexSpace) : Type 0 where
  pub extents : (i : ℕ) → i < length space.indexes → 0 < extent_at space i
  pub edges : (i : ℕ) → i < length space.indexes → 0 < edge_at space i

pub ended : (x y : Workspace) (tail : Tail) (a : Assignment) (left : List Part) → IsSpace x.places.space → HasTurns x.places.space → IsPrepared x → ((k : ℕ) → slice_index x.words k < 2 ^ 64)
    → IsTailAt (setting_in x) tail a → IsAlong x y tail a left → slice_get left 0 ≡ None
    → IsChanged (λ state. exec (setting_in x) (tail_program x.places.tree tail) state a) (touches_of_tail x.places.space tail) x y
ended x y tail a left space turns is words at along e =
    let s : Setting = setting_in x in
    let all : blocks_of x.places.space tail ≡ along.ran = along.all ∙ ap (λ l. along.ran ++ l) (none-left left e) ∙ append-nil along.ran in
    let count : 3 * length along.ran ≡ touches_of_tail x.places.space tail = omega (arith, ap length all, blocks_counted x.places.space tail) in
    subst (λ n. IsChanged (λ state. exec s (tail_program x.places.tree tail) state a) n x y) count
    (changed_as (after_parts s tail a along.ran) (λ state. exec s (tail_program x.places.tree tail) state a) (3 * length along.ran) x y
    (λ state told.
    ap (λ l. after_parts s tail a l state) (sym all)
    ∙ parts_make_tails s tail a (edge_at x.places.space) state at loops
    (all_positive (edge_at x.places.space) (loops_of tail) (λ i m. turns.edges i (loop_declared x tail a space is at i m)))
    (places_hold_words x is words state told))
    along.changed)
  where
    loops : AreLoops (setting_in x) (loops_of tail)
    loops = record { distinct = at.distinct; some = λ i m. turns.extents i (loop_declared x tail a space is at i m) }

pub has_turns : (space : IndexSpace) → IsSpace space → HasTurns space
has_turns space is = record { extents = λ i l. (index_limits space i is l).some; edges = λ i l. (index_limits space i is l).edge_some }

-- ---- blocks as long as the edges

edges_as_many : (space : IndexSpace) (loops : List ℕ) → length (map (edge_at space) loops) ≡ length loops
edges_as_many space loops = length-map loops (edge_at space)

pub edge_loops : (x : Workspace) (tail : Tail) (a : Assignment) → IsSpace x.places.space → IsPrepared x → IsTailAt (setting_in x) tail a
    → AreLoopsWith (loops_of tail) (map (edge_at x.places.space) (loops_of tail))
edge_loops x tail a space is at = record {
  distinct = at.distinct;
  below = λ i m. omega (arith, loop_declared x tail a space is at i m, space.index_limit);
  as_many = edges_as_many x.places.space (loops_of tail);
  some = all_positive (edge_at x.places.space) (loops_of tail) (λ i m. (has_turns x.places.space space).edges i (loop_declared x tail a space is at i m));
}
