-- The turns of one block of a term's loops, with those of its combination round them.
use Rattle.std.proofs.Common.{◌≡◌, ℕ, ◌+◌, ◌%◌, ◌<◌, true, if◌then◌else◌, List, [], ◌∷◌, ◌++◌, map, length, All, refl, sym, ap, ◌∙◌, inl, inr, arith}
use mathlib.Core.Path.{fun_ext}
use Rattle.std.proofs.lemmas.Bool.{cases_Bool, cases_eq, ne_eqb, false≢true}
use Rattle.std.proofs.lemmas.List.{length-map}
use Rattle.std.proofs.lemmas.List.Elements.{All-from_recursion}
use Rattle.tce_space.specs.Space.{extent_at, edge_at}
use Rattle.tce_space.proofs.Spaces.{index_limits}
use Rattle.tce_tree.specs.Value.{Assignment, assignment}
use Rattle.tce_tree.specs.WellFormed.{among, is_distinct}
use Rattle.tce_tree.proofs.Lists.{among_first, among_later, distinct_first, distinct_later}
use Rattle.tce_tree.proofs.Assignments.{all_positive}
use Rattle.tce_block.specs.Parts.{Part}
use Rattle.tce_block.specs.Laws.{AreParts}
use Rattle.tce_block.proofs.BoxSums.{assignment-absent}
use Rattle.tce_walk.proofs.TailParts.{among-behind}
use Rattle.tce_exec.specs.NodeStates.{Places}
use Rattle.tce_exec.specs.Loops.{AreLoops}
use Rattle.tce_exec.specs.Turns.{IsTurn, turns_of}
use Rattle.tce_exec.specs.TilesOfBlocks.{AreTurnsOfBlock}
use Rattle.tce_exec.specs.TermParts.{joined_part}
use Rattle.tce_exec.specs.TermBlocks.{around, outer_part, IsBlockIn, IsTermRun}
use Rattle.tce_exec.specs.declared.term_block.TermRun.{TermRun}
use Rattle.tce_exec.proofs.Asking.{as_many}
use Rattle.tce_exec.proofs.Edges.{parts_stay_in_tiles, block_parts, block_begins_at, blocks_stay_in_tiles, loop_of}
use Rattle.tce_exec.proofs.Reading.{each_of}
use Rattle.tce_exec.proofs.TermSums.{AreDisjoint, assignment_joined, joined_outer}

-- ---- lists of loops, one behind the other

pub among_outer : (outer inner : List ℕ) (i : ℕ) → among outer i ≡ true → among (outer ++ inner) i ≡ true
among_outer [] inner i m = absurd (false≢true m)
among_outer (j ∷ outer) inner i m =
    elim (cases_eq j i) [
      | inl e ↦ ap (among (j ∷ (outer ++ inner))) (sym e) ∙ among_first j (outer ++ inner)
      | inr n ↦ among_later j (outer ++ inner) i (among_outer outer inner i (rw (ne_eqb j i n) at m))
    ]

pub distinct_apart : (outer inner : List ℕ) → is_distinct (outer ++ inner) ≡ true → AreDisjoint outer inner
distinct_apart [] inner d i m = absurd (false≢true m)
distinct_apart (j ∷ outer) inner d i m =
    elim (cases_eq j i) [
      | inl e ↦
          elim (cases_Bool (among inner i)) [
            | inl t ↦ absurd (false≢true (sym (distinct_first j (outer ++ inner) d) ∙ among-behind outer inner j (ap (among inner) e ∙ t)))
            | inr f ↦ f
          ]
      | inr n ↦ distinct_apart outer inner (distinct_later j (outer ++ inner) d) i (rw (ne_eqb j i n) at m)
    ]

pub distinct_front : (outer inner : List ℕ) → is_distinct (outer ++ inner) ≡ true → is_distinct outer ≡ true
distinct_front [] inner d = refl
distinct_front (j ∷ outer) inner d =
    elim (cases_Bool (among outer j)) [
      | inl t ↦ absurd (false≢true (sym (distinct_first j (outer ++ inner) d) ∙ among_outer outer inner j t))
      | inr f ↦ rw f (distinct_front outer inner (distinct_later j (outer ++ inner) d))
    ]

parts_joined : (extent edge : ℕ → ℕ) (outer inner fs ls gs ks : List ℕ) → AreParts (map extent outer) (map edge outer) fs ls → AreParts (map extent inner) (map edge inner) gs ks
    → AreParts (map extent (outer ++ inner)) (map edge (outer ++ inner)) (fs ++ gs) (ls ++ ks)
parts_joined extent edge [] inner [] [] gs ks h k = k
parts_joined extent edge [] inner [] (l ∷ ls) gs ks h k = absurd h
parts_joined extent edge [] inner (f ∷ fs) ls gs ks h k = absurd h
parts_joined extent edge (j ∷ outer) inner [] ls gs ks h k = absurd h
parts_joined extent edge (j ∷ outer) inner (f ∷ fs) [] gs ks h k = absurd h
parts_joined extent edge (j ∷ outer) inner (f ∷ fs) (l ∷ ls) gs ks h k = (h.0, h.1, h.2, parts_joined extent edge outer inner fs ls gs ks h.3 k)

-- ---- the parts of a block

abbrev pub all_loops : TermRun → List ℕ
all_loops r = r.order.now ++ r.inner.now

module _ (p : Places) (r : TermRun) (h : IsTermRun p r) where
  pub run_disjoint : AreDisjoint r.order.now r.inner.now
  run_disjoint = distinct_apart r.order.now r.inner.now h.distinct

  pub outer_edges : (i : ℕ) → among r.order.now i ≡ true → 0 < edge_at p.space i
  outer_edges i m = (index_limits p.space i h.space (h.declared i (among_outer r.order.now r.inner.now i m))).edge_some

  pub inner_edges : (i : ℕ) → among r.inner.now i ≡ true → 0 < edge_at p.space i
  inner_edges i m = (index_limits p.space i h.space (h.declared i (among-behind r.order.now r.inner.now i m))).edge_some

  pub inner_extents : (i : ℕ) → among r.inner.now i ≡ true → 0 < extent_at p.space i
  inner_extents i m = (index_limits p.space i h.space (h.declared i (among-behind r.order.now r.inner.now i m))).some

  outer_parts : AreParts (map (extent_at p.space) r.order.now) (map (edge_at p.space) r.order.now) (outer_part r).from (outer_part r).len
  outer_parts = block_parts (extent_at p.space) (edge_at p.space) r.order.now h.block.0 (outer_part r) (all_positive (edge_at p.space) r.order.now outer_edges) h.block.1

  pub outer_turns : (a : Assignment) → AreTurnsOfBlock (extent_at p.space) (edge_at p.space) r.order.now a (outer_part r)
  outer_turns a = blocks_stay_in_tiles (extent_at p.space) (edge_at p.space) r.order.now a h.block.0 (outer_part r) (all_positive (edge_at p.space) r.order.now outer_edges) h.block.1

  pub outer_from : length (outer_part r).from ≡ length r.order.now
  outer_from = as_many (extent_at p.space) (edge_at p.space) r.order.now (outer_part r).from (outer_part r).len outer_parts

  pub outer_loops : AreLoops r.order.now (outer_part r).len
  outer_loops = record {
    distinct = distinct_front r.order.now r.inner.now h.distinct;
    below = λ i m. let low : i < length p.space.indexes = h.declared i (among_outer r.order.now r.inner.now i m) in omega (arith, low, h.space.index_limit);
    as_many = (outer_turns (around r)).as_many;
    some = (outer_turns (around r)).some;
  }

  -- blocks as long as the edges
  pub outer_edge_loops : AreLoops r.order.now (map (edge_at p.space) r.order.now)
  outer_edge_loops = record { distinct = outer_loops.distinct; below = outer_loops.below; as_many = length-map r.order.now (edge_at p.space); some = all_positive (edge_at p.space) r.order.now outer_edges }

  pub all_edge_loops : AreLoops (all_loops r) (map (edge_at p.space) (all_loops r))
  all_edge_loops = record {
    distinct = h.distinct;
    below = λ i m. let low : i < length p.space.indexes = h.declared i m in omega (arith, low, h.space.index_limit);
    as_many = length-map (all_loops r) (edge_at p.space);
    some = all_positive (edge_at p.space) (all_loops r) (λ i m. (index_limits p.space i h.space (h.declared i m)).edge_some);
  }

  pub all_declared : All (λ i. i < length p.space.indexes) (all_loops r)
  all_declared = All-from_recursion (λ i. i < length p.space.indexes) (all_loops r) (each_of (λ i. i < length p.space.indexes) (all_loops r) h.declared)

  pub outer_declared : All (λ i. i < length p.space.indexes) r.order.now
  outer_declared = All-from_recursion (λ i. i < length p.space.indexes) r.order.now (each_of (λ i. i < length p.space.indexes) r.order.now (λ i m. h.declared i (among_outer r.order.now r.inner.now i m)))

  pub inner_declared : All (λ i. i < length p.space.indexes) r.inner.now
  inner_declared = All-from_recursion (λ i. i < length p.space.indexes) r.inner.now (each_of (λ i. i < length p.space.indexes) r.inner.now (λ i m. h.declared i (among-behind r.order.now r.inner.now i m)))

  -- a number of a turn of the outer loops
  pub outer_inside : (a b : Assignment) → IsTurn (turns_of r.order.now a (outer_part r)) b → (i : ℕ) → among r.order.now i ≡ true → b i < extent_at p.space i
  outer_inside a b turn i m =
      let loop = loop_of (extent_at p.space) (edge_at p.space) r.order.now (outer_part r).from (outer_part r).len i outer_parts m in
      let from : (turns_of r.order.now a (outer_part r)).first i ≡ assignment r.order.now (outer_part r).from i = ap (λ t. if t then assignment r.order.now (outer_part r).from i else a i) m in
      let high : b i < (turns_of r.order.now a (outer_part r)).first i + assignment r.order.now (outer_part r).len i = (turn.loops i m).1 in
      omega (arith, loop.inside, from, high)

  module _ (q : Part) (block : IsBlockIn p.space r.inner.now q) where
    inner_parts : AreParts (map (extent_at p.space) r.inner.now) (map (edge_at p.space) r.inner.now) q.from q.len
    inner_parts = block_parts (extent_at p.space) (edge_at p.space) r.inner.now block.0 q (all_positive (edge_at p.space) r.inner.now inner_edges) block.1

    pub inner_from : length q.from ≡ length r.inner.now
    inner_from = as_many (extent_at p.space) (edge_at p.space) r.inner.now q.from q.len inner_parts

    all_parts : AreParts (map (extent_at p.space) (all_loops r)) (map (edge_at p.space) (all_loops r)) (joined_part (outer_part r) q).from (joined_part (outer_part r) q).len
    all_parts = parts_joined (extent_at p.space) (edge_at p.space) r.order.now r.inner.now (outer_part r).from (outer_part r).len q.from q.len outer_parts inner_parts

    all_begin : (i : ℕ) → assignment (all_loops r) (joined_part (outer_part r) q).from i % edge_at p.space i ≡ 0
    all_begin i =
        elim (cases_Bool (among r.order.now i)) [
          | inl m ↦
              ap (λ n. n % edge_at p.space i) (joined_outer r.order.now r.inner.now (outer_part r).from q.from i outer_from run_disjoint m)
              ∙ block_begins_at (extent_at p.space) (edge_at p.space) r.order.now h.block.0 (outer_part r) h.block.1 i
          | inr f ↦
              ap (λ n. n % edge_at p.space i)
              (assignment_joined r.order.now r.inner.now (outer_part r).from q.from i outer_from run_disjoint
              ∙ ap (λ n. assignment r.inner.now q.from i + n) (assignment-absent r.order.now (outer_part r).from i f) ∙ no_more (assignment r.inner.now q.from i))
              ∙ block_begins_at (extent_at p.space) (edge_at p.space) r.inner.now block.0 q block.1 i
        ]
      where
        no_more : (n : ℕ) → n + 0 ≡ n
        no_more n = omega arith

    pub all_turns : (a : Assignment) → AreTurnsOfBlock (extent_at p.space) (edge_at p.space) (all_loops r) a (joined_part (outer_part r) q)
    all_turns a = parts_stay_in_tiles (extent_at p.space) (edge_at p.space) (all_loops r) a (joined_part (outer_part r) q) all_parts all_begin

    pub all_are_loops : AreLoops (all_loops r) (joined_part (outer_part r) q).len
    all_are_loops = record {
      distinct = h.distinct;
      below = λ i m. let low : i < length p.space.indexes = h.declared i m in omega (arith, low, h.space.index_limit);
      as_many = (all_turns (around r)).as_many;
      some = (all_turns (around r)).some;
    }

    pub all_from : length (joined_part (outer_part r) q).from ≡ length (all_loops r)
    all_from = as_many (extent_at p.space) (edge_at p.space) (all_loops r) (joined_part (outer_part r) q).from (joined_part (outer_part r) q).len all_parts

    pub all_inside : (a b : Assignment) → IsTurn (turns_of (all_loops r) a (joined_part (outer_part r) q)) b → (i : ℕ) → among (all_loops r) i ≡ true → b i < extent_at p.space i
    all_inside a b turn i m =
        let loop = loop_of (extent_at p.space) (edge_at p.space) (all_loops r) (joined_part (outer_part r) q).from (joined_part (outer_part r) q).len i all_parts m in
        let from : (turns_of (all_loops r) a (joined_part (outer_part r) q)).first i ≡ assignment (all_loops r) (joined_part (outer_part r) q).from i =
        ap (λ t. if t then assignment (all_loops r) (joined_part (outer_part r) q).from i else a i) m in
        let high : b i < (turns_of (all_loops r) a (joined_part (outer_part r) q)).first i + assignment (all_loops r) (joined_part (outer_part r) q).len i = (turn.loops i m).1 in
        omega (arith, loop.inside, from, high)

    -- the first turn, from which the outer loops begin as well
    pub first_again : (a : Assignment) → (turns_of r.order.now (turns_of (all_loops r) a (joined_part (outer_part r) q)).first (outer_part r)).first ≡ (turns_of (all_loops r) a (joined_part (outer_part r) q)).first
    first_again a = fun_ext (λ i.
        elim (cases_Bool (among r.order.now i)) [
          | inl m ↦
              ap (λ t. if t then assignment r.order.now (outer_part r).from i else (turns_of (all_loops r) a (joined_part (outer_part r) q)).first i) m
              ∙ sym (joined_outer r.order.now r.inner.now (outer_part r).from q.from i outer_from run_disjoint m)
              ∙ sym (ap (λ t. if t then assignment (all_loops r) (joined_part (outer_part r) q).from i else a i) (among_outer r.order.now r.inner.now i m))
          | inr f ↦ ap (λ t. if t then assignment r.order.now (outer_part r).from i else (turns_of (all_loops r) a (joined_part (outer_part r) q)).first i) f
        ])
