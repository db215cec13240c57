-- A term that is run block by block.
use Rattle.std.proofs.Common.{◌≡◌, ◌≢◌, ℕ, zero, suc, ◌+◌, ◌*◌, ◌<◌, ◌≤◌, ◌^◌, Bool, true, false, ◌&&◌, not, eqb, if◌then◌else◌, List, [], ◌∷◌, ◌++◌, map, length, drop, slice_get, slice_index, Some, None, append-nil, length-append, refl, sym, ap, ap₂, ◌∙◌, subst, arith, mod-lt, lit<}
use mathlib.Core.Path.{fun_ext}
use Rattle.std.specs.List.{fold}
use Rattle.std.specs.Int.{div_ceil}
use Rattle.std.proofs.lemmas.List.Sums.{fold_push}
use Rattle.std.proofs.lemmas.List.Sorted.{IsPermutation-refl}
use Rattle.tce_base.specs.Word.{word, wrapping_add, wrapping_mul}
use Rattle.tce_base.proofs.Words.{plus-lt}
use Rattle.tce_space.specs.Space.{IndexSpace, extent_at, edge_at}
use Rattle.tce_tree.specs.Value.{Assignment, sum_over}
use Rattle.tce_tree.specs.WellFormed.{among}
use Rattle.tce_tree.specs.declared.node.Operand.{Operand}
use Rattle.tce_tree.specs.declared.node.Operand.TheVariants.{Leaf, Constant, Node}
use Rattle.tce_tree.proofs.Lists.{among_first, among_later}
use Rattle.tce_tree.proofs.Values.{sum_over-lt}
use Rattle.tce_tree.proofs.Assignments.{all_positive}
use Rattle.tce_block.specs.Parts.{Part}
use Rattle.tce_block.specs.Sums.{part_sum}
use Rattle.tce_block.proofs.Beginning.{some_count}
use Rattle.tce_block.proofs.BoxSums.{blocks_total}
use Rattle.tce_block.proofs.Cover.{length-blocks}
use Rattle.tce_code.specs.Execution.{Setting, State}
use Rattle.tce_walk.specs.Laws.{HoldsWords}
use Rattle.tce_walk.specs.Parts.{grown_by_part, falls_on, last_on_place}
use Rattle.tce_walk.specs.Touches.{block_count}
use Rattle.tce_walk.proofs.BandRuns.{mapped-same}
use Rattle.tce_walk.proofs.Folds.{fold-plus}
use Rattle.tce_walk.proofs.TailParts.{distinct-behind}
use Rattle.tce_walk.proofs.TermBlocks.{counts_are}
use Rattle.tce_walk.proofs.TermSums.{one_times}
use Rattle.tce_exec.specs.NodeStates.{Places}
use Rattle.tce_exec.specs.Workspace.{Workspace, setting_in, state_in}
use Rattle.tce_exec.specs.Prepared.{IsPrepared}
use Rattle.tce_exec.specs.Steps.{IsKept, IsChanged}
use Rattle.tce_exec.specs.Following.{kept_on, kept_own, continued_own}
use Rattle.tce_exec.specs.TermParts.{mapped_by_part, scaled_by_part}
use Rattle.tce_exec.specs.TermWindows.{element_value, term_value}
use Rattle.tce_exec.specs.TermBlocks.{around, outer_part, IsBlockIn, IsTermRun, IsTermBlock, after_term_block}
use Rattle.tce_exec.specs.TermPlans.{blocks_of_term, touches_of_run, after_term, block_value, summed, word_along, first_factor, last_factor, left_blocks, IsAlongTerm}
use Rattle.tce_exec.specs.declared.term_block.TermRun.{TermRun}
use Rattle.tce_exec.specs.declared.term_block.TermBlock.{TermBlock}
use Rattle.tce_exec.proofs.Along.{at_end, more}
use Rattle.tce_exec.proofs.Following.{changed_as, changed_twice}
use Rattle.tce_exec.proofs.Holding.{places_hold_words}
use Rattle.tce_exec.proofs.Workspaces.{kept_setting}
use Rattle.tce_exec.proofs.TermLeaving.{dims_of_run}
use Rattle.tce_exec.proofs.TermSums.{grown_joined, grown_mapped}
use Rattle.tce_exec.proofs.TermTurns.{run_disjoint, outer_from, outer_loops, inner_edges, inner_extents, all_from, all_are_loops}

-- ---- places that change one after the other

picked_twice : (q : Bool) (f g : ℕ → ℕ) (w : ℕ) → (if q then f (if q then g w else w) else (if q then g w else w)) ≡ (if q then f (g w) else w)
picked_twice true f g w = refl
picked_twice false f g w = refl

pub mapped_twice : (s : Setting) (v : ℕ) (order : List ℕ) (f g : Assignment → ℕ → ℕ) (a : Assignment) (part : Part) (state : State)
    → mapped_by_part s v order f a part (mapped_by_part s v order g a part state) ≡ mapped_by_part s v order (λ b w. f b (g b w)) a part state
mapped_twice s v order f g a part state = fun_ext (λ u. fun_ext (λ p.
    picked_twice (eqb u v && falls_on s v order a part p) (f (last_on_place s v order a part p)) (g (last_on_place s v order a part p)) (state u p)))

picked_same : (q : Bool) (f g : ℕ → ℕ) (w : ℕ) → f w ≡ g w → (if q then f w else w) ≡ (if q then g w else w)
picked_same true f g w e = e
picked_same false f g w e = refl

pub mapped_as : (s : Setting) (v : ℕ) (order : List ℕ) (f g : Assignment → ℕ → ℕ) (a : Assignment) (part : Part) (state : State) → ((b : Assignment) (w : ℕ) → w < 2 ^ 64 → f b w ≡ g b w) → ((u : ℕ) → HoldsWords u state)
    → mapped_by_part s v order f a part state ≡ mapped_by_part s v order g a part state
mapped_as s v order f g a part state same holds = fun_ext (λ u. fun_ext (λ p.
    picked_same (eqb u v && falls_on s v order a part p) (f (last_on_place s v order a part p)) (g (last_on_place s v order a part p)) (state u p) (same (last_on_place s v order a part p) (state u p) (holds u p))))

pub mapped_none : (s : Setting) (v : ℕ) (order : List ℕ) (a : Assignment) (part : Part) (state : State) → mapped_by_part s v order (λ b w. w) a part state ≡ state
mapped_none s v order a part state = fun_ext (λ u. fun_ext (λ p. picked (eqb u v && falls_on s v order a part p) (state u p)))
  where
    picked : (q : Bool) (w : ℕ) → (if q then w else w) ≡ w
    picked true w = refl
    picked false w = refl

times-lt : (x y : ℕ) → wrapping_mul x y < 2 ^ 64
unfolding wrapping_mul
times-lt x y = omega arith

mapped_holds : (s : Setting) (v : ℕ) (order : List ℕ) (f : Assignment → ℕ → ℕ) (a : Assignment) (part : Part) (state : State) → ((b : Assignment) (w : ℕ) → f b w < 2 ^ 64) → ((u : ℕ) → HoldsWords u state)
    → (u : ℕ) → HoldsWords u (mapped_by_part s v order f a part state)
mapped_holds s v order f a part state low holds u p = picked (eqb u v && falls_on s v order a part p) (f (last_on_place s v order a part p) (state u p)) (state u p) (low _ _) (holds u p)
  where
    picked : (q : Bool) (x w : ℕ) → x < 2 ^ 64 → w < 2 ^ 64 → (if q then x else w) < 2 ^ 64
    picked true x w l m = l
    picked false x w l m = m

-- ---- values are words

element_low : (s : Setting) (o : Operand) (a : Assignment) → element_value s.elements o a < 2 ^ 64
unfolding word
element_low s (Leaf l) a = mod-lt (s.elements.cell l.tensor (map a l.indexes.items)) (lit< tt)
element_low s (Constant k) a = mod-lt k (lit< tt)
element_low s (Node u) a = omega arith

term_low : (s : Setting) (r : TermRun) (a : Assignment) → term_value s.elements r.operands a < 2 ^ 64
term_low s r a = picked r.operands.pair
  where
    picked : (q : Bool) → (if q then wrapping_mul (element_value s.elements r.operands.left.now a) (element_value s.elements r.operands.right.now a) else element_value s.elements r.operands.left.now a) < 2 ^ 64
    picked true = times-lt _ _
    picked false = element_low s r.operands.left.now a

pub block_low : (s : Setting) (r : TermRun) (q : Part) (b : Assignment) → block_value s r q b < 2 ^ 64
block_low s r q b = sum_over-lt _ r.inner.now _ b (λ c. term_low s r _)

-- ---- one block

-- what a block makes of a place's word
pub block_maps : (y : Workspace) (b : TermBlock) (h : IsTermBlock y.places b) (state : State) → ((u : ℕ) → HoldsWords u state)
    → after_term_block (setting_in y) b state
    ≡ mapped_by_part (setting_in y) b.run.operands.out b.run.order.now (λ c w. wrapping_mul b.factors.after (wrapping_add (wrapping_mul b.factors.before w) (block_value (setting_in y) b.run h.part c))) (around b.run) (outer_part b.run) state
block_maps y b h state holds =
    let s = setting_in y in
    let v = b.run.operands.out in
    let order = b.run.order.now in
    let inner = b.run.inner.now in
    let a = around b.run in
    let p = outer_part b.run in
    let before : State = scaled_by_part s v order b.factors.before a p state in
    let before_holds : (u : ℕ) → HoldsWords u before = mapped_holds s v order (λ c w. wrapping_mul b.factors.before w) a p state (λ c w. times-lt b.factors.before w) holds in
    ap (scaled_by_part s v order b.factors.after a p)
    (ap₂ (λ ls part. grown_by_part s v ls (term_value s.elements b.run.operands) a part before) h.loops_are h.block_is
    ∙ grown_joined s v order inner (term_value s.elements b.run.operands) a p h.part before (outer_from y.places b.run h.run) (outer_loops y.places b.run h.run).as_many
    (run_disjoint y.places b.run h.run) h.run.apart
    ∙ grown_mapped s v order (λ c. part_sum inner inner (term_value s.elements b.run.operands) c h.part) a p before (dims_of_run y b.run h.run) (λ c. block_low s b.run h.part c) (before_holds v)
    ∙ mapped_twice s v order (λ c w. wrapping_add w (block_value s b.run h.part c)) (λ c w. wrapping_mul b.factors.before w) a p state)
    ∙ mapped_twice s v order (λ c w. wrapping_mul b.factors.after w) (λ c w. wrapping_add (wrapping_mul b.factors.before w) (block_value s b.run h.part c)) a p state

-- ---- several blocks

summed_low : (s : Setting) (r : TermRun) (q : Part) (ran : List Part) (b : Assignment) (w : ℕ) → summed s r (q ∷ ran) b w < 2 ^ 64
summed_low s r q ran b w = low ran (wrapping_add (wrapping_mul r.factors.before w) (block_value s r q b)) (plus-lt (wrapping_mul r.factors.before w) (block_value s r q b))
  where
    low : (parts : List Part) (x : ℕ) → x < 2 ^ 64 → fold (λ y part. wrapping_add y (block_value s r part b)) x parts < 2 ^ 64
    low [] x l = l
    low (part ∷ parts) x l = low parts (wrapping_add x (block_value s r part b)) (plus-lt x (block_value s r part b))

-- a word after one block more
word_more : (s : Setting) (r : TermRun) (ran left : List Part) (q : Part) (b : Assignment) (w : ℕ)
    → wrapping_mul (last_factor r left) (wrapping_add (wrapping_mul (first_factor r ran) (word_along s r ran (q ∷ left) b w)) (block_value s r q b)) ≡ word_along s r (ran ++ q ∷ []) left b w
word_more s r [] [] q b w = refl
word_more s r [] (l ∷ left) q b w = one_times (summed s r (q ∷ []) b w) (summed_low s r q [] b w)
word_more s r (p ∷ ran) [] q b w =
    ap (λ x. wrapping_mul r.factors.after (wrapping_add x (block_value s r q b))) (one_times (summed s r (p ∷ ran) b w) (summed_low s r p ran b w))
    ∙ ap (wrapping_mul r.factors.after) (sym (fold_push (λ x part. wrapping_add x (block_value s r part b)) (wrapping_mul r.factors.before w) (p ∷ ran) q))
word_more s r (p ∷ ran) (l ∷ left) q b w =
    ap (λ x. wrapping_mul 1 (wrapping_add x (block_value s r q b))) (one_times (summed s r (p ∷ ran) b w) (summed_low s r p ran b w))
    ∙ one_times (wrapping_add (summed s r (p ∷ ran) b w) (block_value s r q b)) (plus-lt (summed s r (p ∷ ran) b w) (block_value s r q b))
    ∙ sym (fold_push (λ x part. wrapping_add x (block_value s r part b)) (wrapping_mul r.factors.before w) (p ∷ ran) q)

pub term_begun : (x : Workspace) (r : TermRun) (left : List Part) → IsPrepared x → left ≡ blocks_of_term x.places.space r → IsAlongTerm x x r left r.factors.before
term_begun x r left is all = record {
  ran = [];
  all = sym all;
  factor_is = refl;
  kept = kept_own x;
  changed = changed_as (λ state. state) (mapped_by_part (setting_in x) r.operands.out r.order.now (λ b w. w) (around r) (outer_part r)) 0 x x
      (λ state told. sym (mapped_none (setting_in x) r.operands.out r.order.now (around r) (outer_part r) state))
      (record { prepared = is; state = mapped-same (state_in x); few = omega arith; continued = continued_own x });
}

-- the next block is one of the term's
pub next_is_block : (x y : Workspace) (r : TermRun) (q : Part) (left : List Part) (factor : ℕ) → IsAlongTerm x y r (q ∷ left) factor → IsBlockIn x.places.space r.inner.now q
next_is_block x y r q left factor along = (length along.ran, ap (λ l. slice_get l (length along.ran)) along.all ∙ at_end along.ran left q)

pub blocks_counted : (space : IndexSpace) (r : TermRun) → length (blocks_of_term space r) ≡ block_count space r.inner.now
blocks_counted space r = length-blocks (map (extent_at space) r.inner.now) (map (edge_at space) r.inner.now) ∙ counts_are space r.inner.now

pub term_few : (x y : Workspace) (r : TermRun) (q : Part) (left : List Part) (factor : ℕ) → IsAlongTerm x y r (q ∷ left) factor → x.cache.touches + touches_of_run x.places.space r ≤ 2 ^ 100 → y.cache.touches + 3 ≤ 2 ^ 100
term_few x y r q left factor along few =
    let all : length (blocks_of_term x.places.space r) ≡ length along.ran + length (q ∷ left) = ap length along.all ∙ length-append along.ran (q ∷ left) in
    let next : length (q ∷ left) ≡ length left + 1 = omega arith in
    omega (arith, few, all, next, blocks_counted x.places.space r, along.changed.few)

-- a block of a term with these factors
abbrev as_made : Setting → TermRun → Part → ℕ → ℕ → State → State
as_made s t p m n state = mapped_by_part s t.operands.out t.order.now (λ c w. wrapping_mul n (wrapping_add (wrapping_mul m w) (block_value s t p c))) (around t) (outer_part t) state

pub term_stepped : (x y z : Workspace) (r : TermRun) (q : Part) (left : List Part) (factor last : ℕ) (b : TermBlock) → IsPrepared x → ((k : ℕ) → slice_index y.words k < 2 ^ 64) → IsAlongTerm x y r (q ∷ left) factor
    → (h : IsTermBlock y.places b) → b.run ≡ r → h.part ≡ q → b.factors.before ≡ factor → b.factors.after ≡ last → last ≡ last_factor r left
    → IsKept y z → IsChanged (after_term_block (setting_in y) b) 3 y z → IsAlongTerm x z r left 1
term_stepped x y z r q left factor last b is low along h run part before after last_is kept changed = record {
  ran = along.ran ++ q ∷ [];
  all = more along.ran left (blocks_of_term x.places.space r) q along.all;
  factor_is = one_behind along.ran q;
  kept = kept_on x y z along.kept kept;
  changed =
      changed_as (λ state. mapped (step (setting_in x)) (mapped (word_along (setting_in x) r along.ran (q ∷ left)) state)) (mapped (word_along (setting_in x) r (along.ran ++ q ∷ []) left)) (3 * length (along.ran ++ q ∷ [])) x z
      (λ state told.
      mapped_twice (setting_in x) r.operands.out r.order.now (step (setting_in x)) (word_along (setting_in x) r along.ran (q ∷ left)) (around r) (outer_part r) state
      ∙ ap (λ f. mapped f state) (fun_ext (λ c. fun_ext (λ w. word_more (setting_in x) r along.ran left q c w))))
      (changed_twice (3 * length along.ran) 3 (3 * length (along.ran ++ q ∷ [])) (mapped (word_along (setting_in x) r along.ran (q ∷ left))) (mapped (step (setting_in x))) x y z (counted along.ran q) along.kept along.changed
      (subst (λ s. IsChanged (mapped_by_part s r.operands.out r.order.now (step s) (around r) (outer_part r)) 3 y z) (kept_setting x y is.cache along.kept) here));
}
  where
    step : Setting → Assignment → ℕ → ℕ
    step s c w = wrapping_mul (last_factor r left) (wrapping_add (wrapping_mul (first_factor r along.ran) w) (block_value s r q c))

    mapped : (Assignment → ℕ → ℕ) → State → State
    mapped f state = mapped_by_part (setting_in x) r.operands.out r.order.now f (around r) (outer_part r) state

    counted : (ran : List Part) (p : Part) → 3 * length ran + 3 ≤ 3 * length (ran ++ p ∷ [])
    counted ran p = let l : length (ran ++ p ∷ []) ≡ length ran + 1 = length-append ran (p ∷ []) in omega (arith, l)

    one_behind : (ran : List Part) (p : Part) → 1 ≡ first_factor r (ran ++ p ∷ [])
    one_behind [] p = refl
    one_behind (o ∷ ran) p = refl

    here : IsChanged (mapped_by_part (setting_in y) r.operands.out r.order.now (step (setting_in y)) (around r) (outer_part r)) 3 y z
    here =
        changed_as (after_term_block (setting_in y) b) (as_made (setting_in y) r q (first_factor r along.ran) (last_factor r left)) 3 y z
        (λ state told.
        block_maps y b h state (places_hold_words y along.changed.prepared low state told)
        ∙ ap (λ t. as_made (setting_in y) t h.part b.factors.before b.factors.after state) run
        ∙ ap (λ p. as_made (setting_in y) r p b.factors.before b.factors.after state) part
        ∙ ap₂ (λ m n. as_made (setting_in y) r q m n state) (before ∙ along.factor_is) (after ∙ last_is))
        changed

-- ---- all blocks

some_counted : (space : IndexSpace) (is : List ℕ) → ((i : ℕ) → among is i ≡ true → 0 < edge_at space i) → ((i : ℕ) → among is i ≡ true → 0 < extent_at space i) → 0 < block_count space is
some_counted space [] e f = omega arith
some_counted space (i ∷ is) e f =
    both_some (div_ceil (extent_at space i) (edge_at space i)) (block_count space is) (some_count (extent_at space i) (edge_at space i) (e i (among_first i is)) (f i (among_first i is)))
    (some_counted space is (λ j m. e j (among_later i is j m)) (λ j m. f j (among_later i is j m)))
  where
    both_some : (m n : ℕ) → 0 < m → 0 < n → 0 < m * n
    both_some zero n h k = absurd (omega arith)
    both_some (suc m) zero h k = absurd (omega arith)
    both_some (suc m) (suc n) h k = omega arith

some_blocks : (space : IndexSpace) (r : TermRun) → ((i : ℕ) → among r.inner.now i ≡ true → 0 < edge_at space i) → ((i : ℕ) → among r.inner.now i ≡ true → 0 < extent_at space i) → blocks_of_term space r ≢ []
some_blocks space r edges extents none =
    let zero_count : 0 ≡ block_count space r.inner.now = ap length (sym none) ∙ blocks_counted space r in
    let some : 0 < block_count space r.inner.now = some_counted space r.inner.now edges extents in
    omega (arith, zero_count, some)

pub term_ended : (x y : Workspace) (r : TermRun) (factor : ℕ) → IsPrepared x → ((k : ℕ) → slice_index x.words k < 2 ^ 64) → IsTermRun x.places r → IsAlongTerm x y r [] factor
    → IsChanged (after_term (setting_in x) r) (touches_of_run x.places.space r) x y
term_ended x y r factor is low h along =
    let s : Setting = setting_in x in
    let all : blocks_of_term x.places.space r ≡ along.ran = along.all ∙ append-nil along.ran in
    let count : 3 * length along.ran ≡ touches_of_run x.places.space r = omega (arith, ap length all, blocks_counted x.places.space r) in
    subst (λ n. IsChanged (after_term s r) n x y) count
    (changed_as (mapped_by_part s r.operands.out r.order.now (word_along s r along.ran []) (around r) (outer_part r)) (after_term s r) (3 * length along.ran) x y
    (λ state told.
    ap (λ l. mapped_by_part s r.operands.out r.order.now (word_along s r l []) (around r) (outer_part r) state) (sym all)
    ∙ mapped_as s r.operands.out r.order.now (word_along s r (blocks_of_term x.places.space r) []) (λ b w. wrapping_mul r.factors.after (wrapping_add (wrapping_mul r.factors.before w) (sum_over s.elements.extent r.inner.now (term_value s.elements r.operands) b)))
    (around r) (outer_part r) state (λ b w l. whole (blocks_of_term x.places.space r) refl b w) (places_hold_words x is low state told))
    along.changed)
  where
    total : (b : Assignment) (w : ℕ) → summed (setting_in x) r (blocks_of_term x.places.space r) b w
        ≡ wrapping_add (wrapping_mul r.factors.before w) (sum_over (extent_at x.places.space) r.inner.now (term_value (setting_in x).elements r.operands) b)
    total b w =
        fold-plus (λ q. block_value (setting_in x) r q b) (wrapping_mul r.factors.before w) (blocks_of_term x.places.space r) (λ q. block_low (setting_in x) r q b) (times-lt r.factors.before w)
        ∙ ap (wrapping_add (wrapping_mul r.factors.before w))
        (sym (blocks_total (extent_at x.places.space) (edge_at x.places.space) r.inner.now r.inner.now r.inner.now (term_value (setting_in x).elements r.operands) b (distinct-behind r.order.now r.inner.now h.distinct)
        (IsPermutation-refl r.inner.now) (IsPermutation-refl r.inner.now) (all_positive (edge_at x.places.space) r.inner.now (inner_edges x.places r h)) (λ c. term_low (setting_in x) r c)))

    whole : (all : List Part) → blocks_of_term x.places.space r ≡ all → (b : Assignment) (w : ℕ)
        → word_along (setting_in x) r all [] b w ≡ wrapping_mul r.factors.after (wrapping_add (wrapping_mul r.factors.before w) (sum_over (extent_at x.places.space) r.inner.now (term_value (setting_in x).elements r.operands) b))
    whole [] e b w = absurd (some_blocks x.places.space r (inner_edges x.places r h) (inner_extents x.places r h) e)
    whole (q ∷ all) e b w = ap (wrapping_mul r.factors.after) (ap (λ l. summed (setting_in x) r l b w) (sym e) ∙ total b w)

-- ---- the blocks that are left

pub left_from : (told : Bool) (q : Part) (old new : List Part) → (if told then Some q else None) ≡ slice_get old 0 → new ≡ drop 1 old → old ≡ left_blocks told q new
left_from true q [] new e rest = absurd (cc)
left_from false q [] new e rest = refl
left_from true q (p ∷ old) new e rest = let same : q ≡ p = cc in ap₂ (λ x xs. x ∷ xs) (sym same) (sym rest)
left_from false q (p ∷ old) new e rest = absurd (cc)

pub last_told : (r : TermRun) (more : Bool) (q : Part) (rest : List Part) (n : ℕ) → n ≡ (if not more then r.factors.after else 1) → n ≡ last_factor r (left_blocks more q rest)
last_told r true q rest n e = e
last_told r false q rest n e = e

-- lists of numbers that are joined are short
pub record AreShort (r : TermRun) (q : Part) : Type 0 where
  pub from : length ((outer_part r).from ++ q.from) ≤ 10
  pub len : length ((outer_part r).len ++ q.len) ≤ 10

pub joined_short : (p : Places) (r : TermRun) (q : Part) → IsTermRun p r → IsBlockIn p.space r.inner.now q → AreShort r q
joined_short p r q h block = record {
  from = subst (λ n. n ≤ 10) (sym (all_from p r h q block)) h.few;
  len = subst (λ n. n ≤ 10) (sym (all_are_loops p r h q block).as_many) h.few;
}
