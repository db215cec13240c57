-- A band, block by block.
use Rattle.std.proofs.Common.{◌≡◌, ℕ, zero, suc, ◌+◌, ◌*◌, ◌^◌, ◌<◌, ◌≤◌, Option, Some, None, List, [], ◌∷◌, ◌++◌, map, length, get_or, drop, slice_get, refl, sym, ap, ◌∙◌, subst, inl, inr, arith}
use mathlib.Core.Path.{fun_ext}
use Rattle.std.proofs.Math.Nat.{mul_assoc}
use Rattle.std.proofs.lemmas.List.{length-map, get_or_default}
use Rattle.std.specs.List.{fold}
use Rattle.std.specs.Option.{option_map}
use Rattle.tce_space.specs.Box.{product}
use Rattle.tce_space.specs.Space.{IndexSpace, extent_at, edge_at}
use Rattle.tce_space.specs.Tiling.{ArePositive, counts_along}
use Rattle.tce_space.proofs.Spaces.{index_limits}
use Rattle.tce_tree.proofs.NamedIndexes.{node_loops_declared}
use Rattle.tce_tree.specs.ContractionTree.{ContractionTree, node_loops}
use Rattle.tce_tree.specs.Measure.{IsMeasured}
use Rattle.tce_tree.specs.Value.{Assignment, with_number}
use Rattle.tce_block.proofs.Fitting.{fit_the_box}
use Rattle.tce_block.specs.Laws.{AreEdges, AreParts}
use Rattle.tce_block.specs.Grouped.{grouped_blocks}
use Rattle.tce_block.specs.Numbers.{AreWithin}
use Rattle.tce_block.specs.Parts.{Part, blocks, lengths}
use Rattle.tce_code.specs.Execution.{Setting, State, repeated}
use Rattle.tce_code.specs.Plan.{Plan}
use Rattle.tce_code.specs.Program.{Program, stop, step, loop}
use Rattle.tce_code.specs.Shape.{EachAction, ActionFits, IsLoop, most_open}
use Rattle.tce_code.specs.declared.op.Op.{Op}
use Rattle.tce_walk.proofs.GroupedBands.{groups_make_bands, grouped-numbered, same_in_groups}
use Rattle.tce_walk.proofs.BandLaws.{blocks_make_bands}
use Rattle.tce_walk.proofs.Boxes.{box, in_block, by_blocks, fold_blocks, equal_boxes}
use Rattle.tce_walk.proofs.Turns.{IsIndex, loop-index, turn-bound, turn-part}
use Rattle.tce_walk.specs.BandRuns.{FitsLoops, IsBlockOf, IsPartRun, IsBandRun, touches_in, touches_of_band}
use Rattle.tce_walk.specs.Bands.{Known, HaveTurns, IsBand}
use Rattle.tce_walk.specs.BandSearch.{band_program, IsBandAt, BeginsBand}
use Rattle.tce_walk.specs.Machine.{after}
use Rattle.tce_walk.specs.PartRuns.{exec_part}
use Rattle.tce_walk.specs.Positions.{program_at}
use Rattle.tce_walk.specs.Run.{AreKept, IsPart, IsRun, RunsOver}
use Rattle.tce_walk.specs.Search.{HasNoTail}
use Rattle.tce_walk.specs.Tails.{loops_round, reads_constant, tail_loops}
use Rattle.tce_walk.specs.Touches.{touch_bound}
use Rattle.tce_walk.specs.declared.band_search.Band.{Band}
use Rattle.tce_walk.proofs.Searching.{or-false}

-- ---- the loops of a band

pub each-index : (space : IndexSpace) (tree : ContractionTree) (body : Program) (order : List ℕ) (a : Assignment) → AreKept space tree → IsMeasured space tree
    → IsPart space tree (loops_round order body) a → (d : ℕ) → d < length order → IsIndex space (get_or order d 0)
each-index space tree body [] a limits measured h d l = absurd (omega (arith, l))
each-index space tree body (i ∷ order) a limits measured h zero l = loop-index limits measured h
each-index space tree body (i ∷ order) a limits measured h (suc d) l =
    each-index space tree body order (with_number a i 0) limits measured
    (turn-part space tree i (loops_round order body) a (with_number a i 0) 0 refl (loop-index limits measured h).some h) d (omega (arith, l))

pub inner-part : (space : IndexSpace) (tree : ContractionTree) (body : Program) (order : List ℕ) (a : Assignment) → AreKept space tree → IsMeasured space tree
    → IsPart space tree (loops_round order body) a → (b : Assignment) × IsPart space tree body b
inner-part space tree body [] a limits measured h = (a, h)
inner-part space tree body (i ∷ order) a limits measured h =
    inner-part space tree body order (with_number a i 0) limits measured
    (turn-part space tree i (loops_round order body) a (with_number a i 0) 0 refl (loop-index limits measured h).some h)

positive-from : (f : ℕ → ℕ) (order : List ℕ) → ((d : ℕ) → d < length order → 0 < f (get_or order d 0)) → ArePositive (map f order)
positive-from f [] h = tt
positive-from f (i ∷ order) h = (h 0 (omega arith), positive-from f order (λ d l. h (suc d) (omega (arith, l))))

pub have-turns : (space : IndexSpace) (tree : ContractionTree) (s : Setting) (plan : Plan) (program : Program) (opened : List ℕ) → AreKept space tree → IsMeasured space tree
    → s.elements.extent ≡ extent_at space → EachAction (ActionFits tree plan) (IsLoop tree) program opened → HaveTurns s program
unfolding node_loops
have-turns space tree s plan stop opened limits measured e h = tt
have-turns space tree s plan (step action rest) opened limits measured e h = have-turns space tree s plan rest opened limits measured e h.1
have-turns space tree s plan (loop i body rest) opened limits measured e h =
    let declared = node_loops_declared space tree h.0.0 h.0.1 limits.is_space.index_limit measured.declared i h.0.2 in
    let some = (index_limits space i limits.is_space declared).some in (
      subst (λ (f : ℕ → ℕ). 0 < f i) (sym e) some,
      have-turns space tree s plan body (opened ++ i ∷ []) limits measured e h.1,
      have-turns space tree s plan rest opened limits measured e h.2,
    )

pub edges-positive : (space : IndexSpace) (tree : ContractionTree) (body : Program) (loops : List ℕ) (a : Assignment) → AreKept space tree → IsMeasured space tree
    → IsPart space tree (loops_round loops body) a → ArePositive (map (edge_at space) loops)
edges-positive space tree body loops a limits measured part =
    positive-from (edge_at space) loops (λ d l.
    (index_limits space (get_or loops d 0) limits.is_space (each-index space tree body loops a limits measured part d l).declared).edge_some)

-- ---- the touches of a band

still-none : (tree : ContractionTree) (i j : ℕ) (inside : Program) → HasNoTail tree i (loop j inside stop) → HasNoTail tree j inside
still-none tree i j inside (inl t) = inl (sym (or-false (reads_constant tree inside)) ∙ t)
still-none tree i j inside (inr e) = inr (none (tail_loops tree (loop j inside stop)) e)
  where
    none : (o : Option (List ℕ)) → option_map (λ order. i ∷ order) o ≡ None → o ≡ None
    none None e = refl
    none (Some order) e = absurd (let h : ⊥ = cc in h)

nest-bound : (space : IndexSpace) (tree : ContractionTree) (body : Program) (i : ℕ) (order : List ℕ) → HasNoTail tree i (loops_round order body)
    → touch_bound space tree (loops_round (i ∷ order) body) ≡ touches_in space tree body (map (extent_at space) (i ∷ order))
nest-bound space tree body i [] h = turn-bound space tree i body h ∙ (let one : extent_at space i * touch_bound space tree body ≡ extent_at space i * 1 * touch_bound space tree body = omega arith in one)
nest-bound space tree body i (j ∷ order) h =
    turn-bound space tree i (loops_round (j ∷ order) body) h
    ∙ ap (λ k. extent_at space i * k) (nest-bound space tree body j order (still-none tree i j (loops_round order body) h))
    ∙ sym (mul_assoc (extent_at space i) (product (map (extent_at space) (j ∷ order))) (touch_bound space tree body))

same-loop : {i j : ℕ} {p q : Program} → loop i p stop ≡ loop j q stop → (i ≡ j) × (p ≡ q)
same-loop e = (cc, cc)

bound-of : (space : IndexSpace) (tree : ContractionTree) (i : ℕ) (p body : Program) (order : List ℕ) → loop i p stop ≡ loops_round order body → HasNoTail tree i p
    → touch_bound space tree (loop i p stop) ≡ touches_in space tree body (map (extent_at space) order)
bound-of space tree i p body [] is h =
    ap (touch_bound space tree) is ∙ (let one : touch_bound space tree body ≡ 1 * touch_bound space tree body = omega arith in one)
bound-of space tree i p body (j ∷ order) is h =
    let same = same-loop is in
    ap (touch_bound space tree) is
    ∙ nest-bound space tree body j order (subst (λ k. HasNoTail tree k (loops_round order body)) same.0 (subst (HasNoTail tree i) same.1 h))

pub band-bound : (space : IndexSpace) (tree : ContractionTree) (fusion : List ℕ) (ops : List Op) (at i : ℕ) (band : Band) → BeginsBand tree fusion ops at i band
    → HasNoTail tree i (program_at ops (at + 1)) → touch_bound space tree (loop i (program_at ops (at + 1)) stop) ≡ touches_of_band space tree ops band
band-bound space tree fusion ops at i band begins no_tail =
    bound-of space tree i (program_at ops (at + 1)) (program_at ops band.at) band.loops.0.items begins.is no_tail

-- ---- block by block

-- what the blocks that are left lead to is what all lead to
pub record AreBlocksLeft (space : IndexSpace) (tree : ContractionTree) (s : Setting) (body : Program) (loops : List ℕ) (a : Assignment) (remaining : List Part)
    (before now : Option State) (t u : ℕ) : Type 0 where
  pub state : option_map (λ state. fold (λ inside part. exec_part s body loops part inside a) state remaining) now
      ≡ option_map (λ state. fold (λ inside part. exec_part s body loops part inside a) state (blocks (map (extent_at space) loops) (map (edge_at space) loops))) before
  pub touches : fold (λ m part. m + touches_in space tree body part.len) u remaining
      ≤ fold (λ m part. m + touches_in space tree body part.len) t (blocks (map (extent_at space) loops) (map (edge_at space) loops))
  pub each : (k : ℕ) (part : Part) → slice_get remaining k ≡ Some part → IsBlockOf space loops part

parts-fit : (space : IndexSpace) (loops es from len : List ℕ) → AreParts (map (extent_at space) loops) es from len → FitsLoops space loops (record { from = from; len = len })
parts-fit space [] [] [] [] h = record { from = refl; len = refl; inside = λ d l. absurd (omega (arith, l)) }
parts-fit space [] [] [] (n ∷ len) h = absurd h
parts-fit space [] [] (f ∷ from) len h = absurd h
parts-fit space [] (e ∷ es) from len h = absurd h
parts-fit space (i ∷ loops) [] from len h = absurd h
parts-fit space (i ∷ loops) (e ∷ es) [] len h = absurd h
parts-fit space (i ∷ loops) (e ∷ es) (f ∷ from) [] h = absurd h
parts-fit space (i ∷ loops) (e ∷ es) (f ∷ from) (n ∷ len) h =
    let later = parts-fit space loops es from len h.3 in
    record {
      from = (let r : length (f ∷ from) ≡ length (i ∷ loops) = omega (arith, later.from) in r);
      len = (let r : length (n ∷ len) ≡ length (i ∷ loops) = omega (arith, later.len) in r);
      inside = each later.inside;
    }
  where
    each : ((d : ℕ) → d < length loops → get_or from d 0 + get_or len d 0 ≤ extent_at space (get_or loops d 0))
        → (d : ℕ) → d < length (i ∷ loops) → get_or (f ∷ from) d 0 + get_or (n ∷ len) d 0 ≤ extent_at space (get_or (i ∷ loops) d 0)
    each inner zero l = h.2
    each inner (suc d) l = inner d (omega (arith, l))

pub block-fits : (space : IndexSpace) (tree : ContractionTree) (body : Program) (loops : List ℕ) (a : Assignment) (part : Part) → AreKept space tree → IsMeasured space tree
    → IsPart space tree (loops_round loops body) a → IsBlockOf space loops part → FitsLoops space loops part
block-fits space tree body loops a part limits measured is h =
    let edges : AreEdges (map (extent_at space) loops) (map (edge_at space) loops) = record {
      same_rank = length-map loops (edge_at space) ∙ sym (length-map loops (extent_at space));
      positive = edges-positive space tree body loops a limits measured is;
    } in
    parts-fit space loops (map (edge_at space) loops) part.from part.len (fit_the_box (map (extent_at space) loops) (map (edge_at space) loops) edges h.number part h.block)

-- what the law of bands asks for
record IsBandOver (space : IndexSpace) (s : Setting) (ops : List Op) (band : Band) (outside : Known) : Type 0 where
  some : ArePositive (map s.elements.extent band.loops.0.items)
  edges : ArePositive (map (edge_at space) band.loops.0.items)
  turns : HaveTurns s (program_at ops band.at)
  passes : IsBand s.tree s.fusion band.loops.0.items band.carrier outside (program_at ops band.at)

band-over : (space : IndexSpace) (tree : ContractionTree) (fusion : List ℕ) (own : IndexSpace) (s : Setting) (ops : List Op) (band : Band) (a : Assignment) → AreKept space tree
    → RunsOver space tree own s → s.fusion ≡ fusion → (is : IsBandAt tree fusion ops band) → IsPart space tree (band_program ops band) a → IsBandOver space s ops band is.outside
band-over space tree fusion own s ops band a limits over fused is part =
    let body : Program = program_at ops band.at in
    let loops : List ℕ = band.loops.0.items in
    let inner : (b : Assignment) × IsPart space tree body b = inner-part space tree body loops a limits over.measured part in
    record {
      some = subst (λ f. ArePositive (map f loops)) (sym over.extents) (positive-from (extent_at space) loops (λ d l. (each-index space tree body loops a limits over.measured part d l).some));
      edges = edges-positive space tree body loops a limits over.measured part;
      turns = have-turns space tree s inner.1.plan body inner.1.opened limits over.measured over.extents inner.1.shape;
      passes =
          subst (λ c. IsBand c s.fusion loops band.carrier is.outside body) (sym over.tree_is)
          (subst (λ g. IsBand tree g loops band.carrier is.outside body) (sym fused) is.passes);
    }

pub blocks-begin : (space : IndexSpace) (tree : ContractionTree) (fusion : List ℕ) (own : IndexSpace) (s : Setting) (ops : List Op) (band : Band) (a : Assignment) (sizes : List ℕ)
    (remaining : List Part) (before : Option State) (t : ℕ) → AreKept space tree → RunsOver space tree own s → s.fusion ≡ fusion → IsBandAt tree fusion ops band
    → IsPart space tree (band_program ops band) a → AreWithin (counts_along (map (extent_at space) band.loops.0.items) (map (edge_at space) band.loops.0.items)) sizes
    → remaining ≡ grouped_blocks (map (extent_at space) band.loops.0.items) (map (edge_at space) band.loops.0.items) sizes
    → AreBlocksLeft space tree s (program_at ops band.at) band.loops.0.items a remaining before before t t
blocks-begin space tree fusion own s ops band a sizes remaining before t limits over fused is part within e =
    subst (λ parts. AreBlocksLeft space tree s body loops a parts before before t t) (sym e) (record {
      state = ap (λ f. option_map f before) (fun_ext (λ state.
          ap (λ f. fold step state (grouped_blocks (map f loops) (map (edge_at space) loops) sizes)) (sym over.extents)
          ∙ groups_make_bands s loops band.carrier is.outside body a (edge_at space) sizes state facts.some facts.edges facts.turns facts.passes
          (subst (λ f. AreWithin (counts_along (map f loops) (map (edge_at space) loops)) sizes) (sym over.extents) within)
          ∙ sym (blocks_make_bands s loops band.carrier is.outside body a (edge_at space) state facts.some facts.edges facts.turns facts.passes)
          ∙ ap (λ f. fold step state (blocks (map f loops) (map (edge_at space) loops))) over.extents));
      touches =
          let same = same_in_groups (λ m (p : Part). m + touches_in space tree body p.len) (map (extent_at space) loops) (map (edge_at space) loops) sizes
          (λ m p q. let cross : m + touches_in space tree body p.len + touches_in space tree body q.len ≡ m + touches_in space tree body q.len + touches_in space tree body p.len = omega arith in cross) within t in
          omega (arith, same);
      each = λ k p h.
          let one = grouped-numbered (map (extent_at space) loops) (map (edge_at space) loops) sizes within k p h in
          record { number = one.number; block = one.is };
    })
  where
    body : Program
    body = program_at ops band.at

    loops : List ℕ
    loops = band.loops.0.items

    facts : IsBandOver space s ops band is.outside
    facts = band-over space tree fusion own s ops band a limits over fused is part

    step : State → Part → State
    step inside p = exec_part s body loops p inside a

grown-more : (space : IndexSpace) (tree : ContractionTree) (body : Program) (parts : List Part) (m n : ℕ) → m ≤ n
    → fold (λ k part. k + touches_in space tree body part.len) m parts ≤ fold (λ k part. k + touches_in space tree body part.len) n parts
grown-more space tree body [] m n l = l
grown-more space tree body (part ∷ parts) m n l = grown-more space tree body parts (m + touches_in space tree body part.len) (n + touches_in space tree body part.len) (omega (arith, l))

grown-past : (space : IndexSpace) (tree : ContractionTree) (body : Program) (parts : List Part) (m : ℕ) → m ≤ fold (λ k part. k + touches_in space tree body part.len) m parts
grown-past space tree body [] m = omega arith
grown-past space tree body (part ∷ parts) m = omega (arith, grown-past space tree body parts (m + touches_in space tree body part.len))

pub first-left : (parts : List Part) (part : Part) → slice_get parts 0 ≡ Some part → parts ≡ part ∷ drop 1 parts
first-left [] part e = absurd (let h : ⊥ = cc in h)
first-left (p ∷ parts) part e = ap (λ q. q ∷ parts) (let same : p ≡ part = cc in same)

pub first-block : {space : IndexSpace} {tree : ContractionTree} {s : Setting} {body : Program} {loops : List ℕ} {a : Assignment} {remaining : List Part} {before now : Option State} {t u : ℕ}
    → (part : Part) → AreBlocksLeft space tree s body loops a remaining before now t u → slice_get remaining 0 ≡ Some part → IsBlockOf space loops part
first-block part h e = h.each 0 part e

after-first : (s : Setting) (body : Program) (loops : List ℕ) (a : Assignment) (part : Part) (parts : List Part) (now : Option State)
    → option_map (λ state. fold (λ inside p. exec_part s body loops p inside a) state parts) (option_map (λ state. exec_part s body loops part state a) now)
    ≡ option_map (λ state. fold (λ inside p. exec_part s body loops p inside a) state (part ∷ parts)) now
after-first s body loops a part parts None = refl
after-first s body loops a part parts (Some state) = refl

pub slice-drop : (parts : List Part) (k : ℕ) → slice_get (drop 1 parts) k ≡ slice_get parts (suc k)
slice-drop [] k = refl
slice-drop (p ∷ parts) k = refl

pub blocks-next : (space : IndexSpace) (tree : ContractionTree) (s other : Setting) (body : Program) (loops : List ℕ) (a : Assignment) (remaining later : List Part) (part : Part)
    (before now then : Option State) (t u w : ℕ) → other ≡ s → slice_get remaining 0 ≡ Some part → later ≡ drop 1 remaining
    → AreBlocksLeft space tree s body loops a remaining before now t u → IsPartRun space tree other body loops part a now then u w
    → AreBlocksLeft space tree s body loops a later before then t w
blocks-next space tree s other body loops a remaining later part before now then t u w same e d h run =
    subst (λ parts. AreBlocksLeft space tree s body loops a parts before then t w) (sym d) (record {
      state = ap (option_map (λ state. fold (λ inside p. exec_part s body loops p inside a) state (drop 1 remaining)))
          (run.state ∙ ap (λ o. option_map (λ state. exec_part o body loops part state a) now) same)
          ∙ after-first s body loops a part (drop 1 remaining) now
          ∙ ap (λ parts. option_map (λ state. fold (λ inside p. exec_part s body loops p inside a) state parts) now) (sym (first-left remaining part e))
          ∙ h.state;
      touches =
          let more = grown-more space tree body (drop 1 remaining) w (u + touches_in space tree body part.len) run.touches in
          let all = ap (fold (λ k p. k + touches_in space tree body p.len) u) (first-left remaining part e) in
          omega (arith, more, h.touches, all);
      each = λ k p q. h.each (suc k) p (sym (slice-drop remaining k) ∙ q);
    })

-- all touches of the blocks are those of the box
box-touches : (ns : List ℕ) (b t : ℕ) → box (λ xs m. m + b) ns t ≡ t + product ns * b
box-touches [] b t = let one : t + b ≡ t + 1 * b = omega arith in one
box-touches (n ∷ ns) b t =
    ap (λ f. repeated n f t) (fun_ext (λ i. fun_ext (λ m. box-touches ns b m))) ∙ added n ∙ ap (λ k. t + k) (sym (mul_assoc n (product ns) b))
  where
    added : (k : ℕ) → repeated k (λ i m. m + product ns * b) t ≡ t + k * (product ns * b)
    added zero = omega arith
    added (suc k) = ap (λ m. m + product ns * b) (added k) ∙ (let more : t + k * (product ns * b) + product ns * b ≡ t + suc k * (product ns * b) = omega arith in more)

pub all-touches : (space : IndexSpace) (tree : ContractionTree) (body : Program) (ns es : List ℕ) (t : ℕ) → length es ≡ length ns → ArePositive es
    → fold (λ m part. m + touches_in space tree body part.len) t (blocks ns es) ≡ t + touches_in space tree body ns
all-touches space tree body ns es t rank edges =
    fold_blocks (λ part m. m + touches_in space tree body part.len) ns es t
    ∙ ap (λ sweep. sweep t) (equal_boxes (λ bs m. m + touches_in space tree body (lengths ns es bs)) (λ bs. in_block turn ns es bs) (counts_along ns es) (λ bs e.
    fun_ext (λ m. sym (box-touches (lengths ns es bs) (touch_bound space tree body) m))))
    ∙ by_blocks (λ x y. x ≡ y) turn ns es (record { own = λ x. refl; on = λ x y z e f. e ∙ f }) (λ xs x y e. ap (turn xs) e) (λ xs ys x. refl) rank edges t
    ∙ box-touches ns (touch_bound space tree body) t
  where
    turn : List ℕ → ℕ → ℕ
    turn xs m = m + touch_bound space tree body

pub block-few : (space : IndexSpace) (tree : ContractionTree) (s : Setting) (ops : List Op) (band : Band) (a : Assignment) (remaining : List Part) (part : Part) (before now : Option State)
    (t u : ℕ) → AreKept space tree → IsMeasured space tree → IsPart space tree (band_program ops band) a
    → AreBlocksLeft space tree s (program_at ops band.at) band.loops.0.items a remaining before now t u → slice_get remaining 0 ≡ Some part
    → t + touches_of_band space tree ops band ≤ 2 ^ 100 → u + touches_in space tree (program_at ops band.at) part.len ≤ 2 ^ 100
block-few space tree s ops band a remaining part before now t u limits measured is h e few =
    let body : Program = program_at ops band.at in
    let loops : List ℕ = band.loops.0.items in
    let all = all-touches space tree body (map (extent_at space) loops) (map (edge_at space) loops) t (length-map loops (edge_at space) ∙ sym (length-map loops (extent_at space)))
    (edges-positive space tree body loops a limits measured is) in
    let first = ap (fold (λ k p. k + touches_in space tree body p.len) u) (first-left remaining part e) in
    omega (arith, grown-past space tree body (drop 1 remaining) (u + touches_in space tree body part.len), first, h.touches, all, few)

pub none-left : (parts : List Part) → slice_get parts 0 ≡ None → parts ≡ []
none-left [] e = refl
none-left (p ∷ parts) e = absurd (let h : ⊥ = cc in h)

pub mapped-same : (o : Option State) → o ≡ option_map (λ s. s) o
mapped-same None = refl
mapped-same (Some s) = refl

-- when none is left, the band has run
pub blocks-all : (space : IndexSpace) (tree : ContractionTree) (fusion : List ℕ) (own : IndexSpace) (s : Setting) (ops : List Op) (band : Band) (a : Assignment) (remaining : List Part)
    (before now : Option State) (t u : ℕ) → AreKept space tree → RunsOver space tree own s → s.fusion ≡ fusion → IsBandAt tree fusion ops band
    → IsPart space tree (band_program ops band) a → slice_get remaining 0 ≡ None
    → AreBlocksLeft space tree s (program_at ops band.at) band.loops.0.items a remaining before now t u → IsBandRun space tree s ops band a before now t u
blocks-all space tree fusion own s ops band a remaining before now t u limits over fused is part none h = record {
  state = mapped-same now ∙ ap (λ parts. option_map (λ state. fold (step s body loops a) state parts) now) (sym (none-left remaining none)) ∙ h.state
      ∙ ap (λ f. option_map f before) (fun_ext (λ state.
      ap (λ f. fold (step s body loops a) state (blocks (map f loops) (map (edge_at space) loops))) (sym over.extents)
      ∙ blocks_make_bands s loops band.carrier is.outside body a (edge_at space) state facts.some facts.edges facts.turns facts.passes));
  touches =
      let all = all-touches space tree body (map (extent_at space) loops) (map (edge_at space) loops) t
      (length-map loops (edge_at space) ∙ sym (length-map loops (extent_at space))) facts.edges in
      let last = ap (fold (λ k p. k + touches_in space tree body p.len) u) (none-left remaining none) in
      omega (arith, h.touches, all, last);
}
  where
    body : Program
    body = program_at ops band.at

    loops : List ℕ
    loops = band.loops.0.items

    step : Setting → Program → List ℕ → Assignment → State → Part → State
    step s body loops a inside part = exec_part s body loops part inside a

    facts : IsBandOver space s ops band is.outside
    facts = band-over space tree fusion own s ops band a limits over fused is part

-- a band that a loop begins
pub band-part : (space : IndexSpace) (tree : ContractionTree) (fusion : List ℕ) (ops : List Op) (at i : ℕ) (band : Band) (a : Assignment) → BeginsBand tree fusion ops at i band
    → IsPart space tree (loop i (program_at ops (at + 1)) stop) a → IsPart space tree (band_program ops band) a
band-part space tree fusion ops at i band a begins h = subst (λ p. IsPart space tree p a) begins.is h

pub band-run : (space : IndexSpace) (tree : ContractionTree) (fusion : List ℕ) (s : Setting) (ops : List Op) (at i : ℕ) (band : Band) (a : Assignment) (before now : Option State) (t u : ℕ)
    → BeginsBand tree fusion ops at i band → HasNoTail tree i (program_at ops (at + 1)) → IsBandRun space tree s ops band a before now t u
    → IsRun space tree s (loop i (program_at ops (at + 1)) stop) a before now t u
band-run space tree fusion s ops at i band a before now t u begins no_tail h = record {
  state = h.state ∙ ap (λ p. after s p a before) (sym begins.is);
  touches = omega (arith, h.touches, band-bound space tree fusion ops at i band begins no_tail);
}

-- ---- single answers

pub each-declared : (space : IndexSpace) (tree : ContractionTree) (body : Program) (order : List ℕ) (a : Assignment) → AreKept space tree → IsMeasured space tree
    → IsPart space tree (loops_round order body) a → (k d : ℕ) → k < length order → get_or order k d < length space.indexes
each-declared space tree body order a limits measured h k d l =
    subst (λ i. i < length space.indexes) (get_or_default order k 0 d l) (each-index space tree body order a limits measured h k l).declared

pub few-loops : (space : IndexSpace) (tree : ContractionTree) (body : Program) (order : List ℕ) (a : Assignment) → IsPart space tree (loops_round order body) a → length order ≤ 10
few-loops space tree body order a h = omega (arith, h.few, deep order)
  where
    deep : (order : List ℕ) → length order ≤ most_open (loops_round order body)
    deep [] = omega arith
    deep (i ∷ order) = omega (arith, deep order)
