-- A band whose node gets its values from terms.
use Rattle.std.proofs.Common.{◌≡◌, ℕ, zero, suc, ◌+◌, ◌-◌, ◌*◌, ◌^◌, ◌<◌, ◌≤◌, true, not, Option, Some, None, List, [], ◌∷◌, ◌++◌, map, length, get_or, refl, sym, ap, ap₂, ◌∙◌, subst, arith}
use mathlib.Core.Path.{fun_ext}
use Rattle.std.proofs.Math.Nat.{mul-le-mul_left}
use Rattle.std.proofs.lemmas.Bool.{and_parts}
use Rattle.std.proofs.lemmas.List.{length-map, get_or_default}
use Rattle.std.specs.List.{fold, list_all}
use Rattle.std.specs.Option.{option_map}
use Rattle.tce_space.proofs.IndexSetLaws.{has-minus}
use Rattle.tce_space.specs.Box.{product}
use Rattle.tce_space.specs.IndexSet.{has}
use Rattle.tce_space.specs.Space.{IndexSpace, extent_at, edge_at}
use Rattle.tce_tree.proofs.Lists.{among-contains}
use Rattle.tce_tree.specs.ContractionTree.{ContractionTree, node, node_dims}
use Rattle.tce_tree.specs.Fusion.{kept_dims, fused_at}
use Rattle.tce_tree.specs.Value.{Assignment, value}
use Rattle.tce_tree.specs.WellFormed.{among}
use Rattle.tce_block.specs.Parts.{Part, blocks}
use Rattle.tce_code.specs.Execution.{Setting, State}
use Rattle.tce_code.specs.Program.{Program}
use Rattle.tce_code.specs.Shape.{ActionFits, IsLoop, most_open}
use Rattle.tce_code.specs.declared.op.Op.{Op}
use Rattle.tce_walk.proofs.BandRuns.{each-index, edges-positive, have-turns, inner-part}
use Rattle.tce_walk.proofs.TailParts.{round-shape}
use Rattle.tce_walk.proofs.TermLaws.{values_make_bands}
use Rattle.tce_walk.specs.Bands.{IsBand}
use Rattle.tce_walk.specs.BandRuns.{FitsLoops, IsBandRun, IsPartRun, touches_in, touches_of_band}
use Rattle.tce_walk.specs.BandSearch.{band_program, IsBandAt}
use Rattle.tce_walk.specs.FoundTerms.{AreTermsOf, IsCodePart, SetsAlone}
use Rattle.tce_walk.specs.PartRuns.{exec_part}
use Rattle.tce_walk.specs.Parts.{set_by_part}
use Rattle.tce_walk.specs.Positions.{program_at}
use Rattle.tce_walk.specs.Run.{AreKept, IsPart, RunsOver}
use Rattle.tce_walk.specs.TailLaws.{dims_at}
use Rattle.tce_walk.specs.Tails.{loops_round}
use Rattle.tce_walk.specs.TermRuns.{last_part, IsTermsRun}
use Rattle.tce_walk.specs.Terms.{touches_of_terms}
use Rattle.tce_walk.specs.Touches.{block_count, touch_bound}
use Rattle.tce_walk.specs.declared.band_search.Band.{Band}
use Rattle.tce_walk.specs.declared.combination.Terms.{Terms}

-- ---- the body as a part of the code

inside_few : (order : List ℕ) (body : Program) → most_open body ≤ most_open (loops_round order body)
inside_few [] body = omega arith
inside_few (i ∷ order) body = omega (arith, inside_few order body)

pub band_code : (space : IndexSpace) (tree : ContractionTree) (ops : List Op) (band : Band) (a : Assignment) → IsPart space tree (band_program ops band) a → IsCodePart tree (program_at ops band.at)
band_code space tree ops band a h = record {
  plan = h.plan;
  opened = h.opened ++ band.loops.0.items;
  shape = round-shape (ActionFits tree h.plan) (IsLoop tree) band.loops.0.items (program_at ops band.at) h.opened h.shape;
  few = omega (arith, h.few, inside_few band.loops.0.items (program_at ops band.at));
}

-- ---- the last part

pub last_fits : (space : IndexSpace) (order : List ℕ) → ((d : ℕ) → d < length order → 0 < extent_at space (get_or order d 0)) → FitsLoops space order (last_part (extent_at space) order)
last_fits space order some = record {
  from = length-map order (λ i. extent_at space i - 1);
  len = length-map order (λ i. 1);
  inside = λ d l. inside order d l some;
}
  where
    inside : (xs : List ℕ) (d : ℕ) → d < length xs → ((k : ℕ) → k < length xs → 0 < extent_at space (get_or xs k 0))
        → get_or (map (λ i. extent_at space i - 1) xs) d 0 + get_or (map (λ i. 1) xs) d 0 ≤ extent_at space (get_or xs d 0)
    inside [] d l h = absurd (omega (arith, l))
    inside (x ∷ xs) zero l h = let here : 0 < extent_at space x = h 0 (omega arith) in omega (arith, here)
    inside (x ∷ xs) (suc d) l h = inside xs d (omega (arith, l)) (λ k m. h (suc k) (omega (arith, m)))

-- it is one turn
one_turn : (order : List ℕ) → product (map (λ i. 1) order) ≡ 1
one_turn [] = refl
one_turn (i ∷ order) = omega (arith, one_turn order)

last_touches : (space : IndexSpace) (tree : ContractionTree) (body : Program) (order : List ℕ) → touches_in space tree body (last_part (extent_at space) order).len ≡ touch_bound space tree body
last_touches space tree body order =
    ap (λ n. n * touch_bound space tree body) (one_turn order) ∙ (let one : 1 * touch_bound space tree body ≡ touch_bound space tree body = omega arith in one)

-- the terms at all blocks and one turn take no more than all turns
within_all : (b t u n : ℕ) → t ≤ u → b + 1 ≤ n → b * t + u ≤ n * u
within_all b t u n low more =
    let first : b * t ≤ b * u = mul-le-mul_left b low in
    let next : u * (b + 1) ≤ u * n = mul-le-mul_left u more in
    omega (arith, first, next)

pub band_enough : (space : IndexSpace) (tree : ContractionTree) (fusion : List ℕ) (ops : List Op) (band : Band) (terms : Terms) → AreTermsOf space tree fusion ops band terms
    → block_count space band.loops.0.items * touches_of_terms space terms.terms.items + touch_bound space tree (program_at ops band.at) ≤ touches_of_band space tree ops band
band_enough space tree fusion ops band terms h =
    within_all (block_count space band.loops.0.items) (touches_of_terms space terms.terms.items) (touch_bound space tree (program_at ops band.at))
    (product (map (extent_at space) band.loops.0.items)) h.touches h.coarse

pub terms_few : (space : IndexSpace) (tree : ContractionTree) (fusion : List ℕ) (ops : List Op) (band : Band) (terms : Terms) (t : ℕ) → AreTermsOf space tree fusion ops band terms
    → t + touches_of_band space tree ops band ≤ 2 ^ 100 → t + block_count space band.loops.0.items * touches_of_terms space terms.terms.items ≤ 2 ^ 100
terms_few space tree fusion ops band terms t h few = omega (arith, band_enough space tree fusion ops band terms h, few)

pub last_few : (space : IndexSpace) (tree : ContractionTree) (fusion : List ℕ) (s : Setting) (ops : List Op) (band : Band) (terms : Terms) (a : Assignment) (last : Part) (before mid : Option State) (t m : ℕ)
    → AreTermsOf space tree fusion ops band terms → last ≡ last_part (extent_at space) band.loops.0.items
    → IsTermsRun space s band.carrier band.loops.0.items terms.terms.items a before mid t m
    → t + touches_of_band space tree ops band ≤ 2 ^ 100 → m + touches_in space tree (program_at ops band.at) last.len ≤ 2 ^ 100
last_few space tree fusion s ops band terms a last before mid t m h is run few =
    let one = ap (λ (p : Part). touches_in space tree (program_at ops band.at) p.len) is ∙ last_touches space tree (program_at ops band.at) band.loops.0.items in
    omega (arith, band_enough space tree fusion ops band terms h, few, one, run.touches)

-- ---- the whole band

pub both_mapped : (f g : State → State) (o : Option State) → option_map g (option_map f o) ≡ option_map (λ x. g (f x)) o
both_mapped f g None = refl
both_mapped f g (Some x) = refl

band_loops : (space : IndexSpace) (tree : ContractionTree) (own : IndexSpace) (s : Setting) (ops : List Op) (band : Band) (a : Assignment) → AreKept space tree → RunsOver space tree own s
    → IsPart space tree (band_program ops band) a → (i : ℕ) → among band.loops.0.items i ≡ true → 0 < extent_at space i
band_loops space tree own s ops band a limits over part i m =
    let there = among-contains band.loops.0.items i m in
    subst (λ x. 0 < extent_at space x) (sym (get_or_default band.loops.0.items there.0 i 0 there.1) ∙ there.2)
    (each-index space tree (program_at ops band.at) band.loops.0.items a limits over.measured part there.0 there.1).some

kept_is_own : (s : Setting) (v i : ℕ) → has (dims_at s v) i ≡ true → has (node_dims s.tree v) i ≡ true
unfolding kept_dims
kept_is_own s v i k =
    (and_parts (has (node_dims s.tree v) i) (not (has (fused_at s.fusion v) i)) (sym (has-minus (node_dims s.tree v) (fused_at s.fusion v) i) ∙ k)).0

pub terms_make_band : (space : IndexSpace) (tree : ContractionTree) (fusion : List ℕ) (own : IndexSpace) (s other : Setting) (ops : List Op) (band : Band) (terms : Terms) (a : Assignment) (last : Part)
    (before mid now : Option State) (t m u : ℕ) → AreKept space tree → RunsOver space tree own s → s.fusion ≡ fusion → IsBandAt tree fusion ops band
    → IsPart space tree (band_program ops band) a → AreTermsOf space tree fusion ops band terms → other ≡ s → last ≡ last_part (extent_at space) band.loops.0.items
    → IsTermsRun space s band.carrier band.loops.0.items terms.terms.items a before mid t m
    → IsPartRun space tree other (program_at ops band.at) band.loops.0.items last a mid now m u → IsBandRun space tree s ops band a before now t u
terms_make_band space tree fusion own s other ops band terms a last before mid now t m u limits over fused is part h same is_last run turn = record {
  state =
      turn.state
      ∙ ap₂ (λ o p. option_map (λ state. exec_part o body loops p state a) mid) same is_last
      ∙ ap (option_map (λ state. exec_part s body loops (last_part (extent_at space) loops) state a)) run.state
      ∙ both_mapped (λ state. fold step state (blocks (map (extent_at space) loops) (map (edge_at space) loops))) (λ state. exec_part s body loops (last_part (extent_at space) loops) state a) before
      ∙ ap (λ f. option_map f before) (fun_ext (λ state.
      ap (λ f. exec_part s body loops (last_part f loops) (fold step state (blocks (map f loops) (map (edge_at space) loops))) a) (sym over.extents)
      ∙ values_make_bands s loops v is.outside body (value s.elements (node s.tree v)) a (edge_at space) state
      (record { distinct = h.distinct; some = λ i m. subst (λ (f : ℕ → ℕ). 0 < f i) (sym over.extents) (band_loops space tree own s ops band a limits over part i m) })
      (edges-positive space tree body loops a limits over.measured part)
      (have-turns space tree s inner.1.plan body inner.1.opened limits over.measured over.extents inner.1.shape)
      (subst (λ c. IsBand c s.fusion loops v is.outside body) (sym over.tree_is) (subst (λ g. IsBand tree g loops v is.outside body) (sym fused) is.passes))
      (subst (λ c. list_all (has (kept_dims c s.fusion v)) loops ≡ true) (sym over.tree_is) (subst (λ g. list_all (has (kept_dims tree g v)) loops ≡ true) (sym fused) h.dims.kept))
      kept_over sets));
  touches =
      let one = ap (λ (p : Part). touches_in space tree body p.len) is_last ∙ last_touches space tree body loops in
      omega (arith, run.touches, turn.touches, one, band_enough space tree fusion ops band terms h);
}
  where
    body : Program
    body = program_at ops band.at

    loops : List ℕ
    loops = band.loops.0.items

    v : ℕ
    v = band.carrier

    step : State → Part → State
    step state p = set_by_part s v loops (value s.elements (node s.tree v)) a p state

    inner : (b : Assignment) × IsPart space tree body b
    inner = inner-part space tree body loops a limits over.measured part

    sets : SetsAlone s v (value s.elements (node s.tree v)) body
    sets = subst (λ c. SetsAlone s v (value s.elements (node c v)) body) (sym over.tree_is) (h.sets s (record { tree_is = over.tree_is; fusion_is = fused }))

    kept_over : (i : ℕ) → has (dims_at s v) i ≡ true → among loops i ≡ true
    kept_over i k =
        h.dims.over i (subst (λ c. has (node_dims c v) i ≡ true) over.tree_is (kept_is_own s v i k))
