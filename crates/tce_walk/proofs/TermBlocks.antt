-- A band's node, block by block.
use Rattle.std.proofs.Common.{◌≡◌, ℕ, suc, ◌+◌, ◌*◌, ◌^◌, ◌<◌, ◌≤◌, true, false, not, Option, Some, None, List, [], ◌∷◌, ◌++◌, All, map, length, get_or, drop, slice_get, refl, sym, ap, ap₂, ◌∙◌, subst, inl, arith}
use Rattle.std.proofs.lemmas.Bool.{not-true}
use Rattle.std.specs.Int.{div_ceil}
use mathlib.Core.Path.{fun_ext}
use Rattle.std.specs.List.{fold, list_all}
use Rattle.std.specs.Option.{option_map}
use Rattle.tce_base.specs.Word.{wrapping_mul}
use Rattle.tce_block.proofs.Cover.{length-blocks}
use Rattle.tce_block.specs.Grouped.{grouped_blocks}
use Rattle.tce_block.specs.Numbers.{AreWithin}
use Rattle.tce_block.specs.Parts.{Part, blocks}
use Rattle.tce_space.specs.Box.{product}
use Rattle.tce_space.specs.IndexSet.{has}
use Rattle.tce_space.specs.Space.{IndexSpace, extent_at, edge_at}
use Rattle.tce_space.specs.Tiling.{counts_along}
use Rattle.tce_tree.proofs.Lists.{among-all, among-contains}
use Rattle.tce_tree.specs.ContractionTree.{ContractionTree, operations, node, node_dims}
use Rattle.tce_tree.specs.Fusion.{kept_dims}
use Rattle.tce_tree.specs.Value.{Assignment, value}
use Rattle.tce_tree.specs.WellFormed.{among}
use Rattle.tce_code.specs.Execution.{Setting, State}
use Rattle.tce_code.specs.declared.op.Op.{Op}
use Rattle.tce_walk.proofs.BandRuns.{first-left, none-left, mapped-same, slice-drop}
use Rattle.tce_walk.proofs.GroupedBands.{grouped-numbered, length-grouped, same_in_groups, sets_cross}
use Rattle.tce_walk.specs.BandRuns.{IsBlockOf}
use Rattle.tce_walk.specs.FoundTerms.{AreTermsOf, IsTermOver}
use Rattle.tce_walk.specs.Parts.{set_by_part}
use Rattle.tce_walk.specs.Run.{RunsOver}
use Rattle.tce_walk.specs.TermRuns.{after_blocks, IsTermsRun}
use Rattle.tce_walk.specs.Terms.{after_combination, touches_of_terms, with_term, IsCombinationAt, IsTermIn}
use Rattle.tce_walk.specs.Touches.{block_count}
use Rattle.tce_walk.specs.declared.band_search.Band.{Band}
use Rattle.tce_walk.specs.declared.combination.Terms.{Terms}
use Rattle.tce_walk.specs.declared.terms.Combination.{Combination}
use Rattle.tce_walk.specs.declared.terms.Term.{Term}

-- ---- what is asked of the machine

declared_at : (space : IndexSpace) (loops : List ℕ) → All (λ i. i < length space.indexes) loops → (i : ℕ) → among loops i ≡ true → i < length space.indexes
declared_at space loops h i m =
    let there = among-contains loops i m in
    subst (λ x. x < length space.indexes) there.2 (h there.0 i there.1)

term_in : (space : IndexSpace) (s : Setting) (loops : List ℕ) (set : ℕ) (a : Assignment) (term : Term) → IsTermOver space s.tree loops set term → IsTermIn space s loops a term
term_in space s loops set a term h = record {
  operand = h.operand.operand_is;
  few = h.few;
  distinct = h.distinct;
  declared = declared_at space (loops ++ term.loops.0.items) h.declared;
  inside = λ i m. inl (h.operand.inside i m);
  limit = h.limit;
}

-- a combination that names what has been found
pub record Names (c : Combination) (band : Band) (terms : Terms) : Type 0 where
  pub node_is : c.node ≡ band.carrier
  pub loops_are : c.loops.now ≡ band.loops.0.items
  pub terms_are : c.terms.now ≡ terms.terms.items
  pub scale_is : c.scale ≡ terms.scale

asks_at : (space : IndexSpace) (s : Setting) (ops : List Op) (band : Band) (terms : Terms) (c : Combination) (part : Part) (a : Assignment) → Names c band terms
    → AreTermsOf space s.tree s.fusion ops band terms → IsBlockOf space band.loops.0.items part → IsCombinationAt space s c part a
asks_at space s ops band terms c part a names h block = record {
  known = subst (λ v. v < operations s.tree) (sym names.node_is) h.known;
  kept = λ i m.
      ap (λ v. has (kept_dims s.tree s.fusion v) i) names.node_is
      ∙ among-all (has (kept_dims s.tree s.fusion band.carrier)) band.loops.0.items i h.dims.kept (ap (λ xs. among xs i) (sym names.loops_are) ∙ m);
  inside = λ i m.
      inl (ap (λ xs. among xs i) names.loops_are ∙ h.dims.over i (ap (λ v. has (node_dims s.tree v) i) (sym names.node_is) ∙ m));
  some = omega (arith, h.some, ap length names.terms_are);
  each = subst (λ ts. All (IsTermIn space s c.loops.now a) ts) (sym names.terms_are)
      (subst (λ xs. All (IsTermIn space s xs a) terms.terms.items) (sym names.loops_are)
      (λ k d l. term_in space s band.loops.0.items (node_dims s.tree band.carrier) a (get_or terms.terms.items k d) (h.each k d l)));
  apart = subst (λ ts. All (λ term. (i : ℕ) → among term.loops.0.items i ≡ true → has (node_dims s.tree c.node) i ≡ false) ts) (sym names.terms_are)
      (λ k d l i m.
      ap (λ v. has (node_dims s.tree v) i) names.node_is
      ∙ not-true (has (node_dims s.tree band.carrier) i)
      (among-all (λ j. not (has (node_dims s.tree band.carrier) j)) (get_or terms.terms.items k d).loops.0.items i (h.each k d l).apart m));
  value = λ b.
      ap₂ (λ n ts. wrapping_mul n (fold (with_term s.elements s.tree b) 0 ts)) names.scale_is names.terms_are ∙ h.adds_up s.elements b
      ∙ ap (λ v. value s.elements (node s.tree v) b) (sym names.node_is);
  number = block.number;
  block = ap (λ xs. slice_get (blocks (map (extent_at space) xs) (map (edge_at space) xs)) block.number) names.loops_are ∙ block.block;
}

pub combination_asks : (space : IndexSpace) (tree : ContractionTree) (fusion : List ℕ) (own : IndexSpace) (s : Setting) (ops : List Op) (band : Band) (terms : Terms) (c : Combination) (part : Part)
    (a : Assignment) → Names c band terms → RunsOver space tree own s → s.fusion ≡ fusion → AreTermsOf space tree fusion ops band terms → IsBlockOf space band.loops.0.items part
    → IsCombinationAt own s c part a
combination_asks space tree fusion own s ops band terms c part a names over fused h block =
    subst (λ x. IsCombinationAt x s c part a) (sym over.space_is)
    (asks_at space s ops band terms c part a names
    (subst (λ t. AreTermsOf space t s.fusion ops band terms) (sym over.tree_is) (subst (λ g. AreTermsOf space tree g ops band terms) (sym fused) h)) block)

-- ---- block by block

abbrev step_of : Setting → ℕ → List ℕ → Assignment → State → Part → State
step_of s t order a state part = set_by_part s t order (value s.elements (node s.tree t)) a part state

-- what the blocks that are left lead to is what all lead to
pub record AreTermBlocksLeft (space : IndexSpace) (s : Setting) (t : ℕ) (order : List ℕ) (terms : List Term) (a : Assignment) (remaining : List Part)
    (before now : Option State) (m n : ℕ) : Type 0 where
  pub state : option_map (λ state. fold (step_of s t order a) state remaining) now ≡ after_blocks space s t order a before
  pub touches : n + length remaining * touches_of_terms space terms ≤ m + block_count space order * touches_of_terms space terms
  pub each : (k : ℕ) (part : Part) → slice_get remaining k ≡ Some part → IsBlockOf space order part

pub counts_are : (space : IndexSpace) (order : List ℕ) → product (counts_along (map (extent_at space) order) (map (edge_at space) order)) ≡ block_count space order
counts_are space [] = refl
counts_are space (i ∷ order) = ap (λ n. div_ceil (extent_at space i) (edge_at space i) * n) (counts_are space order)

pub term_blocks-begin : (space : IndexSpace) (tree : ContractionTree) (fusion : List ℕ) (own : IndexSpace) (s : Setting) (ops : List Op) (band : Band) (terms : Terms) (a : Assignment)
    (sizes : List ℕ) (remaining : List Part) (before : Option State) (m : ℕ) → RunsOver space tree own s → s.fusion ≡ fusion → AreTermsOf space tree fusion ops band terms
    → AreWithin (counts_along (map (extent_at space) band.loops.0.items) (map (edge_at space) band.loops.0.items)) sizes
    → remaining ≡ grouped_blocks (map (extent_at space) band.loops.0.items) (map (edge_at space) band.loops.0.items) sizes
    → AreTermBlocksLeft space s band.carrier band.loops.0.items terms.terms.items a remaining before before m m
term_blocks-begin space tree fusion own s ops band terms a sizes remaining before m over fused h within e =
    subst (λ parts. AreTermBlocksLeft space s t order terms.terms.items a parts before before m m) (sym e) (record {
      state = ap (λ f. option_map f before) (fun_ext (λ state.
          same_in_groups (step_of s t order a) ns es sizes (λ inside p q. sets_cross s t order (value s.elements (node s.tree t)) a kept inside p q) within state));
      touches = omega (arith, ap (λ n. n * touches_of_terms space terms.terms.items) (length-grouped ns es sizes within ∙ length-blocks ns es ∙ counts_are space order));
      each = λ k p q. let one = grouped-numbered ns es sizes within k p q in record { number = one.number; block = one.is };
    })
  where
    t : ℕ
    t = band.carrier

    order : List ℕ
    order = band.loops.0.items

    ns : List ℕ
    ns = map (extent_at space) order

    es : List ℕ
    es = map (edge_at space) order

    kept : list_all (has (kept_dims s.tree s.fusion t)) order ≡ true
    kept =
        subst (λ c. list_all (has (kept_dims c s.fusion t)) order ≡ true) (sym over.tree_is)
        (subst (λ g. list_all (has (kept_dims tree g t)) order ≡ true) (sym fused) h.dims.kept)

after_step : (s : Setting) (t : ℕ) (order : List ℕ) (a : Assignment) (part : Part) (parts : List Part) (now : Option State)
    → option_map (λ state. fold (step_of s t order a) state parts) (option_map (λ state. step_of s t order a state part) now)
    ≡ option_map (λ state. fold (step_of s t order a) state (part ∷ parts)) now
after_step s t order a part parts None = refl
after_step s t order a part parts (Some state) = refl

one_less : (parts : List Part) (part : Part) (n : ℕ) → slice_get parts 0 ≡ Some part → length parts * n ≡ n + length (drop 1 parts) * n
one_less parts part n e =
    let many : length parts ≡ length (drop 1 parts) + 1 = omega (arith, ap length (first-left parts part e)) in
    ap (λ k. k * n) many ∙ (let more : (length (drop 1 parts) + 1) * n ≡ n + length (drop 1 parts) * n = omega arith in more)

named_step : (s : Setting) (c : Combination) (t : ℕ) (order : List ℕ) (part : Part) (a : Assignment) (now : Option State) → c.node ≡ t → c.loops.now ≡ order
    → after_combination s c part a now ≡ option_map (λ state. step_of s t order a state part) now
named_step s c t order part a now e f = ap₂ (λ v xs. option_map (λ state. step_of s v xs a state part) now) e f

pub term_blocks-next : (space own : IndexSpace) (s other : Setting) (t : ℕ) (order : List ℕ) (terms : List Term) (a : Assignment) (c : Combination) (remaining later : List Part) (part : Part)
    (before now then : Option State) (m n w : ℕ) → other ≡ s → own ≡ space → c.node ≡ t → c.loops.now ≡ order → c.terms.now ≡ terms → slice_get remaining 0 ≡ Some part → later ≡ drop 1 remaining
    → AreTermBlocksLeft space s t order terms a remaining before now m n → then ≡ after_combination other c part a now → w ≤ n + touches_of_terms own c.terms.now
    → AreTermBlocksLeft space s t order terms a later before then m w
term_blocks-next space own s other t order terms a c remaining later part before now then m n w same here e f g first rest h state more =
    subst (λ parts. AreTermBlocksLeft space s t order terms a parts before then m w) (sym rest) (record {
      state =
          ap (option_map (λ state. fold (step_of s t order a) state (drop 1 remaining)))
          (state ∙ ap (λ o. after_combination o c part a now) same ∙ named_step s c t order part a now e f)
          ∙ after_step s t order a part (drop 1 remaining) now
          ∙ ap (λ parts. option_map (λ state. fold (step_of s t order a) state parts) now) (sym (first-left remaining part first))
          ∙ h.state;
      touches = omega (arith, h.touches, one_less remaining part (touches_of_terms space terms) first, more, ap₂ touches_of_terms here g);
      each = λ k p q. h.each (suc k) p (sym (slice-drop remaining k) ∙ q);
    })

pub term_block-few : (space own : IndexSpace) (s : Setting) (t : ℕ) (order : List ℕ) (terms now_terms : List Term) (a : Assignment) (remaining : List Part) (part : Part)
    (before now : Option State) (m n : ℕ) → own ≡ space → now_terms ≡ terms → slice_get remaining 0 ≡ Some part → AreTermBlocksLeft space s t order terms a remaining before now m n
    → m + block_count space order * touches_of_terms space terms ≤ 2 ^ 100 → n + touches_of_terms own now_terms ≤ 2 ^ 100
term_block-few space own s t order terms now_terms a remaining part before now m n here g first h few =
    omega (arith, h.touches, one_less remaining part (touches_of_terms space terms) first, few, ap₂ touches_of_terms here g)

pub term_block-is : {space : IndexSpace} {s : Setting} {t : ℕ} {order : List ℕ} {terms : List Term} {a : Assignment} {remaining : List Part} {before now : Option State} {m n : ℕ}
    (part : Part) → slice_get remaining 0 ≡ Some part → AreTermBlocksLeft space s t order terms a remaining before now m n → IsBlockOf space order part
term_block-is part e h = h.each 0 part e

-- when none is left, all have been set
pub term_blocks-all : (space : IndexSpace) (s : Setting) (t : ℕ) (order : List ℕ) (terms : List Term) (a : Assignment) (remaining : List Part) (before now : Option State) (m n : ℕ)
    → slice_get remaining 0 ≡ None → AreTermBlocksLeft space s t order terms a remaining before now m n → IsTermsRun space s t order terms a before now m n
term_blocks-all space s t order terms a remaining before now m n none h = record {
  state = mapped-same now ∙ ap (λ parts. option_map (λ state. fold (step_of s t order a) state parts) now) (sym (none-left remaining none)) ∙ h.state;
  touches = omega (arith, h.touches);
}
