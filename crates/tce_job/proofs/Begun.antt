-- What is prepared is as the run of its code asks.
use Rattle.std.proofs.Common.{◌≡◌, ℕ, suc, ◌+◌, ◌-◌, ◌*◌, ◌/◌, ◌^◌, ◌<◌, ◌≤◌, Bool, true, false, not, ◌&&◌, List, [], ◌∷◌, All, length, map, min, max, ltb, eq-eqb, slice_get, Option, Some, None, unwrap_or, inl, inr, refl, sym, ap, ap₂, ◌∙◌, subst, arith}
use Rattle.std.proofs.Math.Nat.{div-lt_iff_lt-mul, mul-le-mul_left}
use Rattle.std.specs.Option.{IsSomeAnd}
use Rattle.std.specs.List.{list_all}
use Rattle.std.proofs.lemmas.Bool.{and_from, or_left, or_right, cases_lt, lt-ltb}
use Rattle.std.proofs.lemmas.List.{length-replicate, get_or_past}
use Rattle.std.proofs.lemmas.Option.{slice_get_cases}
use Rattle.std.proofs.lemmas.Simd.{map-map}
use Rattle.tce_outside.specs.Files.{Files, file}
use Rattle.tce_space.specs.IndexSet.{has}
use Rattle.tce_space.specs.Space.{IndexSpace, Index, IsSpace, no_index, index_at, range_at, tiling_of}
use Rattle.tce_space.specs.Tiling.{Tiling, IsTiling, tile_words, tiles}
use Rattle.tce_space.proofs.IndexSetLaws.{has-minus, has-empty}
use Rattle.tce_array.specs.declared.form.Form.TheVariants.{One}
use Rattle.tce_array.specs.Forms.{form_of, form_len, IsForm, word_at}
use Rattle.tce_array.specs.Files.{AreBytes}
use Rattle.tce_cache.specs.Held.{Held, look_up, AreApart}
use Rattle.tce_cache.specs.Current.{current}
use Rattle.tce_cache.specs.declared.array.ArrayRef.{ArrayRef}
use Rattle.tce_cache.specs.Cache.{State as CacheState, IsCache, IsReady, IsArrayAt, AreArrays, HasRoom, layout, stored, word_of_tile, current_word}
use Rattle.tce_cache.specs.Transfer.{HasFile, contents}
use Rattle.tce_tree.specs.ContractionTree.{ContractionTree, leaf, constant, binary, sum, operations, dims, node, node_dims}
use Rattle.tce_tree.specs.FlatTree.{IsTree}
use Rattle.tce_tree.specs.Fusion.{FusionFits, kept_dims, fused_at}
use Rattle.tce_tree.specs.Orders.{lists_of}
use Rattle.tce_tree.proofs.Nodes.{node-root}
use Rattle.tce_tree.proofs.NamedIndexes.{has-set_of_list}
use Rattle.tce_spec.specs.Declarations.{Declarations, no_tensor, tensor_at}
use Rattle.tce_spec.specs.Contraction.{FitsTensor, LeavesFit, has_tensor}
use Rattle.tce_spec.specs.Specification.{Specification, IsSpecification}
use Rattle.tce_spec.specs.Operands.{largest_tile, shape_of}
use Rattle.tce_code.specs.Plan.{plan_of}
use Rattle.tce_code.specs.Program.{program_of}
use Rattle.tce_walk.specs.Touches.{touch_bound}
use Rattle.tce_walk.proofs.TouchBound.{touches_are_few}
use Rattle.tce_exec.specs.Workspace.{Workspace, shape_over}
use Rattle.tce_exec.specs.Prepared.{IsStored, HasOperands, IsPrepared as IsWorkspace}
use Rattle.tce_exec.specs.Run.{IsZero}
use Rattle.tce_job.proofs.Results.{result_tiling}
use Rattle.tce_job.specs.Takings.{tile_count, frame_count, tile_take}
use Rattle.tce_job.proofs.Tiles.{largest_some}
use Rattle.tce_job.specs.Arrays.{AreArraysOf, IsResultArray, IsOperandArray}
use Rattle.tce_job.specs.Laws.{made_result}
use Rattle.tce_job.proofs.ResultMade.{made_zero}
use Rattle.tce_job.proofs.Operands.{not_result}
use Rattle.tce_job.specs.declared.prepared.Prepared.{Prepared}
use Rattle.tce_job.specs.Run.{IsBegun}

-- ---- shapes and indexes

abbrev tiling : List ℕ → List ℕ → Tiling
tiling extents edges = record { extents = extents; edges = edges }

-- the ranges of a tensor's indexes give its shape
pub shape_is : (d : Declarations) (t : ℕ) (is : List ℕ) → FitsTensor d t is → shape_over d.space is ≡ tiling_of d.space (tensor_at d t).ranges
shape_is d t is fits =
    sym (ap₂ tiling (map-map (λ r. (range_at d.space r).extent) (λ i. (index_at d.space i).of_range) is) (map-map (λ r. (range_at d.space r).edge) (λ i. (index_at d.space i).of_range) is))
    ∙ ap (tiling_of d.space) fits.ranges

index_declared : (space : IndexSpace) (i : ℕ) → IsSpace space → (index_at space i).of_range < length space.ranges → i < 24
index_declared space i is h =
    elim (cases_lt i (length space.indexes)) [
      | inl below ↦ omega (arith, is.index_limit)
      | inr past ↦ absurd (omega (arith, h, is.range_limit, ap (λ (x : Index). x.of_range) (get_or_past space.indexes i no_index past)))
    ]

indexes_below : (space : IndexSpace) (is : List ℕ) → IsSpace space → All (λ r. r < length space.ranges) (map (λ i. (index_at space i).of_range) is) → list_all (λ j. ltb j 24) is ≡ true
indexes_below space [] s h = refl
indexes_below space (i ∷ is) s h =
    and_from (ltb i 24) (list_all (λ j. ltb j 24) is) (lt-ltb i 24 (index_declared space i s (h 0 0 (omega arith)))) (indexes_below space is s (λ k d l. h (suc k) d (omega arith)))

pub result_indexes : (s : Specification) → IsSpecification s → list_all (λ j. ltb j 24) s.indexes ≡ true
result_indexes s rules =
    indexes_below s.declarations.space s.indexes rules.declarations.space
    (subst (All (λ r. r < length s.declarations.space.ranges)) (sym rules.contraction.result_fits.ranges)
    (rules.declarations.tensors s.result no_tensor rules.contraction.result_fits.declared).declared)

-- the root keeps all dims of the tree, which are those of the result
root_kept : (tree : ContractionTree) (fusion : List ℕ) (i : ℕ) → 0 < operations tree → FusionFits tree fusion → has (kept_dims tree fusion (operations tree - 1)) i ≡ has (dims tree) i
unfolding kept_dims node_dims
root_kept tree fusion i some fits =
    has-minus (dims (node tree (operations tree - 1))) (fused_at fusion (operations tree - 1)) i
    ∙ ap (λ f. has (dims (node tree (operations tree - 1))) i && not (has f i)) fits.root
    ∙ ap (λ b. has (dims (node tree (operations tree - 1))) i && not b) (has-empty i)
    ∙ and_true (has (dims (node tree (operations tree - 1))) i)
    ∙ ap (λ t. has (dims t) i) (node-root tree (operations tree - 1) (omega (arith, some)))
  where
    and_true : (b : Bool) → (b && true) ≡ b
    and_true true = refl
    and_true false = refl

-- ---- empty caches

empty_cache : (c : CacheState) → c.held ≡ [] → AreArrays c.arrays c.frame_words → 3 ≤ c.frames → IsCache c
empty_cache c none arrays frames = record {
  arrays = arrays;
  frames = frames;
  apart = subst (AreApart c.frames) (sym none) tt;
  count = omega (arith, ap length none);
  exist = λ array tile h e. absurd (not_held array tile h e);
  marked = λ array tile h e. absurd (not_held array tile h e);
}
  where
    not_held : (array tile : ℕ) (h : Held) → look_up c.held array tile ≡ Some h → ⊥
    not_held array tile h e = let there : None ≡ Some h = ap (λ held. look_up held array tile) (sym none) ∙ e in cc

empty_ready : (c : CacheState) (files : Files) (words : List ℕ) → c.held ≡ [] → IsReady c files words
empty_ready c files words none = record {
  files_of_held = λ array tile h e. absurd (not_held array tile h e);
  clean = λ array tile h e. absurd (not_held array tile h e);
}
  where
    not_held : (array tile : ℕ) (h : Held) → look_up c.held array tile ≡ Some h → ⊥
    not_held array tile h e = let there : None ≡ Some h = ap (λ held. look_up held array tile) (sym none) ∙ e in cc

-- a budget of three largest tiles has three frames
three_frames : (budget largest tiles : ℕ) → 0 < largest → 3 * largest ≤ budget → 3 ≤ min (budget / largest) (max 3 tiles)
three_frames budget largest tiles some enough =
    elim (cases_lt (budget / largest) 3) [
      | inl few ↦ absurd (omega (arith, enough, (div-lt_iff_lt-mul {k = largest} {x = budget} {y = 3} some).0 few))
      | inr many ↦ omega (arith, many)
    ]

-- ---- what is prepared

-- what the run of the code works on, with the space, the tree, and the tensor and indexes of the result
abbrev pub workspace_at : Prepared → List ℕ → CacheState → Option Files → IndexSpace → ContractionTree → ℕ → List ℕ → Workspace
workspace_at p words cache told space tree result indexes = record {
  places = record { space = space; tree = tree; fusion = p.plan.fusion.0.items; slots = p.layout.0.items; result = indexes };
  tensor = result;
  words = words;
  cache = cache;
  files = told;
}

-- those of the specification
abbrev pub workspace_with : Specification → Prepared → List ℕ → CacheState → Option Files → Workspace
workspace_with s p words cache told = workspace_at p words cache told s.declarations.space s.tree s.result s.indexes

abbrev pub workspace_for : Specification → Prepared → Option Files → Workspace
workspace_for s p told = workspace_with s p p.words p.cache told

-- what holds of the specification's parts holds of parts that are the same
pub of_parts : (P : IndexSpace → ContractionTree → ℕ → List ℕ → Type 0) (a b : IndexSpace) (c d : ContractionTree) (e f : ℕ) (g h : List ℕ)
    → a ≡ b → c ≡ d → e ≡ f → g ≡ h → P a c e g → P b d f h
of_parts P a b c d e f g h i j k l m =
    subst (λ (x : IndexSpace). P x d f h) i (subst (λ (x : ContractionTree). P a x f h) j (subst (λ x. P a c x h) k (subst (P a c e) l m)))

module _ (s : Specification) (told : Option Files) (p : Prepared) (rules : IsSpecification s) (b : IsBegun s told p) where
  listed : AreArraysOf s b.forms p.cache.arrays
  listed = b.prepared.cache.arrays

  pub array_of : (t : ℕ) → t < length s.declarations.tensors → (a : ArrayRef) × (slice_get p.cache.arrays t ≡ Some a)
  array_of t h =
      elim (slice_get_cases p.cache.arrays t).1 [
        | inl at ↦ (at.0, at.2)
        | inr past ↦ absurd (omega (arith, h, past.0, listed.each))
      ]

  at_array : (P : ArrayRef → Type 0) (t : ℕ) (a : ArrayRef) → slice_get p.cache.arrays t ≡ Some a → P a → IsArrayAt p.cache.arrays t P
  at_array P t a found h = subst (λ o. IsSomeAnd o P) (sym found) h

  -- the operands
  operand_file : (a : ArrayRef) (found : Option (List ℕ)) → IsSomeAnd found (λ bytes. (form_of bytes ≡ a.form) × IsForm a.form a.shape bytes)
      → IsSomeAnd found (λ bytes. length bytes ≡ form_len a.form a.shape)
  operand_file a None h = absurd h
  operand_file a (Some bytes) h = h.1.whole

  operand_stored : (t : ℕ) (is : List ℕ) → FitsTensor s.declarations t is → has_tensor t s.tree ≡ true → IsStored (workspace_for s p told) t is
  operand_stored t is fits used =
      let at = array_of t fits.declared in
      let own : IsOperandArray s b.forms t at.0 = listed.operands t at.0 used at.1 in
      record {
        array = at_array (λ a. a.shape ≡ shape_over s.declarations.space is) t at.0 at.1 (own.shape ∙ sym (shape_is s.declarations t is fits));
        file = λ files e. at_array (λ a. HasFile a files) t at.0 at.1 (operand_file at.0 (file files at.0.file.bytes) (b.operands files e t at.0 used at.1));
      }

  operands_stored : (tree : ContractionTree) → LeavesFit s.declarations tree → ((t : ℕ) → has_tensor t tree ≡ true → has_tensor t s.tree ≡ true) → HasOperands (workspace_for s p told) tree
  operands_stored (leaf t is) fits used =
      record { stored = operand_stored t is fits (used t (eq-eqb t t refl)); other = not_result s t rules (used t (eq-eqb t t refl)) }
  operands_stored (constant n) fits used = tt
  operands_stored (binary op l r) fits used =
      (operands_stored l fits.0 (λ t h. used t (or_left (has_tensor t l) (has_tensor t r) h)), operands_stored r fits.1 (λ t h. used t (or_right (has_tensor t l) (has_tensor t r) h)))
  operands_stored (sum is x) fits used = operands_stored x fits used

  -- the result
  pub result_at : (a : ArrayRef) × (slice_get p.cache.arrays s.result ≡ Some a)
  result_at = array_of s.result rules.contraction.result_fits.declared

  pub result_shape_is : shape_over s.declarations.space s.indexes ≡ shape_of s s.result
  result_shape_is = shape_is s.declarations s.result s.indexes rules.contraction.result_fits

  pub made_there : (files : Files) → told ≡ Some files → (a : ArrayRef) → IsResultArray s a → file files a.file.bytes ≡ Some (made_result s)
  made_there files e a is = ap (file files) is.file ∙ b.made files e

  result_stored : (a : ArrayRef) → slice_get p.cache.arrays s.result ≡ Some a → IsStored (workspace_for s p told) s.result s.indexes
  result_stored a found =
      let own : IsResultArray s a = listed.result a found in
      record {
        array = at_array (λ x. x.shape ≡ shape_over s.declarations.space s.indexes) s.result a found (own.shape ∙ sym result_shape_is);
        file = λ files e. at_array (λ x. HasFile x files) s.result a found
            (subst (λ o. IsSomeAnd o (λ bytes. length bytes ≡ form_len a.form a.shape)) (sym (made_there files e a own))
            ((made_zero s).whole ∙ sym (ap₂ form_len own.form own.shape)));
      }

  result_bytes : (a : ArrayRef) → slice_get p.cache.arrays s.result ≡ Some a → (files : Files) → told ≡ Some files → IsArrayAt p.cache.arrays s.result (λ x. AreBytes (contents x files))
  result_bytes a found files e =
      at_array (λ x. AreBytes (contents x files)) s.result a found
      (subst AreBytes (sym (ap (λ o. unwrap_or o []) (made_there files e a (listed.result a found)))) (made_zero s).are_bytes)

  room : HasRoom p.cache p.words
  room =
      let long : length p.words ≡ p.plan.memory + tile_take s b.budget = ap length b.prepared.words ∙ length-replicate (p.plan.memory + tile_take s b.budget) 0 in
      let frames : p.cache.frames * p.cache.frame_words ≡ frame_count s b.budget * largest_tile s = ap₂ (λ m n. m * n) b.prepared.cache.frames b.prepared.cache.frame_words in
      omega (arith, long, frames, b.prepared.cache.at)

  pub is_workspace : IsTree s.tree → IsWorkspace (workspace_for s p told)
  is_workspace tree = record {
    measured = rules.measured;
    fits = b.prepared.plan.fits.fusion;
    laid = b.prepared.slots;
    root = λ i.
        sym (has-set_of_list s.indexes i (result_indexes s rules)) ∙ ap (λ set. has set i) rules.contraction.same_indexes
        ∙ sym (root_kept s.tree p.plan.fusion.0.items i tree.some b.prepared.plan.fits.fusion);
    tiling = subst IsTiling (sym result_shape_is) (result_tiling s rules);
    result = result_stored result_at.0 result_at.1;
    writable = at_array (λ a. a.writable ≡ true) s.result result_at.0 result_at.1 (listed.result result_at.0 result_at.1).writable;
    operands = operands_stored s.tree rules.contraction.leaves_fit (λ t h. h);
    before = omega (arith, b.prepared.cache.at, b.prepared.plan.memory_is);
    room = room;
    cache = empty_cache p.cache b.prepared.cache.held (subst (AreArrays p.cache.arrays) (sym b.prepared.cache.frame_words) listed.fit)
        (omega (arith, b.prepared.cache.frames, three_frames b.budget (largest_tile s) (tile_count s) (largest_some s rules) b.enough));
    ready = λ files e. empty_ready p.cache files p.words b.prepared.cache.held;
    bytes = λ files e. result_bytes result_at.0 result_at.1 files e;
  }

  in_file : (tile words k tiles : ℕ) → tile < tiles → k < words → words * tile + k < words * tiles
  in_file tile words k tiles h l = let below : tile + 1 ≤ tiles = omega arith in omega (arith, l, mul-le-mul_left words below)

  zero_word : (files : Files) → told ≡ Some files → (a : ArrayRef) → slice_get p.cache.arrays s.result ≡ Some a → (tile k : ℕ) → tile < tiles (shape_of s s.result) → k < tile_words (shape_of s s.result)
      → current_word p.cache files p.words s.result tile k ≡ 0
  zero_word files e a found tile k h l =
      let own : IsResultArray s a = listed.result a found in
      ap (λ held. current (stored p.cache files) (layout p.cache) held p.words s.result tile k) b.prepared.cache.held
      ∙ ap (λ (o : Option ArrayRef). word_of_tile o files tile k) found
      ∙ ap (λ o. word_at a.form a.shape (unwrap_or o []) (tile_words a.shape * tile + k)) (made_there files e a own)
      ∙ ap (λ form. word_at form a.shape (made_result s) (tile_words a.shape * tile + k)) own.form
      ∙ ap (λ (shape : Tiling). word_at One shape (made_result s) (tile_words shape * tile + k)) own.shape
      ∙ (made_zero s).zero (tile_words (shape_of s s.result) * tile + k) (in_file tile (tile_words (shape_of s s.result)) k (tiles (shape_of s s.result)) h l)

  pub is_zero : IsZero (workspace_for s p told)
  is_zero files e tile k h l =
      zero_word files e result_at.0 result_at.1 tile k (subst (λ (t : Tiling). tile < tiles t) result_shape_is h) (subst (λ (t : Tiling). k < tile_words t) result_shape_is l)

  pub few_touches : IsTree s.tree → p.cache.touches + touch_bound s.declarations.space s.tree (program_of p.code) ≤ 2 ^ 100
  few_touches tree =
      let few = touches_are_few s.declarations.space s.tree (plan_of p.plan.fusion.0.items (lists_of p.orders.0.items)) p.code rules.declarations.space rules.measured tree
      b.prepared.orders b.prepared.code in
      omega (arith, few, b.prepared.cache.touches)
