-- The values of the pieces, over the files that the pieces in front of them left, are those of their nodes over the files at the start.
use Rattle.std.proofs.Common.{◌≡◌, ◌≢◌, ◌⊎◌, ℕ, ◌+◌, ◌-◌, ◌^◌, ◌<◌, ◌≤◌, true, false, cond, List, [], ◌∷◌, length, map, get_or, eqb, eq-eqb, ne_eqb, ltb, lt-ltb, ltb-true, Option, Some, unwrap_or, refl, sym, ap, ◌∙◌, subst, inl, inr, arith}
use Rattle.std.proofs.lemmas.Bool.{cases_Bool, cases_eq, and_from, or_cases, or_left, or_right, false≢true, true≢false}
use Rattle.std.specs.List.{IsDistinct}
use Rattle.std.proofs.lemmas.List.Elements.{All-from_recursion}
use Rattle.std.proofs.lemmas.Simd.{map-map}
use Rattle.tce_base.specs.Word.{word}
use Rattle.tce_outside.specs.Files.{Files, file}
use Rattle.tce_outside.proofs.Files.{without_file-with_file, file-with_file}
use Rattle.tce_outside.proofs.Told.{other_files}
use Rattle.tce_space.specs.IndexSet.{has, members}
use Rattle.tce_space.specs.Box.{IsInside}
use Rattle.tce_space.specs.Space.{IndexSpace, index_at, range_at, extent_at, tiling_of}
use Rattle.tce_space.specs.Tiling.{Tiling, IsTiling}
use Rattle.tce_array.specs.declared.form.Form.TheVariants.{One}
use Rattle.tce_array.specs.Forms.{form_of, cell, form_bytes, array_bytes}
use Rattle.tce_array.proofs.Contents.{form_bytes_is, cell_of_file}
use Rattle.tce_array.proofs.Fitting.{words_fit}
use Rattle.tce_array.proofs.FormOf.{form_of_file}
use Rattle.tce_array.proofs.Padding.{padding_is_zero}
use Rattle.tce_array.proofs.Told.{told_by_elements}
use Rattle.tce_tree.specs.ContractionTree.{ContractionTree, leaf, constant, binary, sum, dims, operations, node, node_dims}
use Rattle.tce_tree.specs.WellFormed.{among}
use Rattle.tce_tree.specs.Value.{Assignment, assignment, Elements, IsInExtents, value}
use Rattle.tce_tree.proofs.Members.{dims_lt}
use Rattle.tce_tree.proofs.NamedIndexes.{indexes_below-le, has-set_of_list}
use Rattle.tce_tree.proofs.Nodes.{node-root}
use Rattle.tce_tree.proofs.Values.{value-lt}
use Rattle.tce_tree.proofs.Assignments.{assignment_inside}
use Rattle.tce_spec.specs.Declarations.{Declarations, Tensor, IsTensor, HaveNames, tensor_at}
use Rattle.tce_spec.specs.Contraction.{LeavesFit, has_tensor}
use Rattle.tce_spec.specs.Pieces.{Cuts, stored, is_root, tensors_below}
use Rattle.tce_spec.specs.Storable.{shape_of_node, storable}
use Rattle.tce_spec.specs.CutLaws.{HoldNodes}
use Rattle.tce_spec.proofs.CutPlaces.{member_inside}
use Rattle.tce_spec.specs.Specification.{Specification, IsSpecification}
use Rattle.tce_spec.specs.Operands.{shape_of}
use Rattle.tce_spec.specs.PieceSpecification.{source, sources, target_indexes, array_of, piece_of}
use Rattle.tce_spec.specs.PieceLaws.{HaveSources}
use Rattle.tce_spec.proofs.PieceNames.{IsStored, storable_has, array_is_tensor}
use Rattle.tce_spec.proofs.PieceValues.{piece_specification_has_value}
use Rattle.tce_job.specs.TensorFiles.{file_of, bytes_in, elements}
use Rattle.tce_job.specs.ResultBytes.{result_bytes, with_result}
use Rattle.tce_job.proofs.ResultMade.{file_bytes}
use Rattle.tce_job.proofs.Names.{different_files}
use Rattle.tce_job.proofs.Operands.{not_result}
use Rattle.tce_job.proofs.Results.{result_tiling}
use Rattle.tce_job.proofs.Shapes.{shapes_are_tilings}
use Rattle.tce_job.proofs.Begun.{result_indexes}
use Rattle.tce_spill.specs.PieceRuns.{source_file}
use Rattle.tce_spill.specs.Values.{node_element, node_bytes, HasRunTo, IsSpilled}
use Rattle.tce_spill.proofs.Sources.{source_shape, operand_is_declared, file_is, shape_is, array_shape, own_file, own_shape, own_read, target_last, target_array, result_file, result_shape, files_apart, stored_is}

-- arrays of the same elements are the same
same_arrays : (shape : Tiling) (f g : List ℕ → ℕ) → IsTiling shape → ((coords : List ℕ) → f coords < 2 ^ 64) → ((coords : List ℕ) → IsInside shape.extents coords → f coords ≡ g coords)
    → array_bytes shape f ≡ array_bytes shape g
same_arrays shape f g tiling small same =
    told_by_elements One shape g (form_bytes One shape f) tiling (form_bytes_is One shape f) (file_bytes shape f)
    (λ coords inside. cell_of_file One shape f tiling coords inside (words_fit.eight (f coords) (small coords)).0 ∙ same coords inside)
    (padding_is_zero One shape f tiling)

-- a word is its own word
small_word : (n : ℕ) → n < 2 ^ 64 → word n ≡ n
unfolding word
small_word n low = omega (arith, low)

tensors_are_below : (d : Declarations) (tree : ContractionTree) → length d.tensors ≤ 32 → LeavesFit d tree → tensors_below 32 tree ≡ true
tensors_are_below d (leaf t is) few fits = lt-ltb t 32 (omega (arith, few, fits.declared))
tensors_are_below d (constant k) few fits = refl
tensors_are_below d (binary op l r) few fits = and_from (tensors_below 32 l) (tensors_below 32 r) (tensors_are_below d l few fits.0) (tensors_are_below d r few fits.1)
tensors_are_below d (sum is x) few fits = tensors_are_below d x few fits

-- the file of a piece's result, and the others
here_with : (p : Specification) (files : Files) (name : List ℕ) → name ≡ file_of p p.result → file (with_result p files) name ≡ Some (result_bytes p files)
here_with p files name is = ap (file (with_result p files)) is ∙ file-with_file files (file_of p p.result) (result_bytes p files)

pub other_with : (p : Specification) (files : Files) (name : List ℕ) → name ≢ file_of p p.result → file (with_result p files) name ≡ file files name
other_with p files name other =
    other_files (file_of p p.result) name files (with_result p files) (ap Some (without_file-with_file files (file_of p p.result) (result_bytes p files))) other

same_cell : (coords : List ℕ) (shape other : Tiling) (bytes found : List ℕ) → shape ≡ other → bytes ≡ found → cell (form_of bytes) shape bytes coords ≡ cell (form_of found) other found coords
same_cell coords shape other bytes found shapes same = ap (λ (x : Tiling). cell (form_of bytes) x bytes coords) shapes ∙ ap (λ b. cell (form_of b) other b coords) same

pub not_low : (t : ℕ) → 32 ≤ t → ltb t 32 ≡ false
not_low t high = elim (cases_Bool (ltb t 32)) [ inl is ↦ let low = ltb-true t 32 is in absurd (omega (arith, low, high)) | inr is ↦ is ]

-- a tensor's shape keeps the limits of shapes
pub tensor_tiling : (s : Specification) (t : Tensor) → IsSpecification s → IsTensor s.declarations.space t → IsTiling (tiling_of s.declarations.space t.ranges)
unfolding IsDistinct
tensor_tiling s t rules is =
    let one : Declarations = record { space = s.declarations.space; tensors = t ∷ [] } in
    shapes_are_tilings (record s { declarations = one }) 0 (record {
      space = rules.declarations.space;
      tensor_limit = omega arith;
      tensors = All-from_recursion (IsTensor s.declarations.space) (t ∷ []) (is, tt);
      tensor_names = (tt, tt);
    }) (omega arith)

-- an index of the tree's dims is one of the result
in_result : (s : Specification) → IsSpecification s → (i : ℕ) → has (dims s.tree) i ≡ true → among s.indexes i ≡ true
in_result s rules i m =
    sym (has-set_of_list s.indexes i (result_indexes s rules)) ∙ ap (λ set. has set i) rules.contraction.same_indexes ∙ m

module _ (start : Files) (s : Specification) (cut : Cuts) (rules : IsSpecification s) (names : HaveNames s.declarations.tensors) (allowed : (u : ℕ) → cut u ≡ true → storable s.declarations.space s.tree u ≡ true) where
  abbrev space : IndexSpace
  space = s.declarations.space

  abbrev e : Elements
  e = elements s (bytes_in start s)

  abbrev array_cell : ℕ → List ℕ → ℕ
  array_cell u coords = cell (form_of (node_bytes s start u)) (shape_of_node space s.tree u) (node_bytes s start u) coords

  -- the tensors as at the start, and the arrays of all nodes
  abbrev held : Elements
  held = record { extent = extent_at space; cell = λ t coords. cond (ltb t 32) (e.cell t coords) (array_cell (t - 32) coords) }

  few : length s.declarations.tensors ≤ 32
  few = rules.declarations.tensor_limit

  stored_at : (u : ℕ) → cut u ≡ true → IsStored space s.tree u
  stored_at u is_cut = storable_has space s.tree u (allowed u is_cut)

  -- the shape of the array of a cut node
  tiling_of_array : (u : ℕ) → cut u ≡ true → IsTiling (shape_of_node space s.tree u)
  tiling_of_array u is_cut = tensor_tiling s (array_of s u) rules (array_is_tensor s u rules.declarations.space rules.contraction.declared rules.few (stored_at u is_cut))

  extents_are : (is : List ℕ) → map (λ r. (range_at space r).extent) (map (λ i. (index_at space i).of_range) is) ≡ map (extent_at space) is
  extents_are is = map-map (λ r. (range_at space r).extent) (λ i. (index_at space i).of_range) is

  array_element : (u : ℕ) (coords : List ℕ) → cut u ≡ true → IsInside (map (extent_at space) (members (node_dims s.tree u))) coords → array_cell u coords ≡ node_element s start u coords
  array_element u coords is_cut inside =
      let shape : Tiling = shape_of_node space s.tree u in
      let element : List ℕ → ℕ = node_element s start u in
      let bytes : List ℕ = form_bytes One shape element in
      let within : IsInside shape.extents coords = subst (λ ns. IsInside ns coords) (sym (extents_are (members (node_dims s.tree u)))) inside in
      ap (λ form. cell form shape bytes coords) (form_of_file One shape bytes (form_bytes_is One shape element))
      ∙ cell_of_file One shape element (tiling_of_array u is_cut) coords within
      (words_fit.eight (element coords) (value-lt e (node s.tree u) (assignment (members (node_dims s.tree u)) coords))).0

  held_array : (u : ℕ) (coords : List ℕ) → held.cell (stored u) coords ≡ array_cell u coords
  held_array u coords =
      let number : stored u - 32 ≡ u = omega arith in
      ap (λ b. cond b (e.cell (stored u) coords) (array_cell (stored u - 32) coords)) (not_low (stored u) (omega arith)) ∙ ap (λ w. array_cell w coords) number

  held_tensor : (t : ℕ) (coords : List ℕ) → t < 32 → held.cell t coords ≡ e.cell t coords
  held_tensor t coords low = ap (λ b. cond b (e.cell t coords) (array_cell (t - 32) coords)) (lt-ltb t 32 low)

  hold : HoldNodes held e s.tree cut
  hold = record {
    same = record { extents = λ i. refl; tensors = held_tensor };
    arrays = λ u inside is_cut coords at.
        ap word (held_array u coords ∙ array_element u coords is_cut at)
        ∙ small_word (node_element s start u coords) (value-lt e (node s.tree u) (assignment (members (node_dims s.tree u)) coords));
  }

  module _ (now : Files) (v : ℕ) (inside : v < operations s.tree) (run : HasRunTo start now s cut v) where
    abbrev p : Specification
    p = piece_of s cut v

    abbrev own : Elements
    own = elements p (bytes_in now p)

    abbrev us : List ℕ
    us = sources s cut v

    operand_cell : (k : ℕ) (coords : List ℕ) → k < length us → has_tensor (get_or us k 0) s.tree ≡ true → own.cell k coords ≡ held.cell (get_or us k 0) coords
    operand_cell k coords less used =
        let t : ℕ = get_or us k 0 in
        let declared = operand_is_declared s t rules used in
        let low : t < 32 = omega (arith, declared, few) in
        same_cell coords (shape_of p k) (shape_of s t) (bytes_in now p k) (bytes_in start s t) (own_shape s cut v k less ∙ shape_is s t low)
        (ap (λ name. unwrap_or (file now name) []) (own_file s cut v k less ∙ file_is s t low) ∙ ap (λ (o : Option (List ℕ)). unwrap_or o []) (run.operands t used))
        ∙ sym (held_tensor t coords low)

    array_file_is : (t : ℕ) → 32 ≤ t → t - 32 < v → cut (t - 32) ≡ true → file now (source_file s t) ≡ Some (node_bytes s start (t - 32))
    array_file_is t high before is_cut =
        let number : t ≡ stored (t - 32) = omega (arith, high) in
        ap (λ u. file now (source_file s u)) number ∙ run.arrays (t - 32) before (omega (arith, before, inside)) is_cut

    array_shape_is : (t : ℕ) → 32 ≤ t → source_shape s t ≡ shape_of_node space s.tree (t - 32)
    array_shape_is t high =
        let number : t ≡ stored (t - 32) = omega (arith, high) in
        ap (source_shape s) number ∙ array_shape s (t - 32)

    stored_cell : (k : ℕ) (coords : List ℕ) → k < length us → (t : ℕ) → t ≡ get_or us k 0 → 32 ≤ t → t - 32 < v → cut (t - 32) ≡ true → own.cell k coords ≡ held.cell t coords
    stored_cell k coords less t is high before is_cut =
        same_cell coords (shape_of p k) (shape_of_node space s.tree (t - 32)) (bytes_in now p k) (node_bytes s start (t - 32))
        (own_shape s cut v k less ∙ ap (source_shape s) (sym is) ∙ array_shape_is t high)
        (ap (λ name. unwrap_or (file now name) []) (own_file s cut v k less ∙ ap (source_file s) (sym is)) ∙ ap (λ (o : Option (List ℕ)). unwrap_or o []) (array_file_is t high before is_cut))
        ∙ sym (ap (λ b. cond b (e.cell t coords) (array_cell (t - 32) coords)) (not_low t high))

    own_cell : (k : ℕ) (coords : List ℕ) → k < length us → own.cell k coords ≡ held.cell (get_or us k 0) coords
    own_cell k coords less =
        elim (own_read s cut v k inside less) [
          | inl used ↦ operand_cell k coords less used
          | inr array ↦ stored_cell k coords less (get_or us k 0) refl array.0 array.1 array.2
        ]

    have : HaveSources own held s cut v
    have = record { extents = λ i. refl; cells = own_cell }

    piece_value : (a : Assignment) → IsInExtents e (node_dims s.tree v) a → value own p.tree a ≡ value e (node s.tree v) a
    piece_value a extents =
        piece_specification_has_value.of_node own held e s cut v a have
        (indexes_below-le (length space.indexes) 24 s.tree rules.declarations.space.index_limit rules.contraction.declared)
        (tensors_are_below s.declarations s.tree few rules.contraction.leaves_fit) hold inside extents

    -- the array of a cut node
    pub array_is : cut v ≡ true → (v + 1 ≡ operations s.tree → ⊥) → result_bytes p now ≡ node_bytes s start v
    unfolding node_dims
    array_is is_cut other =
        let shape : Tiling = shape_of_node space s.tree v in
        let f : List ℕ → ℕ = λ coords. value own p.tree (assignment p.indexes coords) in
        let listed : target_indexes s v ≡ members (node_dims s.tree v) = ap (λ b. cond b s.indexes (members (node_dims s.tree v))) (ne_eqb (v + 1) (operations s.tree) other) in
        ap (λ (x : Tiling). array_bytes x f) (result_shape s cut v (source s (stored v)) (target_array s v other) ∙ array_shape s v)
        ∙ same_arrays shape f (node_element s start v) (tiling_of_array v is_cut) (λ coords. value-lt own p.tree (assignment p.indexes coords)) (λ coords at.
        ap (λ is. value own p.tree (assignment is coords)) listed
        ∙ piece_value (assignment (members (node_dims s.tree v)) coords) (λ i m.
        member_inside (extent_at space) (node_dims s.tree v) coords i (dims_lt (node s.tree v)) (subst (λ ns. IsInside ns coords) (extents_are (members (node_dims s.tree v))) at) m))

    -- the result of the whole
    pub result_is : v + 1 ≡ operations s.tree → result_bytes p now ≡ result_bytes s start
    unfolding node_dims
    result_is last =
        let shape : Tiling = shape_of s s.result in
        let f : List ℕ → ℕ = λ coords. value own p.tree (assignment p.indexes coords) in
        let root : node s.tree v ≡ s.tree = node-root s.tree v (omega (arith, last)) in
        let listed : target_indexes s v ≡ s.indexes = ap (λ b. cond b s.indexes (members (node_dims s.tree v))) (eq-eqb (v + 1) (operations s.tree) last) in
        let extents : shape.extents ≡ map (extent_at space) s.indexes =
        ap (map (λ r. (range_at space r).extent)) (sym rules.contraction.result_fits.ranges) ∙ extents_are s.indexes in
        let g : List ℕ → ℕ = λ coords. value e s.tree (assignment s.indexes coords) in
        ap (λ (x : Tiling). array_bytes x f) (result_shape s cut v (tensor_at s.declarations s.result) (target_last s v last))
        ∙ same_arrays shape f g (result_tiling s rules) (λ coords. value-lt own p.tree (assignment p.indexes coords)) (λ coords at.
        ap (λ is. value own p.tree (assignment is coords)) listed
        ∙ piece_value (assignment s.indexes coords) (λ i m.
        assignment_inside (extent_at space) s.indexes coords i (subst (λ ns. IsInside ns coords) extents at)
        (in_result s rules i (ap (λ c. has (dims c) i) (sym root) ∙ m)))
        ∙ ap (λ c. value e c (assignment s.indexes coords)) root)

    -- ---- one piece more

    last_not_cut : v + 1 ≡ operations s.tree → cut v ≡ true → ⊥
    last_not_cut last is_cut = let at = stored_at v is_cut in omega (arith, last, at.below)

    root_is_cut : is_root s.tree cut v ≡ true → (v + 1 ≡ operations s.tree → ⊥) → cut v ≡ true
    root_is_cut root other =
        elim (or_cases (cut v) (eqb (v + 1) (operations s.tree)) root) [
          | inl is ↦ is
          | inr last ↦ absurd (false≢true (sym (ne_eqb (v + 1) (operations s.tree) other) ∙ last))
        ]

    cut_file : (v + 1 ≡ operations s.tree → ⊥) → file_of p p.result ≡ source_file s (stored v)
    cut_file other = result_file s cut v (source s (stored v)) (target_array s v other)

    last_file : v + 1 ≡ operations s.tree → file_of p p.result ≡ file_of s s.result
    last_file last = result_file s cut v (tensor_at s.declarations s.result) (target_last s v last)

    stored_apart : (u : ℕ) → u < operations s.tree → u ≢ v → source_file s (stored u) ≢ source_file s (stored v)
    stored_apart u within other = files_apart s (stored u) (stored v) rules names (stored_is s u within rules) (stored_is s v inside rules) (λ q. other (omega (arith, q)))

    tensor_apart : (t : ℕ) → t < length s.declarations.tensors → file_of s t ≢ source_file s (stored v)
    tensor_apart t declared same =
        files_apart s t (stored v) rules names (inl declared) (stored_is s v inside rules) (λ q. omega (arith, q, declared, few)) (file_is s t (omega (arith, declared, few)) ∙ same)

    pub step_cut : is_root s.tree cut v ≡ true → (v + 1 ≡ operations s.tree → ⊥) → HasRunTo start (with_result p now) s cut (v + 1)
    step_cut root other = record {
      operands = λ t used. other_with p now (file_of s t) (λ same. tensor_apart t (operand_is_declared s t rules used) (same ∙ cut_file other)) ∙ run.operands t used;
      arrays = λ u before within is_cut. by_node u before within is_cut (cases_eq u v);
      others = λ name none. other_with p now name (λ same. none.arrays v inside is_cut (same ∙ cut_file other)) ∙ run.others name none;
      result = λ last. absurd (other last);
    }
      where
        is_cut : cut v ≡ true
        is_cut = root_is_cut root other

        by_node : (u : ℕ) → u < v + 1 → u < operations s.tree → cut u ≡ true → (u ≡ v) ⊎ (u ≡ v → ⊥) → file (with_result p now) (source_file s (stored u)) ≡ Some (node_bytes s start u)
        by_node u before within cut_too (inl same) =
            here_with p now (source_file s (stored u)) (ap (λ w. source_file s (stored w)) same ∙ sym (cut_file other)) ∙ ap Some (array_is is_cut other ∙ ap (node_bytes s start) (sym same))
        by_node u before within cut_too (inr apart) =
            other_with p now (source_file s (stored u)) (λ same. stored_apart u within apart (same ∙ cut_file other)) ∙ run.arrays u (omega (arith, before, apart)) within cut_too

    array_apart : (u : ℕ) → u < operations s.tree → source_file s (stored u) ≢ file_of s s.result
    array_apart u within same =
        let declared = rules.contraction.result_fits.declared in
        files_apart s (stored u) s.result rules names (stored_is s u within rules) (inl declared) (λ q. omega (arith, q, declared, few)) (same ∙ sym (file_is s s.result (omega (arith, declared, few))))

    pub step_last : v + 1 ≡ operations s.tree → HasRunTo start (with_result p now) s cut (v + 1)
    step_last last = record {
      operands = λ t used.
          other_with p now (file_of s t) (λ same. not_result s t rules used
          (different_files s t s.result rules.declarations (operand_is_declared s t rules used) rules.contraction.result_fits.declared (same ∙ last_file last)))
          ∙ run.operands t used;
      arrays = λ u before within is_cut.
          other_with p now (source_file s (stored u)) (λ same. array_apart u within (same ∙ last_file last))
          ∙ run.arrays u (in_front u before is_cut) within is_cut;
      others = λ name none. other_with p now name (λ same. none.result (same ∙ last_file last)) ∙ run.others name none;
      result = λ end. here_with p now (file_of s s.result) (sym (last_file last)) ∙ ap Some (result_is last);
    }
      where
        in_front : (u : ℕ) → u < v + 1 → cut u ≡ true → u < v
        in_front u before is_cut = elim (cases_eq u v) [ inl same ↦ absurd (last_not_cut last (ap cut (sym same) ∙ is_cut)) | inr apart ↦ omega (arith, before, apart) ]

    pub step : is_root s.tree cut v ≡ true → HasRunTo start (with_result p now) s cut (v + 1)
    step root = elim (cases_eq (v + 1) (operations s.tree)) [ inl last ↦ step_last last | inr other ↦ step_cut root other ]

    pub step_same : is_root s.tree cut v ≡ false → HasRunTo start now s cut (v + 1)
    step_same root = record {
      operands = run.operands;
      arrays = λ u before within is_cut. run.arrays u (in_front u before is_cut) within is_cut;
      others = run.others;
      result = λ last. absurd (true≢false (sym (or_right (cut v) (eqb (v + 1) (operations s.tree)) (eq-eqb (v + 1) (operations s.tree) last)) ∙ root));
    }
      where
        in_front : (u : ℕ) → u < v + 1 → cut u ≡ true → u < v
        in_front u before is_cut =
            elim (cases_eq u v) [
              | inl same ↦ absurd (true≢false (sym (or_left (cut v) (eqb (v + 1) (operations s.tree)) (ap cut (sym same) ∙ is_cut)) ∙ root))
              | inr apart ↦ omega (arith, before, apart)
            ]

pub all_run : (start after : Files) (s : Specification) (cut : Cuts) → HasRunTo start after s cut (operations s.tree) → IsSpilled start after s cut
all_run start after s cut run = record {
  result = run.result refl;
  arrays = λ v inside is_cut. run.arrays v inside inside is_cut;
  others = run.others;
}
