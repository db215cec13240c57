-- A piece's operands are there when its turn comes, and it can be afforded.
use Rattle.std.proofs.Common.{◌≡◌, ◌≢◌, ℕ, zero, suc, ◌+◌, ◌-◌, ◌<◌, ◌≤◌, true, cond, List, length, get_or, eqb, ne_eqb, Some, refl, sym, ap, ◌∙◌, subst, inl, inr, arith}
use Rattle.std.specs.Prelude.{IsSomeAnd}
use Rattle.std.proofs.lemmas.Bool.{cases_eq, cases_lt, or_cases, true≢false, false≢true}
use Rattle.tce_outside.specs.Files.{Files, file}
use Rattle.tce_space.specs.Tiling.{Tiling, tile_words}
use Rattle.tce_array.specs.declared.form.Form.TheVariants.{One}
use Rattle.tce_array.specs.Forms.{form_bytes, IsForm, IsArray}
use Rattle.tce_array.proofs.Contents.{form_bytes_is}
use Rattle.tce_array.proofs.FormOf.{form_of_file}
use Rattle.tce_tree.specs.ContractionTree.{operations}
use Rattle.tce_spec.specs.Contraction.{has_tensor}
use Rattle.tce_spec.specs.Pieces.{Cuts, stored, piece, is_root}
use Rattle.tce_spec.specs.Storable.{shape_of_node, storable}
use Rattle.tce_spec.specs.Specification.{Specification, IsSpecification}
use Rattle.tce_spec.specs.Operands.{operands, shape_of, largest_tile}
use Rattle.tce_spec.specs.PieceSpecification.{CanCut, source, sources, target, piece_of, place_in}
use Rattle.tce_spec.proofs.PieceRules.{IsPiece, is_contraction}
use Rattle.tce_spec.proofs.PieceSources.{own_count}
use Rattle.tce_spec.proofs.Seen.{operand_declared}
use Rattle.tce_job.specs.TensorFiles.{file_of}
use Rattle.tce_job.specs.Opened.{operand, operand_count, HasArray, HasOperands}
use Rattle.tce_job.specs.Laws.{IsOperand}
use Rattle.tce_job.proofs.Operands.{in_tree, is_operand}
use Rattle.tce_job.proofs.Tiles.{result_within, operand_within, all_within}
use Rattle.tce_job.specs.Refusals.{IsAffordable}
use Rattle.tce_spill.proofs.Renumbered.{renumbered_is_alike}
use Rattle.tce_spill.specs.PieceRuns.{source_file, largest_below, largest_of}
use Rattle.tce_spill.specs.Values.{node_bytes, node_element, HasRunTo}
use Rattle.tce_spill.specs.RunRefusals.{CanSpill}
use Rattle.tce_spill.proofs.PieceReads.{IsReadOf}
use Rattle.tce_spill.proofs.Sources.{source_shape, operand_is_declared, file_is, shape_is, array_shape, own_file, own_shape, own_read, target_last, target_array, result_shape}

-- a node that is cut may be cut
pub allowed_at : (s : Specification) (cut : Cuts) (budget : ℕ) → CanSpill s cut budget → (u : ℕ) → cut u ≡ true → storable s.declarations.space s.tree u ≡ true
allowed_at s cut budget can u is_cut = elim (cases_lt u (operations s.tree)) [ inl inside ↦ can.allowed u inside is_cut | inr past ↦ absurd (can.inside u past is_cut) ]

pub can_cut : (s : Specification) (cut : Cuts) (budget v : ℕ) → CanSpill s cut budget → v < operations s.tree → is_root s.tree cut v ≡ true → CanCut s cut v
can_cut s cut budget v can inside root = record { inside = inside; root = root; allowed = allowed_at s cut budget can }

pub is_piece : (s : Specification) (cut : Cuts) (budget v : ℕ) → IsSpecification s → CanSpill s cut budget → v < operations s.tree → is_root s.tree cut v ≡ true → IsPiece s cut v
is_piece s cut budget v rules can inside root = record { rules = rules; names = can.names; few = can.few; can = can_cut s cut budget v can inside root }

-- an operand of a piece is one of its sources
own_operand : (s : Specification) (cut : Cuts) (v d : ℕ) → IsPiece s cut v → d < operand_count (piece_of s cut v) → operand (piece_of s cut v) d < length (sources s cut v)
own_operand s cut v d is less =
    let t : ℕ = operand (piece_of s cut v) d in
    let rules = is_contraction s cut v is in
    let declared = operand_declared (piece_of s cut v) rules.leaves_fit d less in
    let other : t ≢ length (sources s cut v) = λ q. true≢false (sym (in_tree (piece_of s cut v) d less) ∙ ap (λ u. has_tensor u (piece_of s cut v).tree) q ∙ rules.no_operand) in
    let count = own_count s (sources s cut v) (target s v) in
    omega (arith, declared, other, count)

array_there : (shape : Tiling) (bytes : List ℕ) (element : List ℕ → ℕ) → bytes ≡ form_bytes One shape element → IsArray shape bytes
array_there shape bytes element is =
    let form : IsForm One shape bytes = subst (IsForm One shape) (sym is) (form_bytes_is One shape element) in
    subst (λ f. IsForm f shape bytes) (sym (form_of_file One shape bytes form)) form

module _ (start now : Files) (s : Specification) (cut : Cuts) (v : ℕ) (rules : IsSpecification s) (is : IsPiece s cut v) (run : HasRunTo start now s cut v) (has : HasOperands start s (operand_count s)) where
  abbrev p : Specification
  p = piece_of s cut v

  -- a tensor of the whole is there
  tensor_there : (t : ℕ) → has_tensor t s.tree ≡ true → IsSomeAnd (file now (file_of s t)) (IsArray (shape_of s t))
  tensor_there t used =
      let at : IsOperand s t = is_operand s t used in
      let here : HasArray start s t = subst (HasArray start s) at.is (has at.number at.within) in
      subst (λ o. IsSomeAnd o (IsArray (shape_of s t))) (sym (run.operands t used)) here

  read_there : (t : ℕ) → IsReadOf s cut v t → IsSomeAnd (file now (source_file s t)) (IsArray (source_shape s t))
  read_there t (inl used) =
      let low : t < 32 = omega (arith, operand_is_declared s t rules used, rules.declarations.tensor_limit) in
      subst (λ name. IsSomeAnd (file now name) (IsArray (source_shape s t))) (sym (file_is s t low))
      (subst (λ shape. IsSomeAnd (file now (file_of s t)) (IsArray shape)) (sym (shape_is s t low)) (tensor_there t used))
  read_there t (inr array) =
      let number : t ≡ stored (t - 32) = omega (arith, array.0) in
      let shape : Tiling = shape_of_node s.declarations.space s.tree (t - 32) in
      let found : file now (source_file s t) ≡ Some (node_bytes s start (t - 32)) =
      ap (λ u. file now (source_file s u)) number ∙ run.arrays (t - 32) array.1 (omega (arith, array.1, is.can.inside)) array.2 in
      let shapes : source_shape s t ≡ shape = ap (source_shape s) number ∙ array_shape s (t - 32) in
      subst (λ o. IsSomeAnd o (IsArray (source_shape s t))) (sym found)
      (subst (λ (x : Tiling). IsArray x (node_bytes s start (t - 32))) (sym shapes) (array_there shape (node_bytes s start (t - 32)) (node_element s start (t - 32)) refl))

  pub has_operands : HasOperands now p (operand_count p)
  has_operands d less =
      let k : ℕ = operand p d in
      let within = own_operand s cut v d is less in
      subst (λ name. IsSomeAnd (file now name) (IsArray (shape_of p k))) (sym (own_file s cut v k within))
      (subst (λ shape. IsSomeAnd (file now (source_file s (get_or (sources s cut v) k 0))) (IsArray shape)) (sym (own_shape s cut v k within))
      (read_there (get_or (sources s cut v) k 0) (own_read s cut v k is.can.inside within)))

-- ---- the budget

first_below : (s : Specification) (cut : Cuts) (n : ℕ) → largest_tile s ≤ largest_below s cut n
first_below s cut zero = omega arith
first_below s cut (suc n) = let front = first_below s cut n in omega (arith, front)

pub array_below : (s : Specification) (cut : Cuts) (n u : ℕ) → u < n → cut u ≡ true → tile_words (shape_of_node s.declarations.space s.tree u) ≤ largest_below s cut n
array_below s cut zero u less is_cut = absurd (omega (arith, less))
array_below s cut (suc n) u less is_cut =
    elim (cases_eq u n) [
      | inl q ↦
          let here : cond (cut n) (tile_words (shape_of_node s.declarations.space s.tree n)) 0 ≡ tile_words (shape_of_node s.declarations.space s.tree u) =
          ap (λ b. cond b (tile_words (shape_of_node s.declarations.space s.tree n)) 0) (ap cut (sym q) ∙ is_cut) ∙ ap (λ w. tile_words (shape_of_node s.declarations.space s.tree w)) (sym q) in
          omega (arith, here)
      | inr q ↦ let front = array_below s cut n u (omega (arith, less, q)) is_cut in omega (arith, front)
    ]

module _ (s : Specification) (cut : Cuts) (v : ℕ) (is : IsPiece s cut v) where
  abbrev own : Specification
  own = piece_of s cut v

  tensor_within : (t : ℕ) → has_tensor t s.tree ≡ true → tile_words (shape_of s t) ≤ largest_of s cut
  tensor_within t used =
      let at : IsOperand s t = is_operand s t used in
      let words = ap (λ u. tile_words (shape_of s u)) at.is in
      omega (arith, operand_within s at.number at.within, words, first_below s cut (operations s.tree))

  read_within : (t : ℕ) → IsReadOf s cut v t → tile_words (source_shape s t) ≤ largest_of s cut
  read_within t (inl used) =
      let words = ap tile_words (shape_is s t (omega (arith, operand_is_declared s t is.rules used, is.rules.declarations.tensor_limit))) in
      omega (arith, words, tensor_within t used)
  read_within t (inr array) =
      let number : t ≡ stored (t - 32) = omega (arith, array.0) in
      let words = ap tile_words (ap (source_shape s) number ∙ array_shape s (t - 32)) in
      omega (arith, words, array_below s cut (operations s.tree) (t - 32) (omega (arith, array.1, is.can.inside)) array.2)

  operand_fits : (d : ℕ) → d < operand_count own → tile_words (shape_of own (operand own d)) ≤ largest_of s cut
  operand_fits d less =
      let k : ℕ = operand own d in
      let within = own_operand s cut v d is less in
      let words = ap tile_words (own_shape s cut v k within) in
      omega (arith, words, read_within (get_or (sources s cut v) k 0) (own_read s cut v k is.can.inside within))

  result_fits : tile_words (shape_of own own.result) ≤ largest_of s cut
  result_fits =
      elim (cases_eq (v + 1) (operations s.tree)) [
        | inl last ↦
            let words = ap tile_words (result_shape s cut v _ (target_last s v last)) in
            omega (arith, words, result_within s, first_below s cut (operations s.tree))
        | inr other ↦
            let is_cut : cut v ≡ true = elim (or_cases (cut v) (eqb (v + 1) (operations s.tree)) is.can.root) [ inl t ↦ t | inr t ↦ absurd (false≢true (sym (ne_eqb (v + 1) (operations s.tree) other) ∙ t)) ] in
            let words = ap tile_words (result_shape s cut v (source s (stored v)) (target_array s v other) ∙ array_shape s v) in
            omega (arith, words, array_below s cut (operations s.tree) v is.can.inside is_cut)
      ]

  pub tiles_within : largest_tile own ≤ largest_of s cut
  tiles_within = all_within (λ t. tile_words (shape_of own t)) (tile_words (shape_of own own.result)) (largest_of s cut) (operands own) result_fits operand_fits

  pub affordable : (budget : ℕ) → CanSpill s cut budget → IsAffordable own budget
  affordable budget can =
      let fits = can.meet v is.can.inside is.can.root in record {
        enough = omega (arith, tiles_within, can.enough);
        small = λ n least.
            let alike = renumbered_is_alike s.declarations.space (piece s.tree cut v) (place_in (sources s cut v)) in
            let below = least.least.least fits.fusion ((alike.fits fits.fusion).1 fits.fits) ((alike.legal fits.fusion).1 fits.legal) in
            let same = alike.memory_is fits.fusion in
            omega (arith, least.is, below, same, fits.cheap);
      }

pub affordable_at : (s : Specification) (cut : Cuts) (budget v : ℕ) → IsSpecification s → CanSpill s cut budget → v < operations s.tree → is_root s.tree cut v ≡ true → IsAffordable (piece_of s cut v) budget
affordable_at s cut budget v rules can inside root = affordable s cut v (is_piece s cut budget v rules can inside root) budget can
