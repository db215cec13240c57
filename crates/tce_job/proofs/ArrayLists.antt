-- The arrays of a specification, listed one after the other.
use Rattle.std.proofs.Common.{◌≡◌, ℕ, ◌+◌, ◌≤◌, true, List, [], ◌∷◌, ◌++◌, length, get_or, slice_get, Some, inl, inr, refl, sym, ap, ◌∙◌, subst, arith, length-append}
use Rattle.std.proofs.lemmas.Bool.{cases_lt, cases_order, true≢false}
use Rattle.std.proofs.lemmas.Option.{slice_get_within, get_or_from_slice_get, slice_get-get_or}
use Rattle.std.proofs.lemmas.List.{get_or_append_left}
use Rattle.tce_space.specs.Tiling.{tile_words}
use Rattle.tce_array.specs.declared.form.Form.{Form}
use Rattle.tce_cache.specs.declared.array.ArrayRef.{ArrayRef}
use Rattle.tce_spec.specs.Contraction.{has_tensor}
use Rattle.tce_spec.specs.Specification.{Specification, IsSpecification}
use Rattle.tce_spec.specs.Operands.{largest_tile, shape_of}
use Rattle.tce_job.proofs.Names.{different_files}
use Rattle.tce_job.proofs.Tiles.{result_within, operand_within}
use Rattle.tce_job.specs.Arrays.{IsArrayOf, AreArraysOf}
use Rattle.tce_job.proofs.Operands.{is_operand, not_result}

-- the arrays of the first tensors, that many of them
pub record AreListed (s : Specification) (forms : List Form) (arrays : List ArrayRef) (count : ℕ) : Type 0 where
  pub number : length arrays ≡ count
  pub each : (t : ℕ) (a : ArrayRef) → slice_get arrays t ≡ Some a → IsArrayOf s forms t a

pub none_listed : (s : Specification) (forms : List Form) (arrays : List ArrayRef) → arrays ≡ [] → AreListed s forms arrays 0
none_listed s forms arrays none = record {
  number = ap length none;
  each = λ t a found. let within = slice_get_within arrays t a found in absurd (omega (arith, within, ap length none));
}

pub next_listed : (s : Specification) (forms : List Form) (arrays new : List ArrayRef) (a : ArrayRef) (count : ℕ) → AreListed s forms arrays count → IsArrayOf s forms count a → new ≡ arrays ++ a ∷ []
    → AreListed s forms new (count + 1)
next_listed s forms arrays new a count before here is = record {
  number = ap length is ∙ length-append arrays (a ∷ []) ∙ ap (λ n. n + 1) before.number;
  each = λ t b found.
      let found' : slice_get (arrays ++ a ∷ []) t ≡ Some b = ap (λ xs. slice_get xs t) (sym is) ∙ found in
      let within = slice_get_within (arrays ++ a ∷ []) t b found' in
      let value : get_or (arrays ++ a ∷ []) t b ≡ b = get_or_from_slice_get (arrays ++ a ∷ []) t b b found' in
      elim (cases_lt t (length arrays)) [
        | inl first ↦ before.each t b (slice_get-get_or arrays t b first ∙ ap Some (sym (get_or_append_left arrays (a ∷ []) b t first) ∙ value))
        | inr past ↦
            let last : t ≡ length arrays = omega (arith, within, length-append arrays (a ∷ [])) in
            let same : a ≡ b = sym (last_of arrays a b) ∙ ap (λ i. get_or (arrays ++ a ∷ []) i b) (sym last) ∙ value in
            subst (IsArrayOf s forms t) same (subst (λ i. IsArrayOf s forms i a) (sym (last ∙ before.number)) here)
      ];
}
  where
    last_of : (xs : List ArrayRef) (x d : ArrayRef) → get_or (xs ++ x ∷ []) (length xs) d ≡ x
    last_of [] x d = refl
    last_of (y ∷ xs) x d = last_of xs x d

-- the tile of a tensor of the tree is no larger than the largest
operand_fits : (s : Specification) (t : ℕ) → has_tensor t s.tree ≡ true → tile_words (shape_of s t) ≤ largest_tile s
operand_fits s t h =
    let at = is_operand s t h in
    subst (λ u. tile_words (shape_of s u) ≤ largest_tile s) at.is (operand_within s at.number at.within)

-- only the result is written
written : (s : Specification) (forms : List Form) (t : ℕ) (a : ArrayRef) → IsArrayOf s forms t a → a.writable ≡ true → t ≡ s.result
written s forms t a is marked =
    elim (cases_order t s.result) [
      | inl same ↦ same
      | inr (inl below) ↦ absurd (true≢false (sym marked ∙ (is.other (λ e. absurd (omega arith))).0))
      | inr (inr above) ↦ absurd (true≢false (sym marked ∙ (is.other (λ e. absurd (omega arith))).0))
    ]

pub all_listed : (s : Specification) (forms : List Form) (arrays : List ArrayRef) → IsSpecification s → AreListed s forms arrays (length s.declarations.tensors) → AreArraysOf s forms arrays
all_listed s forms arrays rules listed = record {
  each = listed.number;
  operands = λ t a used found.
      let is = listed.each t a found in
      let other = is.other (not_result s t rules used) in
      record { file = is.file; shape = is.shape (operand_fits s t used); form = other.1; writable = other.0 };
  result = λ a found.
      let is = listed.each s.result a found in
      let own = is.result refl in
      record { file = is.file; shape = is.shape (result_within s); form = own.1; writable = own.0 };
  files = λ t a found. (listed.each t a found).file;
  only = λ t a found marked. written s forms t a (listed.each t a found) marked;
  fit = record {
    few = omega (arith, listed.number, rules.declarations.tensor_limit);
    different = λ i j a b found other same.
        let p = listed.each i a found in
        let q = listed.each j b other in
        let low = slice_get_within arrays i a found in
        let high = slice_get_within arrays j b other in
        different_files s i j rules.declarations (omega (arith, listed.number, low)) (omega (arith, listed.number, high)) (sym p.file ∙ same ∙ q.file);
    fit = λ i a found. (listed.each i a found).fits;
    writable = λ i j a b found other marked also. written s forms i a (listed.each i a found) marked ∙ sym (written s forms j b (listed.each j b other) also);
    form = λ i a found marked. let is = listed.each i a found in (is.result (written s forms i a is marked)).1;
  };
}
