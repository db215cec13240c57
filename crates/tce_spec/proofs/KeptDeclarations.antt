-- The kept entries of declarations, and what the declarations show of them.
use Rattle.std.proofs.Common.{◌≡◌, ℕ, zero, suc, ◌<◌, ◌≤◌, List, [], ◌∷◌, All, length, map, get_or, slice_get, Some, refl, sym, subst, arith}
use Rattle.std.specs.Map.{values_of}
use Rattle.std.proofs.lemmas.List.{length-map}
use Rattle.arrayvec.specs.ArrayString.{ArrayString}
use Rattle.tce_space.specs.Space.{IndexSpace}
use Rattle.tce_space.specs.SpaceEntries.{names_of, entry_number}
use Rattle.tce_space.proofs.Declarations.{position_along, name_shown_at}
use Rattle.tce_spec.specs.Declarations as model
use Rattle.tce_spec.specs.Declarations.{no_tensor, tensor_number}
use Rattle.tce_spec.specs.DeclarationsCode.{tensor_of, IsEntry, AreKept}
use Rattle.tce_spec.specs.declared.declarations.Tensor.{Tensor}

pub tensor_number_is : (entries : List (ArrayString × Tensor)) (name : List ℕ) → tensor_number (map tensor_of entries) name ≡ entry_number entries name
tensor_number_is entries name = position_along _ _ tensor_of (λ e. refl) entries

-- the entry that holds this value
pub record Holds (entries : List (ArrayString × Tensor)) (i : ℕ) (value : Tensor) : Type 0 where
  pub entry : ArrayString × Tensor
  pub is_value : entry.1 ≡ value
  pub shown : (d : model.Tensor) → get_or (map tensor_of entries) i d ≡ tensor_of entry
  pub here : (d : ArrayString × Tensor) → get_or entries i d ≡ entry
  pub within : i < length entries

pub holds : (entries : List (ArrayString × Tensor)) (i : ℕ) (value : Tensor) → slice_get (values_of entries) i ≡ Some value → Holds entries i value
holds [] i value e = cc
holds (x ∷ entries) zero value e =
    let first : x.1 ≡ value = cc in
    record { entry = x; is_value = first; shown = λ d. refl; here = λ d. refl; within = omega arith }
holds (x ∷ entries) (suc i) value e =
    let behind = holds entries i value e in
    record { entry = behind.entry; is_value = behind.is_value; shown = behind.shown; here = behind.here; within = omega (arith, behind.within) }

pub kept_rules : (space : IndexSpace) (entries : List (ArrayString × Tensor)) (i : ℕ) (value : Tensor) → AreKept space entries → (h : Holds entries i value) → IsEntry space h.entry
kept_rules space entries i value kept h = subst (IsEntry space) (h.here h.entry) (kept.entries i h.entry h.within)

-- no name of a tensor has more than 16 bytes
pub names_short : (space : IndexSpace) (entries : List (ArrayString × Tensor)) → AreKept space entries → All (λ n. length n ≤ 16) (names_of entries)
names_short space entries kept k d h =
    subst (λ (w : List ℕ). length w ≤ 16) (sym (name_shown_at tensor_of (λ (t : model.Tensor). t.name) (λ e. refl) entries k d no_tensor (omega (arith, h, length-map entries (λ (e : ArrayString × Tensor). e.0.bytes)))))
    (kept.rules.tensors k no_tensor (omega (arith, h, length-map entries tensor_of, length-map entries (λ (e : ArrayString × Tensor). e.0.bytes)))).short
