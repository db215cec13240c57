-- The numbers that stand in a contraction are declared.
use Rattle.std.proofs.Common.{◌≡◌, ℕ, ◌<◌, Bool, true, false, List, length, get_or, map, All, ltb, refl, subst, ap, sym, arith}
use Rattle.std.proofs.lemmas.Bool.{ltb-true, ltb-false}
use Rattle.std.proofs.lemmas.List.{get_or-map, get_or_past, length-map}
use Rattle.std.proofs.lemmas.List.Elements.{All-get_or}
use Rattle.tce_space.specs.Space.{Index, no_index, index_at}
use Rattle.tce_spec.specs.Declarations.{Declarations, IsTensor, IsDeclarations, tensor_at, no_tensor}
use Rattle.tce_spec.specs.Contraction.{FitsTensor}

-- the rules of a declared tensor
pub declared_tensor : (d : Declarations) (t : ℕ) → IsDeclarations d → t < length d.tensors → IsTensor d.space (tensor_at d t)
declared_tensor d t rules h = All-get_or (IsTensor d.space) d.tensors t no_tensor h rules.tensors

-- an index whose range is declared is declared itself
has_declared_range : (d : Declarations) (i : ℕ) → IsDeclarations d → (index_at d.space i).of_range < length d.space.ranges → i < length d.space.indexes
has_declared_range d i rules h = by_test (ltb i (length d.space.indexes)) refl
  where
    by_test : (b : Bool) → ltb i (length d.space.indexes) ≡ b → i < length d.space.indexes
    by_test true e = ltb-true i (length d.space.indexes) e
    by_test false e =
        let past : index_at d.space i ≡ no_index = get_or_past d.space.indexes i no_index (ltb-false i (length d.space.indexes) e) in
        let range : (index_at d.space i).of_range ≡ 16 = ap (λ (x : Index). x.of_range) past in
        absurd (omega (arith, h, range, rules.space.range_limit))

pub fitting_below : (d : Declarations) (t : ℕ) (is : List ℕ) → IsDeclarations d → FitsTensor d t is → All (λ i. i < length d.space.indexes) is
fitting_below d t is rules fits k e l =
    let one : All (λ r. r < length d.space.ranges) (tensor_at d t).ranges = (declared_tensor d t rules fits.declared).declared in
    let range = λ (i : ℕ). (index_at d.space i).of_range in
    let ranges : All (λ r. r < length d.space.ranges) (map range is) = subst (All (λ r. r < length d.space.ranges)) (sym fits.ranges) one in
    has_declared_range d (get_or is k e) rules
    (subst (λ r. r < length d.space.ranges) (get_or-map range is k e 0 l) (ranges k 0 (omega (arith, length-map is range, l))))
