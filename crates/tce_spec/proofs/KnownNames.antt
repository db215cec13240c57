-- Names and the numbers under which they are declared.
use Rattle.std.proofs.Common.{◌≡◌, ℕ, ◌<◌, List, length, false, Option, Some, None, get_or, refl, sym, ◌∙◌}
use Rattle.std.specs.Prelude.{is_none, unwrap_or, bytes_eq}
use Rattle.std.proofs.lemmas.List.Quantifiers.{position-Some}
use Rattle.tce_space.specs.Space.{Index, IndexSpace, index_number, no_index}
use Rattle.tce_space.proofs.Names.{same_bytes}
use Rattle.tce_spec.specs.Declarations.{Tensor, tensor_number, no_tensor}

pub index_below : (space : IndexSpace) (name : List ℕ) (i : ℕ) → index_number space name ≡ Some i → i < length space.indexes
index_below space name i e = (position-Some (λ (x : Index). bytes_eq x.name name) space.indexes i no_index e).0

pub tensor_below : (tensors : List Tensor) (name : List ℕ) (t : ℕ) → tensor_number tensors name ≡ Some t → t < length tensors
tensor_below tensors name t e = (position-Some (λ (x : Tensor). bytes_eq x.name name) tensors t no_tensor e).0

-- two names with one number are the same
pub one_index : (space : IndexSpace) (n m : List ℕ) (i : ℕ) → index_number space n ≡ Some i → index_number space m ≡ Some i → n ≡ m
one_index space n m i e f =
    let a : (get_or space.indexes i no_index).name ≡ n = same_bytes _ n ((position-Some (λ (x : Index). bytes_eq x.name n) space.indexes i no_index e).1) in
    let b : (get_or space.indexes i no_index).name ≡ m = same_bytes _ m ((position-Some (λ (x : Index). bytes_eq x.name m) space.indexes i no_index f).1) in
    sym a ∙ b

pub one_tensor : (tensors : List Tensor) (n m : List ℕ) (t : ℕ) → tensor_number tensors n ≡ Some t → tensor_number tensors m ≡ Some t → n ≡ m
one_tensor tensors n m t e f =
    let a : (get_or tensors t no_tensor).name ≡ n = same_bytes _ n ((position-Some (λ (x : Tensor). bytes_eq x.name n) tensors t no_tensor e).1) in
    let b : (get_or tensors t no_tensor).name ≡ m = same_bytes _ m ((position-Some (λ (x : Tensor). bytes_eq x.name m) tensors t no_tensor f).1) in
    sym a ∙ b

-- an option that is not None has a value
pub known : (o : Option ℕ) → is_none o ≡ false → o ≡ Some (unwrap_or o 0)
known None h = cc
known (Some n) h = refl
