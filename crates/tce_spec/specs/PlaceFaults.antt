-- What may be wrong at one place of a formula, by the name at which it is.
use Rattle.std.specs.Prelude.{ℕ, not, ◌==◌, Bool, true, if◌then◌else◌, List, [], length, zip, find, is_none, Option, option_map}
use Rattle.std.specs.declared.option.Option.TheVariants.{Some, None}
use Rattle.std.specs.Option.{option_map_or}
use Rattle.std.specs.Str.{bytes_eq}
use Rattle.tce_space.specs.Space.{IndexSpace, index_number, index_at}
use Rattle.tce_spec.specs.Declarations.{Declarations, tensor_number, tensor_at}
use Rattle.tce_spec.specs.DeclarationLines.{twice_after}
use Rattle.tce_spec.specs.Places.{Place, reference, listing}

abbrev pub undeclared_index : IndexSpace → List (List ℕ) → Option (List ℕ)
undeclared_index space names = find (λ name. is_none (index_number space name)) names

-- the first name that is not declared: a tensor's, then those of indexes
abbrev pub undeclared : Declarations → Place → Option (List ℕ)
undeclared d (reference name indexes) = if is_none (tensor_number d.tensors name) then Some name else undeclared_index d.space indexes
undeclared d (listing indexes) = undeclared_index d.space indexes

-- the numbers of the ranges of a tensor's positions; of no declared tensor, none
abbrev pub ranges_of : Declarations → List ℕ → List ℕ
ranges_of d name = option_map_or (λ t. (tensor_at d t).ranges) (tensor_number d.tensors name) []

-- a tensor that has not as many indexes as it has positions
abbrev pub other_rank : Declarations → Place → Option (List ℕ)
other_rank d (reference name indexes) = if length indexes == length (ranges_of d name) then None else Some name
other_rank d (listing indexes) = None

-- whether a declared index is of this range
abbrev pub has_range : IndexSpace → List ℕ → ℕ → Bool
has_range space name range = option_map_or (λ i. (index_at space i).of_range == range) (index_number space name) true

-- the first index that is of another range than the one at its place
abbrev pub wrong_index : IndexSpace → List (List ℕ) → List ℕ → Option (List ℕ)
wrong_index space names ranges =
    option_map (λ (at : List ℕ × ℕ). at.0) (find (λ (at : List ℕ × ℕ). not (has_range space at.0 at.1)) (zip names ranges))

abbrev pub other_range : Declarations → Place → Option (List ℕ)
other_range d (reference name indexes) = wrong_index d.space indexes (ranges_of d name)
other_range d (listing indexes) = None

-- the first index that stands in a list for the second time
abbrev pub listed_twice : Place → Option (List ℕ)
listed_twice (reference name indexes) = None
listed_twice (listing indexes) = twice_after [] indexes

-- the tensor of this name
abbrev pub tensor_named : List ℕ → Place → Option (List ℕ)
tensor_named result (reference name indexes) = if bytes_eq name result then Some name else None
tensor_named result (listing indexes) = None
