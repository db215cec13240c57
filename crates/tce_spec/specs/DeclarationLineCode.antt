-- Lines that declare, as the program has them: names and digits are parts of the text. A line is free of faults, or what the
-- program answers is its fault or want of memory.
use Rattle.std.specs.Prelude.{◌≡◌, ℕ, List, Option, None}
use Rattle.std.specs.Borrow.{Bor}
use Rattle.tce_space.specs.Space.{IndexSpace, tiling_of}
use Rattle.tce_grammar.specs.Code.{names, text_if_some}
use Rattle.tce_spec.specs.Declarations.{Declarations}
use Rattle.tce_spec.specs.DeclarationLines.{range_fault, with_range, index_fault, with_indexes, with_numbered_indexes, tensor_fault, numbers_of_ranges}
use Rattle.tce_spec.specs.FaultCode.{Shows}
use Rattle.tce_spec.specs.declared.declarations.Tensor.{Tensor}
use Rattle.tce_spec.specs.declared.fault.SpecFault.{SpecFault}

-- `range NAME EXTENT`, or `range NAME EXTENT tile EDGE`
abbrev pub RangeFits : ℕ → IndexSpace → List ℕ → List ℕ → Option (Bor (List ℕ)) → Type 0
RangeFits line space name extent edge = range_fault line space name extent (text_if_some edge) ≡ None

abbrev pub ShowsRange : ℕ → IndexSpace → List ℕ → List ℕ → Option (Bor (List ℕ)) → SpecFault → Type 0
ShowsRange line space name extent edge fault = Shows (range_fault line space name extent (text_if_some edge)) fault

-- the space has this range behind those before
abbrev pub HasRange : IndexSpace → IndexSpace → List ℕ → List ℕ → Option (Bor (List ℕ)) → Type 0
HasRange before after name extent edge = after ≡ with_range before name extent (text_if_some edge)

-- these are the declarations before, with this range behind their ranges
abbrev pub DeclaresRange : Declarations → List ℕ → List ℕ → Option (Bor (List ℕ)) → Declarations → Type 0
DeclaresRange d name extent edge after = after ≡ record { space = with_range d.space name extent (text_if_some edge); tensors = d.tensors }

-- `index RANGE NAME NAME ..`
abbrev pub IndexesFit : ℕ → IndexSpace → List ℕ → List (Bor (List ℕ)) → Type 0
IndexesFit line space range indexes = index_fault line space range (names indexes) ≡ None

abbrev pub ShowsIndexes : ℕ → IndexSpace → List ℕ → List (Bor (List ℕ)) → SpecFault → Type 0
ShowsIndexes line space range indexes fault = Shows (index_fault line space range (names indexes)) fault

-- the space has these indexes behind those before, of the range with this number, or with this name
abbrev pub HasNumberedIndexes : IndexSpace → IndexSpace → ℕ → List (Bor (List ℕ)) → Type 0
HasNumberedIndexes before after range indexes = after ≡ with_numbered_indexes before range (names indexes)

abbrev pub HasIndexes : IndexSpace → IndexSpace → List ℕ → List (Bor (List ℕ)) → Type 0
HasIndexes before after range indexes = after ≡ with_indexes before range (names indexes)

-- these are the declarations before, with these indexes behind their indexes
abbrev pub DeclaresIndexes : Declarations → List ℕ → List (Bor (List ℕ)) → Declarations → Type 0
DeclaresIndexes d range indexes after = after ≡ record { space = with_indexes d.space range (names indexes); tensors = d.tensors }

-- `tensor NAME[RANGE,RANGE,..]`
abbrev pub TensorFits : ℕ → Declarations → List ℕ → List (Bor (List ℕ)) → Type 0
TensorFits line d name ranges = tensor_fault line d name (names ranges) ≡ None

abbrev pub ShowsTensor : ℕ → Declarations → List ℕ → List (Bor (List ℕ)) → SpecFault → Type 0
ShowsTensor line d name ranges fault = Shows (tensor_fault line d name (names ranges)) fault

-- the tensor is over the ranges with these names, and has the shape that they give
abbrev pub IsOverRanges : IndexSpace → List (Bor (List ℕ)) → Tensor → Type 0
IsOverRanges space ranges tensor = tensor.ranges.items ≡ numbers_of_ranges space (names ranges)

abbrev pub HasShapeOf : IndexSpace → List (Bor (List ℕ)) → Tensor → Type 0
HasShapeOf space ranges tensor = tensor.shape ≡ tiling_of space (numbers_of_ranges space (names ranges))
