-- The canonical text of declarations and of a contraction over them, by the statements of its lines.
use Rattle.std.specs.Prelude.{ℕ, ◌==◌, if◌then◌else◌, List, [], ◌∷◌, ◌++◌, map, Option, ◌≡◌, ◌≢◌}
use Rattle.std.specs.declared.option.Option.TheVariants.{Some, None}
use Rattle.std.specs.Fmt.{decimal}
use Rattle.tce_space.specs.Space.{Range, Index, IndexSpace, range_at, index_at}
use Rattle.tce_tree.specs.ContractionTree.{ContractionTree, leaf, constant, binary, sum}
use Rattle.tce_grammar.specs.Formula as formulas
use Rattle.tce_grammar.specs.Formula.{Formula}
use Rattle.tce_grammar.specs.Grammar.{Statement, range, index, declaration, formula}
use Rattle.tce_grammar.specs.Canonical.{canonical_text}
use Rattle.tce_spec.specs.Declarations.{Declarations, Tensor, tensor_at}

-- an edge of 1 is not written
abbrev pub edge_digits : ℕ → Option (List ℕ)
edge_digits edge = if edge == 1 then None else Some (decimal edge)

abbrev pub range_statement : Range → Statement
range_statement r = range r.name (decimal r.extent) (edge_digits r.edge)

abbrev pub range_names : IndexSpace → List ℕ → List (List ℕ)
range_names space rs = map (λ r. (range_at space r).name) rs

abbrev pub index_names : IndexSpace → List ℕ → List (List ℕ)
index_names space is = map (λ i. (index_at space i).name) is

-- the names of indexes of one range
pub record Group : Type 0 where
  pub of_range : ℕ
  pub names : List (List ℕ)

-- an index in front of groups joins the first one where that is of its range
abbrev pub in_group : Index → List Group → List Group
in_group i [] = record { of_range = i.of_range; names = i.name ∷ [] } ∷ []
in_group i (g ∷ gs) =
    if i.of_range == g.of_range then record { of_range = i.of_range; names = i.name ∷ g.names } ∷ gs
    else record { of_range = i.of_range; names = i.name ∷ [] } ∷ g ∷ gs

-- neighbours of one range stand in one group
abbrev pub groups : List Index → List Group
groups [] = []
groups (i ∷ is) = in_group i (groups is)

abbrev pub index_statement : IndexSpace → Group → Statement
index_statement space g = index (range_at space g.of_range).name g.names

abbrev pub tensor_statement : IndexSpace → Tensor → Statement
tensor_statement space t = declaration t.name (range_names space t.ranges)

-- a tree with names for its numbers
abbrev pub formula_of : Declarations → ContractionTree → Formula
formula_of d (leaf tensor indexes) = formulas.tensor (tensor_at d tensor).name (index_names d.space indexes)
formula_of d (constant number) = formulas.constant (decimal number)
formula_of d (binary op left right) = formulas.binary op (formula_of d left) (formula_of d right)
formula_of d (sum indexes operand) = formulas.sum (index_names d.space indexes) (formula_of d operand)

abbrev pub formula_statement : Declarations → ℕ → List ℕ → ContractionTree → Statement
formula_statement d result indexes tree = formula (tensor_at d result).name (index_names d.space indexes) (formula_of d tree)

-- the statement of the range with this number
abbrev pub range_line : IndexSpace → ℕ → Statement
range_line space r = range_statement (range_at space r)

-- those of all ranges, of all indexes, and of all tensors
abbrev pub range_statements : IndexSpace → List Statement
range_statements space = map range_statement space.ranges

abbrev pub index_statements : IndexSpace → List Statement
index_statements space = map (index_statement space) (groups space.indexes)

abbrev pub tensor_statements : Declarations → List Statement
tensor_statements d = map (tensor_statement d.space) d.tensors

-- two indexes are of one range, or of different ones
abbrev pub SameRange : IndexSpace → ℕ → ℕ → Type 0
SameRange space i j = (index_at space i).of_range ≡ (index_at space j).of_range

abbrev pub OtherRange : IndexSpace → ℕ → ℕ → Type 0
OtherRange space i j = (index_at space i).of_range ≢ (index_at space j).of_range

-- the ranges, the indexes, the tensors, and the formula
abbrev pub statements : Declarations → ℕ → List ℕ → ContractionTree → List Statement
statements d result indexes tree =
    range_statements d.space
    ++ (index_statements d.space
    ++ (tensor_statements d
    ++ formula_statement d result indexes tree ∷ []))

abbrev pub canonical : Declarations → ℕ → List ℕ → ContractionTree → List ℕ
canonical d result indexes tree = canonical_text (statements d result indexes tree)
