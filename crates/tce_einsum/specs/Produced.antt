-- The text that an einsum and a path produce: a range for each different pair of extent and edge, an index for each label, the operands and the result, and the formula of the entry that the path leaves. It is the canonical text of its statements.
use Rattle.std.specs.Prelude.{ℕ, ◌&&◌, Bool, if◌then◌else◌, List, [], ◌∷◌, ◌++◌, fold, map, codes, slice_index_or, Option}
use Rattle.std.specs.declared.option.Option.TheVariants.{Some, None}
use Rattle.std.specs.Fmt.{decimal}
use Rattle.std.specs.List.{list_any, position_or_len}
use Rattle.std.specs.Str.{bytes_eq}
use Rattle.tce_space.specs.Space.{Index}
use Rattle.tce_tree.specs.ContractionTree.{ContractionTree, leaf, constant, binary, sum}
use Rattle.tce_grammar.specs.Formula as formulas
use Rattle.tce_grammar.specs.Formula.{Formula}
use Rattle.tce_grammar.specs.Grammar.{Statement, range, index, declaration, formula}
use Rattle.tce_grammar.specs.Canonical.{canonical_text}
use Rattle.tce_spec.specs.Statements.{Group, groups}
use Rattle.tce_einsum.specs.Text.{Size, Einsum}
use Rattle.tce_einsum.specs.Path.{Item}
use Rattle.tce_einsum.specs.Entries.{numbered}
use Rattle.tce_einsum.specs.Numbered.{number_of, contraction_of}

-- the digits of an extent and of an edge
pub record Tiled : Type 0 where
  pub extent : List ℕ
  pub edge : List ℕ

-- where no edge stands it is 1
abbrev pub edge_or_one : Option (List ℕ) → List ℕ
edge_or_one None = codes "1"
edge_or_one (Some digits) = digits

abbrev pub tiled : Size → Tiled
tiled s = record { extent = s.extent; edge = edge_or_one s.edge }

abbrev pub is_same : Tiled → Tiled → Bool
is_same a b = bytes_eq a.extent b.extent && bytes_eq a.edge b.edge

-- a list with one more, unless it has it
abbrev pub with_new : List Tiled → Tiled → List Tiled
with_new seen t = if list_any (is_same t) seen then seen else seen ++ t ∷ []

-- the different pairs of extent and edge, by their first places
abbrev pub ranges : List Size → List Tiled
ranges sizes = fold with_new [] (map tiled sizes)

-- the range of each size
abbrev pub range_numbers : List Size → List ℕ
range_numbers sizes = map (λ s. position_or_len (is_same (tiled s)) (ranges sizes)) sizes

-- the range of a label
abbrev pub range_of : List Size → ℕ → ℕ
range_of sizes label = slice_index_or (range_numbers sizes) (number_of sizes label) 0

-- the label with this number
abbrev pub label_at : List Size → ℕ → ℕ
label_at sizes i = slice_index_or (map (λ (s : Size). s.label) sizes) i 0

-- `N0`, `N1` and so on, and `X0`, `X1` and so on
abbrev pub range_name : ℕ → List ℕ
range_name r = codes "N" ++ decimal r

abbrev pub operand_name : ℕ → List ℕ
operand_name k = codes "X" ++ decimal k

abbrev pub result_name : List ℕ
result_name = codes "Y"

-- an index is named by its letter
abbrev pub letter_names : List ℕ → List (List ℕ)
letter_names letters = map (λ letter. letter ∷ []) letters

abbrev pub label_names : List Size → List ℕ → List (List ℕ)
label_names sizes is = letter_names (map (label_at sizes) is)

abbrev pub range_names : List Size → List ℕ → List (List ℕ)
range_names sizes labels = map range_name (map (range_of sizes) labels)

-- an edge of 1 is not written
abbrev pub written_edge : List ℕ → Option (List ℕ)
written_edge edge = if bytes_eq edge (codes "1") then None else Some edge

abbrev pub range_statement : ℕ → Tiled → Statement
range_statement r t = range (range_name r) t.extent (written_edge t.edge)

abbrev pub range_statements : List Size → List Statement
range_statements sizes = numbered range_statement 0 (ranges sizes)

-- an index for each label, in order of the sizes
abbrev pub index_of : List Tiled → Size → Index
index_of rs s = record { name = s.label ∷ []; of_range = position_or_len (is_same (tiled s)) rs }

abbrev pub indexes : List Size → List Index
indexes sizes = map (index_of (ranges sizes)) sizes

abbrev pub index_statement : Group → Statement
index_statement g = index (range_name g.of_range) g.names

-- neighbours of one range stand in one line
abbrev pub index_statements : List Size → List Statement
index_statements sizes = map index_statement (groups (indexes sizes))

abbrev pub operand_statement : List Size → ℕ → List ℕ → Statement
operand_statement sizes k labels = declaration (operand_name k) (range_names sizes labels)

abbrev pub result_statement : Einsum → Statement
result_statement x = declaration result_name (range_names x.sizes x.output)

-- the operands, and last the result
abbrev pub tensor_statements : Einsum → List Statement
tensor_statements x = numbered (operand_statement x.sizes) 0 x.operands ++ result_statement x ∷ []

-- a tree with names for its numbers
abbrev pub formula_of : List Size → ContractionTree → Formula
formula_of sizes (leaf operand labels) = formulas.tensor (operand_name operand) (label_names sizes labels)
formula_of sizes (constant number) = formulas.constant (decimal number)
formula_of sizes (binary op left right) = formulas.binary op (formula_of sizes left) (formula_of sizes right)
formula_of sizes (sum labels operand) = formulas.sum (label_names sizes labels) (formula_of sizes operand)

abbrev pub formula_statement : Einsum → ContractionTree → Statement
formula_statement x tree = formula result_name (letter_names x.output) (formula_of x.sizes tree)

abbrev pub statements : Einsum → ContractionTree → List Statement
statements x tree = range_statements x.sizes ++ (index_statements x.sizes ++ (tensor_statements x ++ formula_statement x tree ∷ []))

abbrev pub produced_text : Einsum → List Item → List ℕ
produced_text x items = canonical_text (statements x (contraction_of x items))
