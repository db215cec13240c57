-- Lines of statements, behind what is printed.
use Rattle.std.specs.Prelude.{◌∷◌, ◌++◌, List, [], fold, ℕ}
use Rattle.tce_grammar.specs.Grammar.{Statement, listed}
use Rattle.tce_grammar.specs.Canonical.{canonical_tokens}
use Rattle.tce_grammar.specs.Printed.{Printing, with_tokens, line_start}
use Rattle.tce_space.specs.Space.{IndexSpace}
use Rattle.tce_spec.specs.Statements.{range_names, index_names, tensor_statement, tensor_statements}
use Rattle.tce_spec.specs.Declarations.{Declarations, tensor_at}

-- the line of a statement, with its line feed
abbrev pub with_line : Printing → Statement → Printing
with_line p s = line_start ((with_tokens p (canonical_tokens s)).text ++ 10 ∷ [])

abbrev pub with_lines : Printing → List Statement → Printing
with_lines p ss = fold with_line p ss

-- names of ranges, or of indexes, with a comma between each two
abbrev pub with_ranges : Printing → IndexSpace → List ℕ → Printing
with_ranges p space ranges = with_tokens p (listed (range_names space ranges))

abbrev pub with_indexes : Printing → IndexSpace → List ℕ → Printing
with_indexes p space indexes = with_tokens p (listed (index_names space indexes))

-- the line of the tensor with this number, and the lines of all tensors
abbrev pub with_tensor : Printing → Declarations → ℕ → Printing
with_tensor p d t = with_line p (tensor_statement d.space (tensor_at d t))

abbrev pub with_tensors : Printing → Declarations → Printing
with_tensors p d = with_lines p (tensor_statements d)
