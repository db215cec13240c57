-- The text of a certificate: a plan in lines.
use Rattle.std.specs.Prelude.{ℕ, List, [], ◌∷◌, ◌++◌, map, length, ◌<◌}
use Rattle.std.specs.List.{flat_map, range_with_len, All}
use Rattle.tce_space.specs.Space.{IndexSpace, IsDeclared}
use Rattle.tce_tree.specs.ContractionTree.{ContractionTree, operations}
use Rattle.tce_fusion.specs.Row.{Row, rows_at}
use Rattle.tce_nesting.specs.declared.plan.Plan.{Plan}
use Rattle.tce_report.specs.NodeLine.{node_line, stated}
use Rattle.tce_cert.specs.Lines.{opening_line, memory_line, table_line, row_line, end_line}

-- the table of node `v`, and its rows
abbrev pub table_lines : IndexSpace → List (List Row) → ℕ → List (List ℕ)
table_lines space tables v = table_line v (length (rows_at tables v)) ∷ map (row_line space) (rows_at tables v)

-- the tables of the nodes below `v`
abbrev pub tables_lines : IndexSpace → List (List Row) → ℕ → List (List ℕ)
tables_lines space tables v = flat_map (table_lines space tables) (range_with_len 0 v)

-- the lines of the nodes below `v`
abbrev pub nodes_lines : IndexSpace → ContractionTree → Plan → ℕ → List (List ℕ)
nodes_lines space tree plan v = map (node_line space tree (stated plan)) (range_with_len 0 v)

-- the lines of a plan that fits the tree
unfoldable pub certificate_lines : IndexSpace → ContractionTree → Plan → List (List ℕ)
certificate_lines space tree plan =
    opening_line ∷ (nodes_lines space tree plan (operations tree)
    ++ (memory_line plan.memory ∷ (tables_lines space plan.tables (length plan.tables) ++ end_line ∷ [])))

-- each line with a line feed behind it
abbrev pub text_of : List (List ℕ) → List ℕ
text_of lines = flat_map (λ line. line ++ 10 ∷ []) lines

unfoldable pub certificate : IndexSpace → ContractionTree → Plan → List ℕ
certificate space tree plan = text_of (certificate_lines space tree plan)

-- what stands in front of some lines, with them and their line feeds behind it: those of all nodes, of all tables, of rows, of a row
abbrev pub with_nodes : List ℕ → IndexSpace → ContractionTree → Plan → List ℕ
with_nodes text space tree plan = text ++ text_of (nodes_lines space tree plan (operations tree))

abbrev pub with_tables : List ℕ → IndexSpace → List (List Row) → List ℕ
with_tables text space tables = text ++ text_of (tables_lines space tables (length tables))

abbrev pub with_rows : List ℕ → IndexSpace → List Row → List ℕ
with_rows text space rows = text ++ text_of (map (row_line space) rows)

abbrev pub with_row : List ℕ → IndexSpace → Row → List ℕ
with_row text space row = text ++ (row_line space row ++ 10 ∷ [])

-- the classes of these rows have declared indexes, and those of all tables
abbrev pub AreDeclaredRows : IndexSpace → List Row → Type 0
AreDeclaredRows space rows = All (λ (row : Row). All (IsDeclared space) row.classes) rows

abbrev pub AreDeclaredTables : IndexSpace → List (List Row) → Type 0
AreDeclaredTables space tables = (v : ℕ) → v < length tables → AreDeclaredRows space (rows_at tables v)
