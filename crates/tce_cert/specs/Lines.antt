-- The lines of certificates but those of nodes.
use Rattle.std.specs.Prelude.{ℕ, List, [], ◌∷◌, ◌++◌, map, codes}
use Rattle.std.specs.Fmt.{decimal}
use Rattle.std.specs.List.{join_with_byte}
use Rattle.tce_space.specs.Space.{IndexSpace}
use Rattle.tce_fusion.specs.Row.{Row}
use Rattle.tce_report.specs.NodeLine.{set_text}

-- classes outermost first with `/` between each two, `-` where there are none
abbrev pub classes_text : IndexSpace → List ℕ → List ℕ
classes_text space [] = codes "-"
classes_text space (class ∷ classes) = join_with_byte 47 (map (set_text space) (class ∷ classes))

abbrev pub opening_line : List ℕ
opening_line = codes "tce certificate 1"

abbrev pub memory_line : ℕ → List ℕ
memory_line memory = codes "memory " ++ decimal memory

-- the table of node `v` has this many rows
abbrev pub table_line : ℕ → ℕ → List ℕ
table_line v rows = codes "table " ++ (decimal v ++ (codes " " ++ decimal rows))

-- a cost, and classes as they are written
abbrev pub cost_line : ℕ → List ℕ → List ℕ
cost_line cost classes = codes "row " ++ (decimal cost ++ (codes " " ++ classes))

abbrev pub row_line : IndexSpace → Row → List ℕ
row_line space row = cost_line row.cost (classes_text space row.classes)

abbrev pub end_line : List ℕ
end_line = codes "end"
