-- The texts that report a plan.
use Rattle.std.specs.Prelude.{ℕ, List, [], ◌∷◌, ◌++◌, codes}
use Rattle.std.specs.Fmt.{decimal}
use Rattle.std.specs.List.{flat_map, range_with_len}
use Rattle.tce_space.specs.Space.{IndexSpace}
use Rattle.tce_tree.specs.ContractionTree.{ContractionTree, operations}
use Rattle.tce_report.specs.NodeLine.{Stated, node_line, stated}
use Rattle.tce_nesting.specs.declared.plan.Plan.{Plan}

-- the lines of all nodes in order
unfoldable pub node_lines : IndexSpace → ContractionTree → Stated → List ℕ
node_lines space tree s = flat_map (λ v. node_line space tree s v ++ 10 ∷ []) (range_with_len 0 (operations tree))

-- the report of a plan
unfoldable pub plan_text : IndexSpace → ContractionTree → Stated → List ℕ
plan_text space tree s = codes "tce plan 1\n" ++ (node_lines space tree s ++ (codes "memory " ++ (decimal s.memory ++ codes "\n")))

-- the report of a run that took this many words for tiles, and whose result's file has this name and this many bytes
unfoldable pub run_text : IndexSpace → ContractionTree → Stated → ℕ → List ℕ → ℕ → List ℕ
run_text space tree s tiles file bytes =
    codes "tce run 1\n" ++ (node_lines space tree s ++ (codes "memory " ++ (decimal s.memory ++ (codes "\ntiles " ++ (decimal tiles
    ++ (codes "\nwrote " ++ (file ++ (codes " " ++ (decimal bytes ++ codes "\n")))))))))

-- the same of a plan of the code
abbrev pub plan_lines : IndexSpace → ContractionTree → Plan → List ℕ
plan_lines space tree plan = node_lines space tree (stated plan)

abbrev pub plan_report : IndexSpace → ContractionTree → Plan → List ℕ
plan_report space tree plan = plan_text space tree (stated plan)

abbrev pub run_report : IndexSpace → ContractionTree → Plan → ℕ → List ℕ → ℕ → List ℕ
run_report space tree plan tiles file bytes = run_text space tree (stated plan) tiles file bytes
