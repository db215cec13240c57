-- What is due on each line of a certificate, and the first line at fault.
use Rattle.std.specs.Prelude.{◌≡◌, ◌≢◌, ℕ, ◌+◌, ◌-◌, ◌==◌, ◌⊎◌, List, [], ◌∷◌, ◌++◌, map, replicate}
use Rattle.std.specs.List.{range_with_len, slice_split}
use Rattle.tce_space.specs.Space.{IndexSpace}
use Rattle.tce_tree.specs.ContractionTree.{ContractionTree, operations, node_dims}
use Rattle.tce_fusion.specs.Row.{Row}
use Rattle.tce_report.specs.NodeForm as nodes
use Rattle.tce_report.specs.NodeLine.{Said, Says}
use Rattle.tce_cert.specs.Forms as others
use Rattle.tce_cert.specs.Forms.{StatesMemory, StatesTable, StatesRow}
use Rattle.tce_cert.specs.Lines.{opening_line, end_line}
use Rattle.tce_cert.specs.declared.fault.CertFault.{CertFault}
use Rattle.tce_cert.specs.declared.fault.CertFault.TheVariants.{BadText, WrongTree}

-- a line by its place in a certificate; a table and a row by their node
pub data Due : Type 0 where
  opening : Due
  node : ℕ → Due
  memory : Due
  table : ℕ → Due
  row : ℕ → Due
  ending : Due

-- what is due behind the memory: a table for each node but the root, and the end
abbrev pub tables_due : ContractionTree → List Due
tables_due tree = map table (range_with_len 0 (operations tree - 1)) ++ ending ∷ []

-- what is due at first, but for the rows, whose number each table states
abbrev pub all_due : ContractionTree → List Due
all_due tree = opening ∷ (map node (range_with_len 0 (operations tree)) ++ (memory ∷ tables_due tree))

-- the line is the one that is due, and states that these are due behind it
abbrev pub IsDue : IndexSpace → ContractionTree → Due → List ℕ → List Due → Type 0
IsDue space tree opening line more = (line ≡ opening_line) × (more ≡ [])
IsDue space tree (node v) line more = ((said : Said) × Says space tree v line said) × (more ≡ [])
IsDue space tree memory line more = ((total : ℕ) × StatesMemory line total) × (more ≡ [])
IsDue space tree (table v) line more = (rows : ℕ) × (StatesTable line v rows × (more ≡ replicate rows (row v)))
IsDue space tree (row v) line more = ((r : Row) × StatesRow space (node_dims tree v) line r) × (more ≡ [])
IsDue space tree ending line more = (line ≡ end_line) × (more ≡ [])

-- the line has one of the seven forms
abbrev pub HasForm : List ℕ → Type 0
HasForm line = others.HasForm line ⊎ nodes.HasForm line

-- the fault of a line that is not the one due
abbrev pub IsFaultOf : List ℕ → ℕ → CertFault → Type 0
IsFaultOf line n fault = (HasForm line × (fault ≡ WrongTree n)) ⊎ ((HasForm line → ⊥) × (fault ≡ BadText n))

-- the first fault in lines from number `n` on; the last part of a text has no line feed behind it, and is no line where it is empty
abbrev pub IsFirstFault : IndexSpace → ContractionTree → List Due → ℕ → List (List ℕ) → CertFault → Type 0
IsFirstFault space tree due n [] fault = ⊥
IsFirstFault space tree [] n (last ∷ []) fault = (last ≢ []) × (fault ≡ BadText n)
IsFirstFault space tree (d ∷ ds) n (last ∷ []) fault = fault ≡ BadText n
IsFirstFault space tree [] n (line ∷ next ∷ parts) fault = IsFaultOf line n fault
IsFirstFault space tree (d ∷ ds) n (line ∷ next ∷ parts) fault =
    ((more : List Due) × (IsDue space tree d line more × IsFirstFault space tree (more ++ ds) (n + 1) (next ∷ parts) fault))
    ⊎ (((more : List Due) → IsDue space tree d line more → ⊥) × IsFaultOf line n fault)

-- the first fault of a text behind which these lines are due, where its first line has number `n`
abbrev pub IsFaultIn : IndexSpace → ContractionTree → List Due → ℕ → List ℕ → CertFault → Type 0
IsFaultIn space tree due n text fault = IsFirstFault space tree due n (slice_split (λ b. b == 10) text) fault

-- the first fault of a certificate
abbrev pub IsFault : IndexSpace → ContractionTree → List ℕ → CertFault → Type 0
IsFault space tree text fault = IsFaultIn space tree (all_due tree) 1 text fault
