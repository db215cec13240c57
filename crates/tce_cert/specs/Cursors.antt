-- What is read of a text from a cursor on: the lines that are passed over, and the faults of what is left.
use Rattle.std.specs.Prelude.{◌≡◌, ℕ, ◌-◌, List, [], ◌∷◌, length, map, replicate}
use Rattle.std.specs.List.{range_with_len}
use Rattle.tce_space.specs.Space.{IndexSpace}
use Rattle.tce_tree.specs.ContractionTree.{ContractionTree, operations, node_dims}
use Rattle.tce_fusion.specs.Row.{Row}
use Rattle.tce_report.specs.NodeLine.{Says}
use Rattle.tce_report.specs.ReadLine.{said}
use Rattle.tce_report.specs.declared.node_reader.NodeLine.{NodeLine}
use Rattle.tce_cert.specs.Lines.{opening_line}
use Rattle.tce_cert.specs.Forms.{StatesMemory, StatesTable, StatesRow}
use Rattle.tce_cert.specs.Faults.{Due, node, table, row, IsFaultIn}
use Rattle.tce_cert.specs.Reading.{ReadsThat, ReadsRows, ReadsTables, KeepsFaults}
use Rattle.tce_cert.specs.declared.cursor.Cursor.{Cursor}
use Rattle.tce_cert.specs.declared.fault.CertFault.{CertFault}

-- one line stands between the two, of which this holds
abbrev pub Passes : Cursor → Cursor → (List ℕ → Type 0) → Type 0
Passes from to Holds = ReadsThat from.rest.now from.number to.rest.now to.number Holds

-- the first line was read
abbrev pub ReadsOpening : Cursor → Cursor → Type 0
ReadsOpening from to = Passes from to (λ line. line ≡ opening_line)

-- the line of node `v` was read, which says this
abbrev pub ReadsNode : IndexSpace → ContractionTree → ℕ → Cursor → NodeLine × Cursor → Type 0
ReadsNode space tree v from read = Passes from read.1 (λ line. Says space tree v line (said read.0))

-- the line of the memory was read, which states this total
abbrev pub ReadsMemory : Cursor → ℕ × Cursor → Type 0
ReadsMemory from read = Passes from read.1 (λ line. StatesMemory line read.0)

-- the head of the table of node `v` was read, which states so many rows
abbrev pub ReadsTable : ℕ → Cursor → ℕ × Cursor → Type 0
ReadsTable v from read = Passes from read.1 (λ line. StatesTable line v read.0)

-- this row of node `v` was read
abbrev pub ReadsRow : IndexSpace → ContractionTree → ℕ → Cursor → Row × Cursor → Type 0
ReadsRow space tree v from read = Passes from read.1 (λ line. StatesRow space (node_dims tree v) line read.0)

-- so many rows of node `v` were read into its table
abbrev pub AddsRows : IndexSpace → ContractionTree → ℕ → ℕ → List (List Row) → List (List Row) → Cursor → Cursor → Type 0
AddsRows space tree v rows old new from to = ReadsRows space tree v rows old new from.rest.now to.rest.now

-- these tables were read
abbrev pub ReadsAllTables : IndexSpace → ContractionTree → Cursor → List (List Row) × Cursor → Type 0
ReadsAllTables space tree from read = ReadsTables space tree (length read.0) read.0 from.rest.now read.1.rest.now

-- the first fault of what is left, where these lines are due and no others
abbrev pub IsFaultOfRest : IndexSpace → ContractionTree → List Due → Cursor → CertFault → Type 0
IsFaultOfRest space tree due from fault = IsFaultIn space tree due from.number from.rest.now fault

-- the first fault of what is left, where this line is due, whatever is due behind it
abbrev pub IsFaultAt : IndexSpace → ContractionTree → Due → Cursor → CertFault → Type 0
IsFaultAt space tree due from fault = (behind : List Due) → IsFaultIn space tree (due ∷ behind) from.number from.rest.now fault

-- a fault behind the lines of all nodes is one of the whole
abbrev pub KeepsNodeFaults : IndexSpace → ContractionTree → Cursor → Cursor → Type 0
KeepsNodeFaults space tree from to =
    KeepsFaults space tree (map node (range_with_len 0 (operations tree))) from.number from.rest.now [] to.number to.rest.now

-- a fault behind so many rows of node `v` is one of the whole
abbrev pub KeepsRowFaults : IndexSpace → ContractionTree → ℕ → ℕ → Cursor → Cursor → Type 0
KeepsRowFaults space tree v rows from to =
    KeepsFaults space tree (replicate rows (row v)) from.number from.rest.now [] to.number to.rest.now

-- a fault behind the tables of all nodes but the root is one of the whole
abbrev pub KeepsTableFaults : IndexSpace → ContractionTree → Cursor → Cursor → Type 0
KeepsTableFaults space tree from to =
    KeepsFaults space tree (map table (range_with_len 0 (operations tree - 1))) from.number from.rest.now [] to.number to.rest.now
