-- What a reader of lines passes over.
use Rattle.std.specs.Prelude.{◌≡◌, ℕ, ◌+◌, ◌<◌, List, ◌++◌, length, map, slice_set}
use Rattle.std.specs.List.{All, range_with_len}
use Rattle.tce_space.specs.Space.{IndexSpace}
use Rattle.tce_tree.specs.ContractionTree.{ContractionTree, node_dims}
use Rattle.tce_fusion.specs.Row.{Row, rows_at}
use Rattle.tce_nesting.specs.Plan.{RowFits}
use Rattle.tce_report.specs.NodeLine.{Stated, MaySay, said_of, node_line}
use Rattle.tce_cert.specs.Lines.{row_line}
use Rattle.tce_cert.specs.declared.fault.CertFault.{CertFault}
use Rattle.tce_cert.specs.Certificate.{text_of, tables_lines}
use Rattle.tce_cert.specs.Faults.{Due, IsFaultIn}
use Rattle.tce_cert.specs.Laws.{IsNestingRow, AreNestingRows}
use Rattle.tce_cert.specs.Cut.{IsCut}

-- the text, whose first line has number `n`, begins with this line and its line feed
pub record ReadsLine (text : List ℕ) (n : ℕ) (line rest : List ℕ) (next : ℕ) : Type 0 where
  pub cut : IsCut 10 text line rest
  pub number_is : next ≡ n + 1

-- the same of some line of which this holds
pub record ReadsThat (text : List ℕ) (n : ℕ) (rest : List ℕ) (next : ℕ) (Holds : List ℕ → Type 0) : Type 0 where
  pub line : List ℕ
  pub reads : ReadsLine text n line rest next
  pub holds : Holds line

-- the next rows of node `v` were read into its table
pub record ReadsRows (space : IndexSpace) (tree : ContractionTree) (v count : ℕ) (old new : List (List Row)) (text rest : List ℕ) : Type 0 where
  pub rows : List Row
  pub count_is : length rows ≡ count
  pub tables_are : new ≡ slice_set old v (rows_at old v ++ rows)
  pub fit : All (RowFits (node_dims tree v)) rows
  pub nestings : All IsNestingRow rows
  pub text_is : text ≡ text_of (map (row_line space) rows) ++ rest

-- a fault behind what was read is one of the whole
abbrev pub KeepsFaults : IndexSpace → ContractionTree → List Due → ℕ → List ℕ → List Due → ℕ → List ℕ → Type 0
KeepsFaults space tree before n text behind next rest =
    (ds : List Due) (fault : CertFault) → IsFaultIn space tree (behind ++ ds) next rest fault → IsFaultIn space tree (before ++ ds) n text fault

-- the tables of the nodes below `v` were read
pub record ReadsTables (space : IndexSpace) (tree : ContractionTree) (v : ℕ) (tables : List (List Row)) (text rest : List ℕ) : Type 0 where
  pub fit : (w : ℕ) → w < v → All (RowFits (node_dims tree w)) (rows_at tables w)
  pub nestings : (w : ℕ) → w < v → AreNestingRows (rows_at tables w)
  pub text_is : text ≡ text_of (tables_lines space tables v) ++ rest

-- what lines of nodes say, in lists by the numbers of the nodes
abbrev pub saying : List ℕ → List (List ℕ) → List ℕ → Stated
saying fusion orders sizes = record { fusion = fusion; orders = orders; sizes = sizes; memory = 0 }

-- the lines of the nodes below `v` were read, which say this
pub record ReadsNodes (space : IndexSpace) (tree : ContractionTree) (v : ℕ) (s : Stated) (text rest : List ℕ) : Type 0 where
  pub fusion_count : length s.fusion ≡ v
  pub orders_count : length s.orders ≡ v
  pub says : (w : ℕ) → w < v → MaySay tree w (said_of s w)
  pub text_is : text ≡ text_of (map (node_line space tree s) (range_with_len 0 v)) ++ rest
