use Rattle.std.proofs.Common.{◌≡◌, ◌-◌, length, map}
use Rattle.std.specs.List.{range_with_len}
use Rattle.tce_tree.specs.ContractionTree.{operations}
use Rattle.tce_cert.specs.Faults.{table}
use Rattle.tce_cert.specs.Reading.{ReadsTables, KeepsFaults}
use Rattle.tce_cert.proofs.TableRuns.{EmptyFrom}
use Rattle.tce_cert.proofs.tables.read_tables.Given as goal

abbrev pub invariant-loop-v : goal.invariant-loop-v
invariant-loop-v l = record {
  count : length l.tables ≡ l.inner;
  empty : EmptyFrom l.v l.tables;
  read : ReadsTables l.space l.tree l.v l.tables l.from.rest.now l.at.rest.now;
  keeps : KeepsFaults l.space l.tree (map table (range_with_len 0 (operations l.tree - 1))) l.from.number l.from.rest.now (map table (range_with_len l.v (operations l.tree - 1 - l.v))) l.at.number l.at.rest.now;
}
