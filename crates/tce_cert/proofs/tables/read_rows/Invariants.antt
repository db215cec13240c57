use Rattle.std.proofs.Common.{◌≡◌, ◌-◌, length, replicate}
use Rattle.tce_cert.specs.Faults.{row}
use Rattle.tce_cert.specs.Reading.{ReadsRows, KeepsFaults}
use Rattle.tce_cert.proofs.tables.read_rows.Given as goal

abbrev pub invariant-loop : goal.invariant-loop
invariant-loop l = record {
  read : ReadsRows l.space l.tree l.v l.counter l.fn.tables l.tables l.from.rest.now l.at.rest.now;
  keeps : KeepsFaults l.space l.tree (replicate l.rows (row l.v)) l.from.number l.from.rest.now (replicate (l.rows - l.counter) (row l.v)) l.at.number l.at.rest.now;
  listed : length l.tables ≡ length l.fn.tables;
}
