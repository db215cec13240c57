use Rattle.std.proofs.Common.{◌≡◌, ℕ, ◌<◌, ◌++◌}
use Rattle.tce_fusion.specs.Row.{rows_at}
use Rattle.tce_cert.specs.Laws.{AreNestingRows}
use Rattle.tce_cert.specs.Certificate.{text_of, tables_lines}
use Rattle.tce_cert.proofs.write.push_tables.Given as goal

abbrev pub invariant-loop-v : goal.invariant-loop-v
invariant-loop-v l = record {
  text : l.text.items ≡ l.fn.text.items ++ text_of (tables_lines l.space l.tables l.v-counter);
  nestings : (w : ℕ) → w < l.v-counter → AreNestingRows (rows_at l.tables w);
}
