use Rattle.std.proofs.Common.{◌≡◌, ℕ, ◌<◌, ◌++◌, map, take, get_or}
use Rattle.tce_fusion.specs.Row.{Row}
use Rattle.tce_cert.specs.Laws.{IsNestingRow}
use Rattle.tce_cert.specs.Lines.{row_line}
use Rattle.tce_cert.specs.Certificate.{text_of}
use Rattle.tce_cert.proofs.write.push_rows.Given as goal

abbrev pub invariant-loop-row : goal.invariant-loop-row
invariant-loop-row l = record {
  text : l.text.items ≡ l.fn.text.items ++ text_of (map (row_line l.space) (take l.row-index l.rows));
  nestings : (k : ℕ) (d : Row) → k < l.row-index → IsNestingRow (get_or l.rows k d);
}
