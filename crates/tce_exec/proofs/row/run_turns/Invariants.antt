use Rattle.std.proofs.Common.{◌≡◌, length}
use Rattle.tce_exec.specs.ChainRows.{after_row}
use Rattle.tce_exec.proofs.row.run_turns.Given as goal

abbrev pub invariant-loop-by : goal.invariant-loop-by
invariant-loop-by l = record {
  done : l.words ≡ after_row l.links l.index l.by l.fn.words;
  long : length l.words ≡ length l.fn.words;
}
