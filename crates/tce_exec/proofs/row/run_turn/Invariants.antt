use Rattle.std.proofs.Common.{◌≡◌, length, take}
use Rattle.std.specs.List.{fold}
use Rattle.tce_exec.specs.ChainRows.{put_along}
use Rattle.tce_exec.proofs.row.run_turn.Given as goal

abbrev pub invariant-loop-link : goal.invariant-loop-link
invariant-loop-link l = record {
  done : l.words ≡ fold (put_along l.step.index l.step.by) l.fn.words (take l.link-index l.links);
  long : length l.words ≡ length l.fn.words;
}
