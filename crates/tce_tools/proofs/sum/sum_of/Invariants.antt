use Rattle.std.proofs.Common.{◌≡◌, take}
use Rattle.tce_base.specs.Word.{wrapping_sum}
use Rattle.tce_tools.proofs.sum.sum_of.Given as goal

abbrev pub invariant-loop-word : goal.invariant-loop-word
invariant-loop-word l = l.total ≡ wrapping_sum (take l.word-index l.words)
