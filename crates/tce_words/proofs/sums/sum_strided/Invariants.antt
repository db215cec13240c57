use Rattle.std.proofs.Common.{◌≡◌, take}
use Rattle.tce_base.specs.Word.{wrapping_sum}
use Rattle.tce_words.specs.Run.{words_along}
use Rattle.tce_words.proofs.sums.sum_strided.Given as goal

abbrev pub invariant-loop-t : goal.invariant-loop-t
invariant-loop-t l = l.total ≡ wrapping_sum (take l.t (words_along l.words l.a.first l.a.step l.n))
