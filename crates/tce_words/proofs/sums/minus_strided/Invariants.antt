use Rattle.tce_base.specs.Word.{wrapping_sub}
use Rattle.tce_words.specs.Run.{IsRun, word_along}
use Rattle.tce_words.proofs.sums.minus_strided.Given as goal

abbrev pub invariant-loop-t : goal.invariant-loop-t
invariant-loop-t l = IsRun (λ t. wrapping_sub (word_along l.fn.words l.a.first l.a.step t) (word_along l.fn.words l.b.first l.b.step t)) l.out.first l.out.step l.t l.fn.words l.words
