use Rattle.std.proofs.Common.{◌≡◌, take}
use Rattle.std.specs.Simd.Lanes.{zip2}
use Rattle.tce_base.specs.Word.{wrapping_mul, wrapping_sum}
use Rattle.tce_words.specs.Run.{words_along}
use Rattle.tce_words.proofs.products.dot_strided.Given as goal

abbrev pub invariant-loop-t : goal.invariant-loop-t
invariant-loop-t l = l.total ≡ wrapping_sum (take l.t (zip2 wrapping_mul (words_along l.words l.a.first l.a.step l.n) (words_along l.words l.b.first l.b.step l.n)))
