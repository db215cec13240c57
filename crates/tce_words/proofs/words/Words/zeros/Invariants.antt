use Rattle.std.proofs.Common.{◌≡◌, ◌+◌, replicate}
use Rattle.tce_words.proofs.words.Words.zeros.Given as goal

abbrev pub invariant-loop-at : goal.invariant-loop-at
invariant-loop-at l = record { based : l.places.at ≡ l.base.ptr; written : l.places.words ≡ replicate l.at 0; left : l.places.left + l.at ≡ l.len }
