use Rattle.std.proofs.Common.{◌≡◌, length}
use Rattle.tce_words.specs.Rows.{AreRowsAdded}
use Rattle.tce_words.proofs.rows.mul_add_each.Given as goal

abbrev pub invariant-loop-k : goal.invariant-loop-k
invariant-loop-k l = record {
  same_length : length l.words ≡ length l.fn.words;
  added : AreRowsAdded l.out l.factors.first l.factors.step l.rows.first l.rows.step l.n l.k l.fn.words l.words;
}
