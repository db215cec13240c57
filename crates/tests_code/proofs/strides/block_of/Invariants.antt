use Rattle.std.proofs.Common.{◌≡◌, length}
use Rattle.tests_code.proofs.strides.block_of.Given as goal

abbrev pub invariant-loop-k : goal.invariant-loop-k
invariant-loop-k g l = length l.words ≡ 24
