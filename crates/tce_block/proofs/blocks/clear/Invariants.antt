use Rattle.std.proofs.Common.{◌≡◌, ◌++◌, drop}
use Rattle.std.specs.Prelude.{replicate}
use Rattle.tce_block.proofs.blocks.clear.Given as goal

abbrev pub invariant-loop-d : goal.invariant-loop-d
invariant-loop-d l = l.numbers ≡ replicate l.d 0 ++ drop l.d l.fn.numbers
