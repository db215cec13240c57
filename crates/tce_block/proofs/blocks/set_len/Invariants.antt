use Rattle.std.proofs.Common.{◌≡◌, length}
use Rattle.tce_block.proofs.blocks.set_len.Given as goal

abbrev pub invariant-loop : goal.invariant-loop
invariant-loop l = length l.list.items ≡ l.counter
