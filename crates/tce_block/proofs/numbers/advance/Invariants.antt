use Rattle.tce_block.proofs.Carry.{IsCarried}
use Rattle.tce_block.proofs.numbers.advance.Given as goal

abbrev pub invariant-loop-d : goal.invariant-loop-d
invariant-loop-d l = IsCarried l.counts l.initial.numbers l.numbers l.d
