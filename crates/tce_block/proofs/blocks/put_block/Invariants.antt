use Rattle.std.proofs.Common.{◌≡◌, take}
use Rattle.tce_block.specs.Parts.{beginnings, lengths}
use Rattle.tce_block.proofs.blocks.put_block.Given as goal

abbrev pub invariant-loop-d : goal.invariant-loop-d
invariant-loop-d l = record {
  from : take l.d l.from ≡ take l.d (beginnings l.edges l.numbers);
  len : take l.d l.len ≡ take l.d (lengths l.extents l.edges l.numbers);
}
