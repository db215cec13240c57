use Rattle.tce_block.proofs.sums.grow.Goals as goal

pub grow_below-requires-clause-run : goal.grow_below-requires-clause-run
grow_below-requires-clause-run c = record {
  positive = c.requires.positive;
  out_within = c.requires.out;
  operand_within = c.requires.operand;
  operand_apart = c.requires.apart;
}
