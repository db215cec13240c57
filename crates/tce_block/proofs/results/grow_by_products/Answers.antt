use Rattle.tce_block.proofs.results.grow_by_products.Goals as goal

pub turns_below-requires-clause-run : goal.turns_below-requires-clause-run
turns_below-requires-clause-run c = record {
  positive = c.requires.positive;
  out_within = c.requires.out;
  left_within = c.requires.left;
  right_within = c.requires.right;
  left_apart = c.requires.apart_from_left;
  right_apart = c.requires.apart_from_right;
}
