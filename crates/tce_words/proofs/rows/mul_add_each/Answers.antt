use Rattle.tce_words.proofs.rows.mul_add_each.Goals as goal

pub mul_add_run-requires-clause-apart_from_a : goal.mul_add_run-requires-clause-apart_from_a
mul_add_run-requires-clause-apart_from_a c = c.requires.apart_from_factors c.loop-k.k c.loop-k-test.true

pub mul_add_run-requires-clause-apart_from_b : goal.mul_add_run-requires-clause-apart_from_b
mul_add_run-requires-clause-apart_from_b c = c.requires.apart_from_rows c.loop-k.k c.loop-k-test.true
