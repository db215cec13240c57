use Rattle.std.proofs.Common.{arith}
use Rattle.tce_words.proofs.RowPlaces.{row_below}
use Rattle.tce_words.proofs.laws.rows_lie_in_blocks.Goals as goal

pub returns : goal.returns
returns c = λ from outer extent inner o i n first o_lt i_lt le is t t_lt.
    (omega arith, omega (arith, row_below outer extent inner o i t o_lt i_lt (omega arith)))
