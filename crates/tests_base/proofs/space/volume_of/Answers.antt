use Rattle.std.proofs.Common.{arith}
use Rattle.tce_space.proofs.IndexSetLaws.{has_below_power}
use Rattle.tests_base.proofs.space.volume_of.Goals as goal

pub volume-requires : goal.volume-requires
volume-requires g c i member =
    omega (arith, has_below_power 4 c.of_bits.result i (omega (arith, c.of_bits.ensures)) member, c.index_count.ensures.count)
