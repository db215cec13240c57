use Rattle.std.proofs.Common.{ap, eqb}
use Rattle.std.proofs.lemmas.Nat.Bits.{shr_and_one}
use Rattle.tce_space.specs.IndexSet.{has}
use Rattle.tce_spec.proofs.pieces.has_bit.Goals as goal

pub returns : goal.returns
unfolding has
returns c = ap (λ b. eqb b 1) (shr_and_one c.args.bits c.args.v)
