use Rattle.std.proofs.Common.{ap, eqb}
use Rattle.std.proofs.lemmas.Nat.Bits.{shr_and_one}
use Rattle.tce_space.specs.IndexSet.{has}
use Rattle.tce_spill.proofs.spilling.has_node.Goals as goal

pub returns : goal.returns
unfolding has
returns c = ap (λ b. eqb b 1) (shr_and_one c.args.nodes c.args.v)
