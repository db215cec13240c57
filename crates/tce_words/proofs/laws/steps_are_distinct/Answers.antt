use Rattle.std.proofs.Common.{◌+◌, ◌*◌, ◌≤◌, arith}
use Rattle.std.proofs.Math.Nat.{mul-le-mul_right}
use Rattle.tce_words.proofs.laws.steps_are_distinct.Goals as goal

pub returns : goal.returns
returns c = λ first step n some s t lt below same.
    let more : (s + 1) * step ≤ t * step = mul-le-mul_right step (omega arith) in
    omega (arith, more, same)
