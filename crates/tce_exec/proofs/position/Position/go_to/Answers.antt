use Rattle.std.proofs.Common.{arith}
use Rattle.tce_exec.proofs.Positions.{all_there}
use Rattle.tce_exec.proofs.position.Position.go_to.Goals as goal

pub returns-clause-numbers : goal.returns-clause-numbers
returns-clause-numbers c =
    all_there c.loop-i.self.numbers c.args.numbers.now c.loop-i.invariant.each c.loop-i.invariant.told (λ j lt. c.loop-i.invariant.there j (omega (arith, lt, c.loop-i-test.false)))
