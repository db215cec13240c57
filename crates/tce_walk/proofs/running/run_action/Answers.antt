use Rattle.tce_walk.specs.Machine.{assignment_of}
use Rattle.tce_walk.proofs.Parts.{plain-node}
use Rattle.tce_walk.proofs.running.run_action.Goals as goal

pub operate-requires-clause-node : goal.operate-requires-clause-node
operate-requires-clause-node g c =
    plain-node (g.M.Machine.space c.args.machine.now) (g.M.Machine.setting c.args.machine.now) c.args.op c.in-Mul.v (assignment_of c.args.numbers.now)
    c.requires.extents c.in-Mul.is c.requires.part
