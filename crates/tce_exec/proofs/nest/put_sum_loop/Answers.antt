use Rattle.tce_exec.proofs.LoopPutting.{sum_stands}
use Rattle.tce_exec.proofs.nest.put_sum_loop.Goals as goal

pub returns-else-loops-d-3 : goal.returns-else-loops-d-3
returns-else-loops-d-3 c = sum_stands c.args.loops.now c.args.d c.args.next _ c.if-loops-d.false c.if-loops-d-2.false c.if-loops-d-3.false
