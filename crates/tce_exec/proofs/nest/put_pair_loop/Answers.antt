use Rattle.tce_exec.proofs.LoopPutting.{pair_stands}
use Rattle.tce_exec.proofs.nest.put_pair_loop.Goals as goal

pub returns-else-loops-d-4 : goal.returns-else-loops-d-4
returns-else-loops-d-4 c = pair_stands c.args.loops.now c.args.d c.args.next _ c.if-loops-d.false c.if-loops-d-2.false c.if-loops-d-3.false c.if-loops-d-4.false
