use Rattle.std.proofs.Common.{arith}
use Rattle.tce_fusion.proofs.Tops.{tops_tell}
use Rattle.tce_fusion.proofs.scopes.tops_of.Goals as goal

pub returns : goal.returns
returns c = tops_tell c.args.tree.now c.args.fusion.now.0.items c.args.i c.loop-v.tops (λ v h. c.loop-v.invariant.tops v (omega arith) h)
