use Rattle.std.proofs.Common.{◌&&◌, not, ap, sym}
use Rattle.tce_space.specs.IndexSet.{has}
use Rattle.tce_space.proofs.IndexSetLaws.{has-beyond}
use Rattle.tce_tree.proofs.fusion.is_new.Goals as goal

pub returns-then-index : goal.returns-then-index
returns-then-index c = sym (ap (λ b. b && not (has c.args.seen c.args.index)) (has-beyond c.args.loops c.args.index c.requires c.if-index.true))
