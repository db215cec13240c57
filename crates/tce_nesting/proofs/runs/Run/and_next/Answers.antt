use Rattle.std.proofs.Common.{refl, arith}
use Rattle.tce_nesting.proofs.RunParts.{run_longer}
use Rattle.tce_nesting.proofs.runs.Run.and_next.Goals as goal

pub returns : goal.returns
returns c = run_longer c.args.self.now c.args.next.now _ (omega arith) (omega arith) refl refl (omega arith) (omega arith)
