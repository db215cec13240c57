use Rattle.std.proofs.Common.{slice_index, arith}
use Rattle.tce_exec.specs.Evaluations.{places_of}
use Rattle.tce_exec.proofs.LinkLaws.{constant_source}
use Rattle.tce_exec.proofs.links.find_source.Goals as goal

pub returns-in-Constant-clause-source : goal.returns-in-Constant-clause-source
returns-in-Constant-clause-source g c =
    constant_source 1 (places_of c.args.evaluation.now) c.args.store.now.cache.now (slice_index c.args.first.now.numbers) c.args.operand.now c.in-Constant.number c.in-Constant.is (omega arith)
