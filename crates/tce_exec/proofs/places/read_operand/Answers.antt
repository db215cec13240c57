use Rattle.std.proofs.Common.{slice_index, arith}
use Rattle.tce_exec.specs.Workspace.{Workspace}
use Rattle.tce_exec.specs.Storages.{work_of}
use Rattle.tce_exec.proofs.Reading.{constant_word_is}
use Rattle.tce_exec.proofs.places.read_operand.Goals as goal

pub returns-in-Constant-clause-word : goal.returns-in-Constant-clause-word
returns-in-Constant-clause-word g c =
    let x : Workspace = work_of g.D.Disk.files c.args.evaluation.now c.args.store.now in
    constant_word_is x c.args.operand.now c.in-Constant.number (slice_index c.args.numbers.now) c.in-Constant.is (omega arith)
