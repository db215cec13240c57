use Rattle.std.proofs.Common.{◌≡◌, slice_index, sym, subst}
use Rattle.std.specs.Prelude.{IfOk}
use Rattle.tce_exec.specs.Workspace.{Workspace}
use Rattle.tce_exec.specs.Storages.{work_of, ForState}
use Rattle.tce_exec.specs.Operands.{second_word}
use Rattle.tce_exec.proofs.Operating.{readable_right, own_place}
use Rattle.tce_exec.proofs.operation.read_second.Goals as goal

pub read_operand-requires-clause-readable : goal.read_operand-requires-clause-readable
read_operand-requires-clause-readable g c =
    let x : Workspace = work_of g.D.Disk.files c.args.evaluation.now c.args.store.now in
    readable_right x c.args.v (slice_index c.args.numbers.now) c.in-Some.operand.now c.count-nodes.ensures.kept c.requires.prepared c.requires.node (sym c.in-Some.ensures.value)

pub read_place-requires-clause-place : goal.read_place-requires-clause-place
read_place-requires-clause-place g c =
    let x : Workspace = work_of g.D.Disk.files c.args.evaluation.now c.args.store.now in
    own_place x c.args.v (slice_index c.args.numbers.now) c.requires.node

pub returns-in-Some-clause-word : goal.returns-in-Some-clause-word
returns-in-Some-clause-word g c =
    subst (λ o. IfOk c.read_operand.result (λ word. ForState g.D.Disk.files c.args.evaluation.now c.args.store.now
    (λ s state. word ≡ second_word s c.args.v o state (slice_index c.args.numbers.now)))) c.in-Some.ensures.value c.read_operand.ensures.word
