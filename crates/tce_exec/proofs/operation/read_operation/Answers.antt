use Rattle.std.proofs.Common.{slice_index, sym, subst, arith, rules}
use Rattle.tce_exec.specs.Workspace.{Workspace, setting_in, state_in}
use Rattle.tce_exec.specs.Storages.{work_of}
use Rattle.tce_exec.specs.Operands.{second_word, IsReadable}
use Rattle.tce_tree.specs.FlatTree.{right_of}
use Rattle.tce_exec.proofs.Following.{read_on}
use Rattle.tce_exec.specs.Following.{kept_on}
use Rattle.tce_exec.proofs.Operating.{readable_left, word_before, both_words}
use Rattle.tce_exec.proofs.operation.read_operation.Goals as goal

pub read_operand-requires-clause-readable : goal.read_operand-requires-clause-readable
read_operand-requires-clause-readable g c =
    let x : Workspace = work_of g.D.Disk.files c.args.evaluation.now c.args.store.now in
    subst (λ o. IsReadable x o (slice_index c.args.numbers.now)) (sym c.left-operand.ensures.value)
    (readable_left x c.args.v (slice_index c.args.numbers.now) c.count-nodes.ensures.kept c.requires.prepared c.requires.node)

pub returns-in_err-second-clause-upheld : goal.returns-in_err-second-clause-upheld
returns-in_err-second-clause-upheld g c = record {
  kept =
      let x : Workspace = work_of g.D.Disk.files c.args.evaluation.now c.args.store.now in
      let y : Workspace = work_of g.D.Disk.files c.args.evaluation.now c.read_operand.new.store in
      let z : Workspace = work_of g.D.Disk.files c.args.evaluation.now c.read_second.new.store in
      kept_on x y z c.in_ok-first.ensures.upheld.kept c.in_err-second.ensures.upheld.kept;
  same = search rules;
  fault_reported = search rules;
}

pub returns-clause-upheld : goal.returns-clause-upheld
returns-clause-upheld g c = record {
  kept =
      let x : Workspace = work_of g.D.Disk.files c.args.evaluation.now c.args.store.now in
      let y : Workspace = work_of g.D.Disk.files c.args.evaluation.now c.read_operand.new.store in
      let z : Workspace = work_of g.D.Disk.files c.args.evaluation.now c.read_second.new.store in
      kept_on x y z c.in_ok-first.ensures.upheld.kept c.in_ok-second.ensures.upheld.kept;
  same = search rules;
  fault_reported = search rules;
}

pub returns-clause-read : goal.returns-clause-read
returns-clause-read g c =
    let x : Workspace = work_of g.D.Disk.files c.args.evaluation.now c.args.store.now in
    let y : Workspace = work_of g.D.Disk.files c.args.evaluation.now c.read_operand.new.store in
    let z : Workspace = work_of g.D.Disk.files c.args.evaluation.now c.read_second.new.store in
    read_on 1 1 2 x y z (omega arith) c.in_ok-first.ensures.upheld.kept c.in_ok-first.ensures.read c.in_ok-second.ensures.read

pub returns-clause-word : goal.returns-clause-word
returns-clause-word g c =
    let x : Workspace = work_of g.D.Disk.files c.args.evaluation.now c.args.store.now in
    let y : Workspace = work_of g.D.Disk.files c.args.evaluation.now c.read_operand.new.store in
    let a = slice_index c.args.numbers.now in
    both_words (setting_in x) c.args.v (state_in x) a c.kind.result c.left-operand.result.now c.in_ok-first.first c.in_ok-second.second c.combine.result c.kind.ensures c.left-operand.ensures.value
    c.in_ok-first.ensures.word
    (word_before 1 x y c.in_ok-second.second (λ s state. second_word s c.args.v (right_of x.places.tree c.args.v) state a) c.requires.prepared.cache c.in_ok-first.ensures.upheld.kept c.in_ok-first.ensures.read
    c.in_ok-second.ensures.word)
    c.combine.ensures
