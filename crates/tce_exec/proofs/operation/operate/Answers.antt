use Rattle.std.proofs.Common.{slice_index, arith, rules}
use Rattle.tce_tree.specs.Fusion.{kept_dims}
use Rattle.tce_code.specs.Execution.{coordinates, with_word, exec}
use Rattle.tce_walk.specs.Machine.{operation_of_node}
use Rattle.tce_exec.specs.Workspace.{Workspace, setting_in}
use Rattle.tce_exec.specs.Storages.{work_of}
use Rattle.tce_exec.proofs.Following.{change_on, changed_as}
use Rattle.tce_exec.specs.Following.{kept_on}
use Rattle.tce_exec.proofs.Operating.{ok_then, own_place, node_after, operation_puts}
use Rattle.tce_exec.proofs.operation.operate.Goals as goal

pub put_place-requires-clause-place : goal.put_place-requires-clause-place
put_place-requires-clause-place g c =
    let x : Workspace = work_of g.D.Disk.files c.args.evaluation.now c.args.store.now in
    let y : Workspace = work_of g.D.Disk.files c.args.evaluation.now c.read_operation.new.store in
    node_after x y c.args.v (slice_index c.args.numbers.now) c.in_ok-word.ensures.upheld.kept (own_place x c.args.v (slice_index c.args.numbers.now) c.requires.node)

pub returns-clause-upheld : goal.returns-clause-upheld
returns-clause-upheld g c = record {
  kept =
      let x : Workspace = work_of g.D.Disk.files c.args.evaluation.now c.args.store.now in
      let y : Workspace = work_of g.D.Disk.files c.args.evaluation.now c.read_operation.new.store in
      let z : Workspace = work_of g.D.Disk.files c.args.evaluation.now c.put_place.new.store in
      kept_on x y z c.in_ok-word.ensures.upheld.kept c.put_place.ensures.upheld.kept;
  same = search rules;
  fault_reported = search rules;
}

pub returns-clause-changed : goal.returns-clause-changed
returns-clause-changed g c =
    let x : Workspace = work_of g.D.Disk.files c.args.evaluation.now c.args.store.now in
    let y : Workspace = work_of g.D.Disk.files c.args.evaluation.now c.read_operation.new.store in
    let z : Workspace = work_of g.D.Disk.files c.args.evaluation.now c.put_place.new.store in
    let a = slice_index c.args.numbers.now in
    ok_then c.put_place.result _ _ (λ put. changed_as (λ state. with_word state c.args.v (coordinates (kept_dims x.places.tree x.places.fusion c.args.v) a) c.in_ok-word.word)
    (λ state. exec (setting_in x) (operation_of_node x.places.tree c.args.v) state a) 3 x z
    (λ state told. operation_puts (setting_in x) c.args.v state a c.in_ok-word.word c.requires.node.known (c.in_ok-word.ensures.word state told))
    (change_on 2 1 3 (λ state. with_word state c.args.v (coordinates (kept_dims x.places.tree x.places.fusion c.args.v) a) c.in_ok-word.word) x y z (omega arith)
    c.in_ok-word.ensures.upheld.kept c.in_ok-word.ensures.read put)) c.put_place.ensures.changed
