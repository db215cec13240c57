use Rattle.std.proofs.Common.{◌+◌, ◌<◌, ℕ, get_or, length, slice_index, refl, sym, ap, ◌∙◌, subst, arith, rules}
use Rattle.std.proofs.lemmas.Bool.{false≢true}
use Rattle.tce_code.specs.declared.op.Op.{Op}
use Rattle.tce_code.specs.declared.op.Op.TheVariants.{Open}
use Rattle.tce_code.specs.Execution.{exec}
use Rattle.tce_walk.specs.Machine.{operation_of_node, IsNodeAt}
use Rattle.tce_exec.specs.Steps.{IsChanged}
use Rattle.tce_exec.specs.Workspace.{Workspace, setting_in}
use Rattle.tce_exec.specs.Storages.{work_of}
use Rattle.tce_exec.proofs.Bodies.{node_here, op_done, taken_all}
use Rattle.tce_exec.specs.Following.{kept_on}
use Rattle.tce_exec.proofs.Following.{same_on}
use Rattle.tce_exec.proofs.body.run_once.Goals as goal

pub operate-requires-clause-node : goal.operate-requires-clause-node
operate-requires-clause-node g c =
    let x : Workspace = work_of g.D.Disk.files c.args.evaluation.now c.args.store.now in
    let y : Workspace = work_of g.D.Disk.files c.args.evaluation.now c.loop-op.store in
    let op : Op = get_or c.args.ops.now c.loop-op.op-index (Open 0) in
    subst (λ v. IsNodeAt (setting_in y) v (slice_index c.args.numbers.now)) (sym c.node_of.ensures)
    (node_here x y c.args.ops.now (slice_index c.args.numbers.now) c.loop-op.op-index op (Open 0) c.requires.prepared c.requires.ops c.loop-op-test.true refl c.loop-op.invariant.kept)

pub returns-in_err-operate-clause-upheld : goal.returns-in_err-operate-clause-upheld
returns-in_err-operate-clause-upheld g c = record {
  kept =
      let x : Workspace = work_of g.D.Disk.files c.args.evaluation.now c.args.store.now in
      let y : Workspace = work_of g.D.Disk.files c.args.evaluation.now c.loop-op.store in
      let z : Workspace = work_of g.D.Disk.files c.args.evaluation.now c.operate.new.store in
      kept_on x y z c.loop-op.invariant.kept c.in_err-operate.ensures.upheld.kept;
  same = search rules;
  fault_reported = search rules;
}

pub loop-op-preserved : goal.loop-op-preserved
loop-op-preserved g c =
    let x : Workspace = work_of g.D.Disk.files c.args.evaluation.now c.args.store.now in
    let y : Workspace = work_of g.D.Disk.files c.args.evaluation.now c.loop-op.store in
    let z : Workspace = work_of g.D.Disk.files c.args.evaluation.now c.operate.new.store in
    let op : Op = get_or c.args.ops.now c.loop-op.op-index (Open 0) in
    let e = c.in_ok-operate.ensures in
    record {
      kept = kept_on x y z c.loop-op.invariant.kept e.upheld.kept;
      changed = op_done x y z c.args.ops.now (slice_index c.args.numbers.now) c.loop-op.op-index op (Open 0) c.requires.prepared c.requires.ops c.loop-op-test.true refl
          c.loop-op.invariant.kept c.loop-op.invariant.changed
          (subst (λ v. IsChanged (λ state. exec (setting_in y) (operation_of_node y.places.tree v) state (slice_index c.args.numbers.now)) 3 y z) c.node_of.ensures e.changed);
      same = same_on c.args.store.now c.loop-op.store c.operate.new.store c.loop-op.invariant.same e.upheld.same;
      counted = e.upheld.fault_reported.quiet false≢true ∙ c.loop-op.invariant.counted;
    }

pub returns-clause-changed : goal.returns-clause-changed
returns-clause-changed g c =
    let x : Workspace = work_of g.D.Disk.files c.args.evaluation.now c.args.store.now in
    let y : Workspace = work_of g.D.Disk.files c.args.evaluation.now c.loop-op.store in
    taken_all x y c.args.ops.now (slice_index c.args.numbers.now) c.loop-op.op-index c.requires.ops (omega (arith, c.loop-op-test.false, c.loop-op.auto)) c.loop-op.invariant.changed
