use Rattle.std.proofs.Common.{◌≡◌, ◌∙◌, ◌+◌, ◌≤◌, ◌^◌, List, ℕ, refl, sym, ap, subst, arith}
use Rattle.std.proofs.lemmas.Bool.{false≢true}
use Rattle.std.proofs.lemmas.Result.{on_ok_weaker, IfOk-from_err}
use Rattle.tce_outside.proofs.Causes.{cause_of, cause_after, failed_after}
use Rattle.tce_tree.specs.ContractionTree.{ContractionTree}
use Rattle.tce_tree.specs.Fusion.{OrdersFit}
use Rattle.tce_tree.specs.Orders.{lists_of}
use Rattle.tce_tree.specs.FlatTree.{IsTree}
use Rattle.tce_code.specs.CodeFor.{IsCodeFor}
use Rattle.tce_code.specs.Plan.{plan_of}
use Rattle.tce_code.specs.Program.{program_of}
use Rattle.tce_walk.specs.Touches.{touch_bound}
use Rattle.tce_cache.specs.Cache.{State as CacheState}
use Rattle.tce_exec.specs.Prepared.{IsPrepared}
use Rattle.tce_exec.specs.Run.{IsZero, IsRun}
use Rattle.tce_job.specs.TensorFiles.{file_of}
use Rattle.tce_job.proofs.Begun.{workspace_at, of_parts, is_workspace, is_zero, few_touches}
use Rattle.tce_job.proofs.Ended.{ran_over, without_head, but_head, room_for_head, others_stay, others_kept, begins_after, written_result}
use Rattle.tce_job.proofs.run.run_prepared.Goals as goal

pub run_code-requires-clause-prepared : goal.run_code-requires-clause-prepared
run_code-requires-clause-prepared g c =
    let is_tree : IsTree c.args.spec.now.tree = subst IsTree c.tree-tree.ensures.tree c.count-nodes.ensures.kept in
    of_parts (λ space tree t is. IsPrepared (workspace_at c.args.prepared.now c.args.prepared.now.words c.args.prepared.now.cache (g.D.Disk.files c.args.disk.now) space tree t is)) _ _ _ _ _ _ _ _
    (sym c.space.ensures.space) (sym c.tree-tree.ensures.tree) (sym c.result.ensures.tensor) (sym c.result.ensures.indexes)
    (is_workspace c.args.spec.now (g.D.Disk.files c.args.disk.now) c.args.prepared.now c.tree-tree.ensures.rules c.requires is_tree)

pub run_code-requires-clause-zero : goal.run_code-requires-clause-zero
run_code-requires-clause-zero g c =
    of_parts (λ space tree t is. IsZero (workspace_at c.args.prepared.now c.args.prepared.now.words c.args.prepared.now.cache (g.D.Disk.files c.args.disk.now) space tree t is)) _ _ _ _ _ _ _ _
    (sym c.space.ensures.space) (sym c.tree-tree.ensures.tree) (sym c.result.ensures.tensor) (sym c.result.ensures.indexes)
    (is_zero c.args.spec.now (g.D.Disk.files c.args.disk.now) c.args.prepared.now c.tree-tree.ensures.rules c.requires)

pub run_code-requires-clause-few : goal.run_code-requires-clause-few
run_code-requires-clause-few g c =
    let is_tree : IsTree c.args.spec.now.tree = subst IsTree c.tree-tree.ensures.tree c.count-nodes.ensures.kept in
    of_parts (λ space tree t is. c.args.prepared.now.cache.touches + touch_bound space tree (program_of c.args.prepared.now.code) ≤ 2 ^ 100) _ _ _ _ _ _ _ _
    (sym c.space.ensures.space) (sym c.tree-tree.ensures.tree) (sym c.result.ensures.tensor) (sym c.result.ensures.indexes)
    (few_touches c.args.spec.now (g.D.Disk.files c.args.disk.now) c.args.prepared.now c.tree-tree.ensures.rules c.requires is_tree)

pub returns-in_err-run_code-clause-others : goal.returns-in_err-run_code-clause-others
returns-in_err-run_code-clause-others g c =
    others_stay c.args.prepared.now.cache (file_of c.args.spec.now c.args.spec.now.result) (g.D.Disk.files c.args.disk.now) (g.D.Disk.files c.run_code.new.disk)
    (written_result c.args.spec.now (g.D.Disk.files c.args.disk.now) c.args.prepared.now c.requires) c.run_code.ensures.kept.files

pub returns-in_err-flush-clause-others : goal.returns-in_err-flush-clause-others
returns-in_err-flush-clause-others g c =
    others_kept _ _ (file_of c.args.spec.now c.args.spec.now.result) (g.D.Disk.files c.flush.new.disk)
    (written_result c.args.spec.now (g.D.Disk.files c.args.disk.now) c.args.prepared.now c.requires) c.run_code.ensures.kept c.flush.ensures.others

pub returns-in_err-run_code-clause-no_half : goal.returns-in_err-run_code-clause-no_half
returns-in_err-run_code-clause-no_half g c =
    (without_head c.args.spec.now (g.D.Disk.files c.args.disk.now) (g.D.Disk.files c.run_code.new.disk) c.args.prepared.now c.requires
    (c.run_code.ensures.kept.files.begins (file_of c.args.spec.now c.args.spec.now.result)))

pub returns-in_err-flush-clause-no_half : goal.returns-in_err-flush-clause-no_half
returns-in_err-flush-clause-no_half g c =
    let name : List ℕ = file_of c.args.spec.now c.args.spec.now.result in
    (without_head c.args.spec.now (g.D.Disk.files c.args.disk.now) (g.D.Disk.files c.flush.new.disk) c.args.prepared.now c.requires
    (begins_after _ _ name (g.D.Disk.files c.flush.new.disk) c.run_code.ensures.kept c.flush.ensures.others))

pub write_result_head-requires : goal.write_result_head-requires
write_result_head-requires g c =
    room_for_head c.args.spec.now (g.D.Disk.files c.args.disk.now) (g.D.Disk.files c.flush.new.disk) (c.flush.ensures.others.tells ∙ c.run_code.ensures.kept.files.tells)
    (ran_over c.args.spec.now c.args.prepared.now c.run_code.new.words c.run_code.new.cache c.flush.new.self (g.D.Disk.files c.args.disk.now) (g.D.Disk.files c.run_code.new.disk) (g.D.Disk.files c.flush.new.disk)
    c.space.result.now c.tree-tree.result.now c.result.result.now.tensor c.result.result.now.indexes.items
    c.space.ensures.space c.tree-tree.ensures.tree c.result.ensures.tensor c.result.ensures.indexes c.tree-tree.ensures.rules c.requires
    c.in_ok-run_code.ensures.run c.run_code.ensures.kept c.in_ok-flush.ensures.written c.in_ok-flush.ensures.arrays c.flush.ensures.others).0

pub returns-clause-told : goal.returns-clause-told
returns-clause-told g c =
    on_ok_weaker c.write_result_head.result (λ held. held ∙ (ran_over c.args.spec.now c.args.prepared.now c.run_code.new.words c.run_code.new.cache c.flush.new.self (g.D.Disk.files c.args.disk.now) (g.D.Disk.files c.run_code.new.disk) (g.D.Disk.files c.flush.new.disk)
    c.space.result.now c.tree-tree.result.now c.result.result.now.tensor c.result.result.now.indexes.items
    c.space.ensures.space c.tree-tree.ensures.tree c.result.ensures.tensor c.result.ensures.indexes c.tree-tree.ensures.rules c.requires
    c.in_ok-run_code.ensures.run c.run_code.ensures.kept c.in_ok-flush.ensures.written c.in_ok-flush.ensures.arrays c.flush.ensures.others).1) c.write_result_head.ensures.written

pub returns-clause-no_half : goal.returns-clause-no_half
returns-clause-no_half g c =
    but_head c.args.spec.now (g.D.Disk.files c.args.disk.now) (g.D.Disk.files c.flush.new.disk) (g.D.Disk.files c.write_result_head.new.disk)
    (ran_over c.args.spec.now c.args.prepared.now c.run_code.new.words c.run_code.new.cache c.flush.new.self (g.D.Disk.files c.args.disk.now) (g.D.Disk.files c.run_code.new.disk) (g.D.Disk.files c.flush.new.disk)
    c.space.result.now c.tree-tree.result.now c.result.result.now.tensor c.result.result.now.indexes.items
    c.space.ensures.space c.tree-tree.ensures.tree c.result.ensures.tensor c.result.ensures.indexes c.tree-tree.ensures.rules c.requires
    c.in_ok-run_code.ensures.run c.run_code.ensures.kept c.in_ok-flush.ensures.written c.in_ok-flush.ensures.arrays c.flush.ensures.others).0
    c.write_result_head.ensures.others c.write_result_head.ensures.behind

pub returns-clause-others : goal.returns-clause-others
returns-clause-others g c =
    c.write_result_head.ensures.others
    ∙ others_kept _ _ (file_of c.args.spec.now c.args.spec.now.result) (g.D.Disk.files c.flush.new.disk)
    (written_result c.args.spec.now (g.D.Disk.files c.args.disk.now) c.args.prepared.now c.requires) c.run_code.ensures.kept c.flush.ensures.others

pub returns-clause-touches : goal.returns-clause-touches
returns-clause-touches g c =
    let run = of_parts (λ space tree t is. IsRun (workspace_at c.args.prepared.now c.args.prepared.now.words c.args.prepared.now.cache (g.D.Disk.files c.args.disk.now) space tree t is)
    (workspace_at c.args.prepared.now c.run_code.new.words c.run_code.new.cache (g.D.Disk.files c.run_code.new.disk) space tree t is) c.args.prepared.now.code) _ _ _ _ _ _ _ _
    c.space.ensures.space c.tree-tree.ensures.tree c.result.ensures.tensor c.result.ensures.indexes c.in_ok-run_code.ensures.run in
    let same : c.flush.new.self.touches ≡ c.run_code.new.cache.touches = ap (λ (k : CacheState). k.touches) c.flush.ensures.same in
    on_ok_weaker c.write_result_head.result (λ held. omega (arith, same, run.touches, c.requires.prepared.cache.touches)) c.write_result_head.ensures.written

pub run_code-requires-clause-orders : goal.run_code-requires-clause-orders
run_code-requires-clause-orders g c =
    subst (λ (t : ContractionTree). OrdersFit t (lists_of c.args.prepared.now.orders.0.items)) (sym c.tree-tree.ensures.tree) c.requires.prepared.orders

pub run_code-requires-clause-code : goal.run_code-requires-clause-code
run_code-requires-clause-code g c =
    subst (λ (t : ContractionTree). IsCodeFor t (plan_of c.args.prepared.now.plan.fusion.0.items (lists_of c.args.prepared.now.orders.0.items)) c.args.prepared.now.code) (sym c.tree-tree.ensures.tree) c.requires.prepared.code

pub returns-in_err-run_code-clause-told : goal.returns-in_err-run_code-clause-told
returns-in_err-run_code-clause-told g c = IfOk-from_err c.from_residual.result _ c.from_residual.ensures.0

pub returns-in_err-run_code-clause-touches : goal.returns-in_err-run_code-clause-touches
returns-in_err-run_code-clause-touches g c = IfOk-from_err c.from_residual.result _ c.from_residual.ensures.0

pub returns-in_err-run_code-clause-report : goal.returns-in_err-run_code-clause-report
returns-in_err-run_code-clause-report g c = refl

pub returns-in_err-run_code-clause-fault_reported : goal.returns-in_err-run_code-clause-fault_reported
returns-in_err-run_code-clause-fault_reported g c = record {
  cause = cause_of _ _ c.in_err-run_code.ensures.fault_reported.cause;
  quiet = λ none. absurd (none c.from_residual.ensures.0);
}

pub returns-in_err-flush-clause-told : goal.returns-in_err-flush-clause-told
returns-in_err-flush-clause-told g c = IfOk-from_err c.from_residual-in_err-flush.result _ c.from_residual-in_err-flush.ensures.0

pub returns-in_err-flush-clause-touches : goal.returns-in_err-flush-clause-touches
returns-in_err-flush-clause-touches g c = IfOk-from_err c.from_residual-in_err-flush.result _ c.from_residual-in_err-flush.ensures.0

pub returns-in_err-flush-clause-report : goal.returns-in_err-flush-clause-report
returns-in_err-flush-clause-report g c = refl

pub returns-in_err-flush-clause-fault_reported : goal.returns-in_err-flush-clause-fault_reported
returns-in_err-flush-clause-fault_reported g c = record {
  cause = failed_after _ _ _ (c.in_ok-run_code.ensures.fault_reported.quiet false≢true) c.in_err-flush.ensures.fault_reported.cause;
  quiet = λ none. absurd (none c.from_residual-in_err-flush.ensures.0);
}

pub returns-clause-report : goal.returns-clause-report
returns-clause-report g c = refl

pub returns-clause-fault_reported : goal.returns-clause-fault_reported
returns-clause-fault_reported g c = record {
  cause =
      cause_after _ _ _ (c.in_ok-flush.ensures.fault_reported.quiet false≢true ∙ c.in_ok-run_code.ensures.fault_reported.quiet false≢true) c.write_result_head.ensures.fault_reported.cause;
  quiet = λ none. c.write_result_head.ensures.fault_reported.quiet none ∙ c.in_ok-flush.ensures.fault_reported.quiet false≢true ∙ c.in_ok-run_code.ensures.fault_reported.quiet false≢true;
}
