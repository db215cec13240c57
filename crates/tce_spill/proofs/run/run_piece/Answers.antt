use Rattle.std.proofs.Common.{◌≡◌, ◌⊎◌, sym, subst}
use Rattle.std.specs.Prelude.{OnOk, IfOk, IfErr}
use Rattle.std.specs.Option.{ForSome}
use Rattle.tce_outside.specs.Files.{others}
use Rattle.std.specs.Option.{option_map}
use Rattle.tce_space.specs.IndexSet.{has}
use Rattle.tce_spec.specs.Specification.{Specification}
use Rattle.tce_job.specs.Laws.{LeavesNoHalfResult}
use Rattle.tce_job.specs.Opened.{HasOperands, operand_count}
use Rattle.tce_job.specs.TensorFiles.{file_of}
use Rattle.tce_job.specs.ResultBytes.{with_result}
use Rattle.tce_job.specs.Refusals.{IsAffordable}
use Rattle.tce_job.specs.Prepared.{HasTaken}
use Rattle.tce_job.specs.Run.{IsReported}
use Rattle.tce_spill.specs.Planned.{IsLeastButRows}
use Rattle.tce_spill.specs.RunRefusals.{IsRunFault}
use Rattle.tce_spill.proofs.Afforded.{affordable_at}
use Rattle.tce_spill.proofs.run.run_piece.Goals as goal

pub run_one-ran-requires-clause-affordable : goal.run_one-ran-requires-clause-affordable
run_one-ran-requires-clause-affordable g c =
    subst (λ (p : Specification). IsAffordable p c.args.spilling.budget) (sym c.in-Ok.ensures)
    (affordable_at c.args.spec.now (has c.args.spilling.cuts) c.args.spilling.budget c.args.turn.root c.tree-tree.ensures.rules c.requires.can c.requires.inside c.requires.root)

pub run_one-ran-requires-clause-plan : goal.run_one-ran-requires-clause-plan
run_one-ran-requires-clause-plan g c =
    subst (λ (p : Specification). IsLeastButRows p.declarations.space p.tree c.args.turn.plan) (sym c.in-Ok.ensures) c.requires.plan

pub returns-clause-told : goal.returns-clause-told
returns-clause-told g c =
    subst (λ (p : Specification). OnOk c.run_one-ran.result (g.D.Disk.files c.run_one-ran.new.disk ≡ option_map (with_result p) (g.D.Disk.files c.args.disk.now))) c.in-Ok.ensures c.run_one-ran.ensures.told

pub returns-clause-refused : goal.returns-clause-refused
returns-clause-refused g c = subst (λ (p : Specification). IfErr c.run_one-ran.result (IsRunFault (g.D.Disk.files c.args.disk.now) p)) c.in-Ok.ensures c.run_one-ran.ensures.refused

pub returns-clause-takings : goal.returns-clause-takings
returns-clause-takings g c =
    subst (λ (p : Specification). IfErr c.run_one-ran.result (λ _. (g.R.Room.takings c.run_one-ran.new.room ≡ g.R.Room.takings c.args.room.now) ⊎ HasTaken p c.args.spilling.budget (g.R.Room.takings c.args.room.now) (g.R.Room.takings c.run_one-ran.new.room)))
    c.in-Ok.ensures c.run_one-ran.ensures.takings

pub returns-clause-no_half : goal.returns-clause-no_half
returns-clause-no_half g c = subst (λ (p : Specification). LeavesNoHalfResult p (g.D.Disk.files c.args.disk.now) (g.D.Disk.files c.run_one-ran.new.disk)) c.in-Ok.ensures c.run_one-ran.ensures.no_half

pub run_one-ran-requires-clause-operands : goal.run_one-ran-requires-clause-operands
run_one-ran-requires-clause-operands g c =
    subst (λ (p : Specification). ForSome (g.D.Disk.files c.args.disk.now) (λ files. HasOperands files p (operand_count p))) (sym c.in-Ok.ensures) c.requires.operands

pub returns-clause-reported : goal.returns-clause-reported
returns-clause-reported g c =
    subst (λ (p : Specification). IfOk c.run_one-ran.result (IsReported p c.args.spilling.budget (g.R.Room.takings c.args.room.now) (g.R.Room.takings c.run_one-ran.new.room))) c.in-Ok.ensures c.run_one-ran.ensures.reported

pub returns-clause-unchanged : goal.returns-clause-unchanged
returns-clause-unchanged g c = c.run_one-ran.ensures.unchanged

pub returns-clause-others : goal.returns-clause-others
returns-clause-others g c =
    subst (λ (p : Specification). others (file_of p p.result) (g.D.Disk.files c.run_one-ran.new.disk) ≡ others (file_of p p.result) (g.D.Disk.files c.args.disk.now)) c.in-Ok.ensures c.run_one-ran.ensures.others

pub returns-clause-fault_reported : goal.returns-clause-fault_reported
returns-clause-fault_reported g c = c.run_one-ran.ensures.fault_reported
