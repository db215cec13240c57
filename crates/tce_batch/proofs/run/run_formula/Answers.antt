use Rattle.std.proofs.Common.{◌≡◌, refl, inl, inr}
use Rattle.std.specs.Option.{option_map}
use Rattle.std.proofs.lemmas.Result.{on_ok_weaker}
use Rattle.tce_outside.proofs.Causes.{no_cause}
use Rattle.tce_spec.specs.Specification.{Specification}
use Rattle.tce_job.specs.ResultBytes.{with_result}
use Rattle.tce_job.specs.Laws.{LeavesNoHalfResult}
use Rattle.tce_job.specs.Refusals.{IsCause, MayBeRefused}
use Rattle.tce_job.specs.Run.{IsReported}
use Rattle.tce_job.specs.Prepared.{IsRoomLeft}
use Rattle.tce_job.specs.Told.{ResultAlone}
use Rattle.tce_job.proofs.Answered.{wanting}
use Rattle.tce_job.proofs.Ended.{same_is_no_half}
use Rattle.tce_batch.proofs.Afforded.{if_ok, if_err, at_place}
use Rattle.tce_batch.proofs.run.run_formula.Goals as goal

pub returns-clause-told : goal.returns-clause-told
returns-clause-told g c =
    on_ok_weaker c.run_kept-ran.result (λ told s at. at_place (λ (x : Specification). g.D.Disk.files c.run_kept-ran.new.disk ≡ option_map (with_result x) (g.D.Disk.files c.args.disk.now)) c.in-Ok.spec s _ c.in-Ok.ensures told at) c.run_kept-ran.ensures.told

pub returns-clause-reported : goal.returns-clause-reported
returns-clause-reported g c =
    if_ok c.run_kept-ran.result (λ report is s at. at_place (λ (x : Specification). IsReported x c.args.budget (g.R.Room.takings c.args.room.now) (g.R.Room.takings c.run_kept-ran.new.room) report) c.in-Ok.spec s _ c.in-Ok.ensures is at) c.run_kept-ran.ensures.reported

pub returns-clause-refused : goal.returns-clause-refused
returns-clause-refused g c =
    if_err c.run_kept-ran.result (λ fault why s at. at_place (λ (x : Specification). IsCause (MayBeRefused (g.D.Disk.files c.args.disk.now) x) x c.args.budget fault) c.in-Ok.spec s _ c.in-Ok.ensures why at) c.run_kept-ran.ensures.refused

pub returns-clause-takings : goal.returns-clause-takings
returns-clause-takings g c =
    if_err c.run_kept-ran.result (λ fault left s at. at_place (λ (x : Specification). IsRoomLeft fault x c.args.budget (g.R.Room.takings c.args.room.now) (g.R.Room.takings c.run_kept-ran.new.room)) c.in-Ok.spec s _ c.in-Ok.ensures left at) c.run_kept-ran.ensures.takings

pub run_kept-ran-requires-clause-affordable : goal.run_kept-ran-requires-clause-affordable
run_kept-ran-requires-clause-affordable g c = c.requires.affordable c.args.kept.now.number c.in-Ok.spec c.requires.number c.in-Ok.ensures

pub returns-clause-no_half : goal.returns-clause-no_half
returns-clause-no_half g c = λ s at.
    at_place (λ (x : Specification). LeavesNoHalfResult x (g.D.Disk.files c.args.disk.now) (g.D.Disk.files c.run_kept-ran.new.disk)) c.in-Ok.spec s _ c.in-Ok.ensures c.run_kept-ran.ensures.no_half at

pub returns-in_default-clause-refused : goal.returns-in_default-clause-refused
returns-in_default-clause-refused g c = λ s at. tt

pub returns-in_default-clause-unchanged : goal.returns-in_default-clause-unchanged
returns-in_default-clause-unchanged g c = inr refl

pub returns-in_default-clause-takings : goal.returns-in_default-clause-takings
returns-in_default-clause-takings g c = λ s at. inl refl

pub returns-in_default-clause-no_half : goal.returns-in_default-clause-no_half
returns-in_default-clause-no_half g c = λ s at. same_is_no_half s (g.D.Disk.files c.args.disk.now) (g.D.Disk.files c.args.disk.now) refl

pub returns-in_default-clause-others : goal.returns-in_default-clause-others
returns-in_default-clause-others g c = λ s at. refl

pub returns-in_default-clause-fault_reported : goal.returns-in_default-clause-fault_reported
returns-in_default-clause-fault_reported g c = record {
  cause = no_cause _ _ refl (wanting _ refl);
  quiet = λ none. refl;
}

pub returns-clause-unchanged : goal.returns-clause-unchanged
returns-clause-unchanged g c = c.run_kept-ran.ensures.unchanged

pub returns-clause-fault_reported : goal.returns-clause-fault_reported
returns-clause-fault_reported g c = c.run_kept-ran.ensures.fault_reported

pub returns-clause-others : goal.returns-clause-others
returns-clause-others g c = λ s at.
    at_place (λ (x : Specification). ResultAlone x (g.D.Disk.files c.args.disk.now) (g.D.Disk.files c.run_kept-ran.new.disk)) c.in-Ok.spec s _ c.in-Ok.ensures c.run_kept-ran.ensures.others at

pub run_kept-ran-requires-clause-budget : goal.run_kept-ran-requires-clause-budget
run_kept-ran-requires-clause-budget g c = c.requires.budget
