use Rattle.std.proofs.Common.{refl, rules}
use Rattle.tce_exec.specs.Storages.{work_of}
use Rattle.tce_exec.proofs.Workspaces.{kept_setting}
use Rattle.tce_exec.proofs.runner.RunnerMachine.run_tail.Goals as goal

pub returns-clause-upheld : goal.returns-clause-upheld
returns-clause-upheld g c = record {
  space = refl;
  setting =
      let m = c.args.self.now in
      kept_setting (work_of g.D.Disk.files m.evaluation m.store)
      (work_of g.D.Disk.files m.evaluation c.run_tail-answer.new.store) c.requires.ready.0.cache c.run_tail-answer.ensures.upheld.kept;
  kept = search rules;
  fault_reported = record { cause = c.run_tail-answer.ensures.upheld.fault_reported.cause; quiet = c.run_tail-answer.ensures.upheld.fault_reported.quiet };
}
