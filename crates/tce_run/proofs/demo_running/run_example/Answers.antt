use Rattle.tce_job.specs.Refusals.{MayBeRefused}
use Rattle.tce_job.proofs.Causes.{names_declared}
use Rattle.tce_run.proofs.Told.{of_files}
use Rattle.tce_run.proofs.Affordable.{affordable}
use Rattle.tce_run.proofs.DemoRan.{room_left}
use Rattle.tce_run.proofs.demo_running.run_example.Goals as goal

pub run_refusal-requires-clause-declared : goal.run_refusal-requires-clause-declared
run_refusal-requires-clause-declared g c = names_declared (g.D.Disk.files c.args.disk.now) c.args.spec.now 16384 c.in-Err.fault c.in-Err.ensures.refused

pub run_refusal-requires-clause-of_files : goal.run_refusal-requires-clause-of_files
run_refusal-requires-clause-of_files g c = of_files (MayBeRefused (g.D.Disk.files c.args.disk.now) c.args.spec.now) c.args.spec.now 16384 c.in-Err.fault c.in-Err.ensures.refused

pub returns-in-Err-clause-refused : goal.returns-in-Err-clause-refused
returns-in-Err-clause-refused g c = λ files told. c.run_refusal.ensures.free (c.in-Err.ensures.granted files told (record { affordable = affordable c.args.spec.now c.requires.spec; operands = c.requires.operands files told }))

pub returns-in-Err-clause-as_run : goal.returns-in-Err-clause-as_run
returns-in-Err-clause-as_run g c = (c.in-Err.fault, c.run_refusal.ensures.told)

pub returns-in-Err-clause-takings : goal.returns-in-Err-clause-takings
returns-in-Err-clause-takings g c = room_left c.in-Err.fault c.run_refusal.result c.args.spec.now 16384 _ _ c.run_refusal.ensures.free c.in-Err.ensures.takings
