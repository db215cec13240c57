use Rattle.tce_run.proofs.Told.{told_disk, disk_told, told_free}
use Rattle.tce_run.proofs.demo_running.run_refusal.Goals as goal

pub returns-clause-free : goal.returns-clause-free
returns-clause-free c = told_free c.args.spec.now c.args.fault c.refusal_of.result c.refusal_of.ensures

pub returns-clause-disk_alone : goal.returns-clause-disk_alone
returns-clause-disk_alone c = told_disk c.args.spec.now c.args.fault c.refusal_of.result c.refusal_of.ensures

pub returns-clause-disk_told : goal.returns-clause-disk_told
returns-clause-disk_told c = disk_told c.args.spec.now c.args.fault c.refusal_of.result c.refusal_of.ensures
