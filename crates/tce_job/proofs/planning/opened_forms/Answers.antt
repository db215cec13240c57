use Rattle.std.proofs.Common.{refl}
use Rattle.tce_job.proofs.Plans.{opening_fault, opening_has_cause, opening_tells}
use Rattle.tce_job.proofs.planning.opened_forms.Goals as goal

pub returns-in-Err-clause-refused : goal.returns-in-Err-clause-refused
returns-in-Err-clause-refused g c = opening_fault (g.D.Disk.files c.args.disk.now) c.args.spec.now c.in-Err.refused c.fault_of.result (c.in-Err.ensures.declared, c.in-Err.ensures.refused) c.fault_of.ensures

pub returns-in-Err-clause-fault_reported : goal.returns-in-Err-clause-fault_reported
returns-in-Err-clause-fault_reported g c = record {
  cause =
      opening_has_cause (g.D.Disk.faults c.args.disk.now) (g.D.Disk.faults c.open_operands.new.disk) c.in-Err.refused c.fault_of.result _ refl c.fault_of.ensures c.in-Err.ensures.fault_reported.cause;
  quiet =
      opening_tells (g.D.Disk.faults c.args.disk.now) (g.D.Disk.faults c.open_operands.new.disk) c.in-Err.refused c.fault_of.result _ refl c.fault_of.ensures c.in-Err.ensures.fault_reported.quiet;
}
