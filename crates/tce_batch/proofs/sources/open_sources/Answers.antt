use Rattle.std.proofs.Common.{Option, ◌⊎◌, ◌≡◌, subst, arith}
use Rattle.tce_outside.specs.Files.{Files}
use Rattle.tce_spec.specs.Specification.{Specification}
use Rattle.tce_job.specs.declared.fault.JobFault.TheVariants.{Memory}
use Rattle.tce_batch.specs.Told.{HoldsOf, IsSourceFaultOf}
use Rattle.tce_batch.proofs.Openings.{opening_fault}
use Rattle.tce_batch.proofs.sources.open_sources.Goals as goal

pub returns-in-Err-clause-refused : goal.returns-in-Err-clause-refused
returns-in-Err-clause-refused g c = λ budget able.
    let number = c.loop-number.number in
    opening_fault (g.D.Disk.files c.args.disk.now) c.args.batch.now budget number c.before_runs.result.formula c.in-Err.fault c.before_runs.result.fault
    (omega (arith, c.loop-number-test.true, c.len-count.ensures.count)) able c.loop-number.invariant.opened
    (subst (λ (told : Option Files). (c.in-Err.fault ≡ Memory) ⊎ HoldsOf c.args.batch.now number (λ (s : Specification). IsSourceFaultOf told c.args.batch.now number s c.in-Err.fault)) c.loop-number.invariant.same
    c.in-Err.ensures.refused) c.before_runs.ensures.fault c.before_runs.ensures.formula
