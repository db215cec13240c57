use Rattle.std.proofs.Common.{◌≡◌, sym, subst, OnOk, refl}
use Rattle.std.proofs.lemmas.Bool.{false≢true}
use Rattle.tce_outside.specs.Files.{written}
use Rattle.tce_outside.proofs.Causes.{no_cause}
use Rattle.tce_tools.specs.declared.storage.Storage.{Storage}
use Rattle.tce_tools.specs.Storage.{start_of}
use Rattle.tce_tools.proofs.NoHalf.{start_written}
use Rattle.tce_tools.proofs.storage.write_start.Goals as goal

pub returns-in-Array-clause-written : goal.returns-in-Array-clause-written
returns-in-Array-clause-written g c =
    start_written c.write_head.result c.args.storage c.args.shape.now c.args.name.now _ _
    (subst (λ (t : Storage). OnOk c.write_head.result (g.D.Disk.files c.write_head.new.disk ≡ written c.args.name.now 0 (start_of t c.args.shape.now) (g.D.Disk.files c.args.disk.now))) (sym c.in-Array.is) c.write_head.ensures.written)

pub returns-in-Array-clause-others : goal.returns-in-Array-clause-others
returns-in-Array-clause-others g c = c.write_head.ensures.others

pub returns-in-Array-clause-fault_reported : goal.returns-in-Array-clause-fault_reported
returns-in-Array-clause-fault_reported g c = c.write_head.ensures.fault_reported

pub returns-in-Flat-clause-others : goal.returns-in-Flat-clause-others
returns-in-Flat-clause-others g c = refl

pub returns-in-Flat-clause-fault_reported : goal.returns-in-Flat-clause-fault_reported
returns-in-Flat-clause-fault_reported g c = record {
  cause = no_cause (g.D.Disk.faults c.args.disk.now) (g.D.Disk.faults c.args.disk.now) refl false≢true;
  quiet = λ fine. refl;
}
