use Rattle.std.proofs.Common.{◌∙◌, ap, refl}
use Rattle.std.specs.String.{string_bytes}
use Rattle.tce_outside.specs.declared.device.OutFault.TheVariants.{Memory}
use Rattle.tce_outside.proofs.Causes.{cause_after}
use Rattle.tce_system.specs.Told.{Told}
use Rattle.tce_system.proofs.Seen.{made_seen, zeros_seen, others_seen, no_failure}
use Rattle.tce_system.proofs.Zeros.{made_zeros, none_zeros}
use Rattle.tce_system.proofs.sparse_disk.SparseDiskDisk.make.Goals as goal

pub invariant_of-self-in-Ok : goal.invariant_of-self-in-Ok
invariant_of-self-in-Ok g c =
    made_zeros (g.D.Disk.files c.self.inside.disk) (g.D.Disk.files c.make.new.self) (string_bytes c.in-Ok.known) c.args.name.now c.of-holes.result c.args.len c.in_ok-make.ensures.made c.in-Ok.ensures.ok

pub invariant_of-self : goal.invariant_of-self
invariant_of-self g c =
    none_zeros (g.D.Disk.files c.make.new.self) (string_bytes c.self.inside.name) c.forget.new.self c.forget.ensures

pub invariant_of-self-in-Err-known-2 : goal.invariant_of-self-in-Err-known-2
invariant_of-self-in-Err-known-2 g c =
    none_zeros (g.D.Disk.files c.make.new.self) (string_bytes c.self.inside.name) c.forget.new.self c.forget.ensures

pub returns-in_err-make-clause-zeros : goal.returns-in_err-make-clause-zeros
returns-in_err-make-clause-zeros g c =
    zeros_seen c.args.name.now (g.D.Disk.files c.self.inside.disk) c.args.self.now.files (g.D.Disk.files c.make.new.self)
    (ap (λ (t : Told). t.files) c.self.view_is)
    c.make.ensures.zeros

pub returns-in_err-make-clause-others : goal.returns-in_err-make-clause-others
returns-in_err-make-clause-others g c =
    others_seen c.args.name.now (g.D.Disk.files c.self.inside.disk) c.args.self.now.files (g.D.Disk.files c.make.new.self)
    (ap (λ (t : Told). t.files) c.self.view_is)
    c.make.ensures.others

pub returns-in-Ok-clause-zeros : goal.returns-in-Ok-clause-zeros
returns-in-Ok-clause-zeros g c =
    zeros_seen c.args.name.now (g.D.Disk.files c.self.inside.disk) c.args.self.now.files (g.D.Disk.files c.make.new.self)
    (ap (λ (t : Told). t.files) c.self.view_is)
    c.make.ensures.zeros

pub returns-in-Ok-clause-others : goal.returns-in-Ok-clause-others
returns-in-Ok-clause-others g c =
    others_seen c.args.name.now (g.D.Disk.files c.self.inside.disk) c.args.self.now.files (g.D.Disk.files c.make.new.self)
    (ap (λ (t : Told). t.files) c.self.view_is)
    c.make.ensures.others

pub returns-in_default-clause-zeros : goal.returns-in_default-clause-zeros
returns-in_default-clause-zeros g c =
    zeros_seen c.args.name.now (g.D.Disk.files c.self.inside.disk) c.args.self.now.files (g.D.Disk.files c.make.new.self)
    (ap (λ (t : Told). t.files) c.self.view_is)
    c.make.ensures.zeros

pub returns-in_default-clause-others : goal.returns-in_default-clause-others
returns-in_default-clause-others g c =
    others_seen c.args.name.now (g.D.Disk.files c.self.inside.disk) c.args.self.now.files (g.D.Disk.files c.make.new.self)
    (ap (λ (t : Told). t.files) c.self.view_is)
    c.make.ensures.others

pub returns-in-Ok-clause-made : goal.returns-in-Ok-clause-made
returns-in-Ok-clause-made g c =
    made_seen c.args.name.now c.args.len (g.D.Disk.files c.self.inside.disk) c.args.self.now.files (g.D.Disk.files c.make.new.self)
    (ap (λ (t : Told). t.files) c.self.view_is)
    c.in_ok-make.ensures.made

pub returns-in-Ok-clause-memory : goal.returns-in-Ok-clause-memory
returns-in-Ok-clause-memory g c = λ fault. absurd (no_failure tt Memory _ refl fault)

pub returns-in-Ok-clause-fault_reported : goal.returns-in-Ok-clause-fault_reported
returns-in-Ok-clause-fault_reported g c = record {
  cause =
      cause_after c.args.self.now.faults (g.D.Disk.faults c.self.inside.disk) (g.D.Disk.faults c.make.new.self)
      (ap (λ (t : Told). t.faults) c.self.view_is)
      c.in_ok-make.ensures.fault_reported.cause;
  quiet = λ none. c.in_ok-make.ensures.fault_reported.quiet none ∙ ap (λ (t : Told). t.faults) c.self.view_is;
}

pub returns-in_default-clause-made : goal.returns-in_default-clause-made
returns-in_default-clause-made g c =
    made_seen c.args.name.now c.args.len (g.D.Disk.files c.self.inside.disk) c.args.self.now.files (g.D.Disk.files c.make.new.self)
    (ap (λ (t : Told). t.files) c.self.view_is)
    c.in_ok-make.ensures.made

pub returns-in_default-clause-memory : goal.returns-in_default-clause-memory
returns-in_default-clause-memory g c = λ fault. absurd (no_failure tt Memory _ refl fault)

pub returns-in_default-clause-fault_reported : goal.returns-in_default-clause-fault_reported
returns-in_default-clause-fault_reported g c = record {
  cause =
      cause_after c.args.self.now.faults (g.D.Disk.faults c.self.inside.disk) (g.D.Disk.faults c.make.new.self)
      (ap (λ (t : Told). t.faults) c.self.view_is)
      c.in_ok-make.ensures.fault_reported.cause;
  quiet = λ none. c.in_ok-make.ensures.fault_reported.quiet none ∙ ap (λ (t : Told). t.faults) c.self.view_is;
}
