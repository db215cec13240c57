use Rattle.std.proofs.Common.{◌∙◌, length, ap, refl, subst, rules}
use Rattle.std.specs.Result.{OnOk}
use Rattle.tce_outside.specs.Files.{IsPartIn}
use Rattle.tce_outside.proofs.Causes.{cause_after}
use Rattle.tce_system.specs.Told.{Told}
use Rattle.tce_system.proofs.sparse_disk.SparseDiskDisk.read_at.Goals as goal

pub returns-then-is_hole-clause-same : goal.returns-then-is_hole-clause-same
returns-then-is_hole-clause-same g c = refl

pub returns-then-is_hole-clause-fault_reported : goal.returns-then-is_hole-clause-fault_reported
returns-then-is_hole-clause-fault_reported g c = record {
  cause = search rules;
  quiet = λ none. refl;
}

pub returns-clause-read : goal.returns-clause-read
returns-clause-read g c =
    subst (λ told. OnOk c.read_at.result (IsPartIn told c.args.name.now c.args.at (length c.args.out.now) c.read_at.new.out)) (ap (λ (t : Told). t.files) c.self.view_is) c.read_at.ensures.read

pub returns-clause-same : goal.returns-clause-same
returns-clause-same g c = c.read_at.ensures.same ∙ ap (λ (t : Told). t.files) c.self.view_is

pub returns-clause-fault_reported : goal.returns-clause-fault_reported
returns-clause-fault_reported g c = record {
  cause =
      cause_after c.args.self.now.faults (g.D.Disk.faults c.self.inside.disk) (g.D.Disk.faults c.read_at.new.self)
      (ap (λ (t : Told). t.faults) c.self.view_is)
      c.read_at.ensures.fault_reported.cause;
  quiet = λ none. c.read_at.ensures.fault_reported.quiet none ∙ ap (λ (t : Told). t.faults) c.self.view_is;
}
