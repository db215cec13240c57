use Rattle.std.proofs.Common.{◌≡◌, ◌⊎◌, ◌+◌, ◌<◌, ◌≤◌, length, ap, sym, subst, ◌∙◌}
use Rattle.std.specs.Option.{ForSome}
use Rattle.std.specs.String.{string_bytes}
use Rattle.tce_outside.specs.Files.{HasPart, KeepsBefore, KeepsFrom, written}
use Rattle.tce_outside.proofs.Causes.{cause_after}
use Rattle.tce_system.specs.Holes.{IsHole}
use Rattle.tce_system.specs.Told.{Told}
use Rattle.tce_system.proofs.Seen.{others_seen}
use Rattle.tce_system.proofs.Zeros.{written_zeros}
use Rattle.tce_system.proofs.sparse_disk.SparseDiskDisk.write_at.Goals as goal

pub invariant_of-self : goal.invariant_of-self
invariant_of-self g c =
    written_zeros (g.D.Disk.files c.self.inside.disk) (g.D.Disk.files c.write_at.new.self) (string_bytes c.self.inside.name) c.args.name.now c.self.inside.holes c.note_write.new.holes c.args.at c.args.bytes.now c.self.invariant
    (λ p hole. subst (λ known. (known ≡ c.args.name.now) × IsHole c.self.inside.holes p × ((p < c.args.at) ⊎ (c.args.at + length c.args.bytes.now ≤ p))) c.as_str.ensures.value (c.note_write.ensures p hole))
    (subst (λ told. ForSome told (λ fs. HasPart fs c.args.name.now c.args.at (length c.args.bytes.now))) (sym (ap (λ (t : Told). t.files) c.self.view_is)) c.requires)
    c.in-Ok.ensures.written

pub returns-in-Ok-clause-written : goal.returns-in-Ok-clause-written
returns-in-Ok-clause-written g c =
    c.in-Ok.ensures.written ∙ ap (written c.args.name.now c.args.at c.args.bytes.now) (ap (λ (t : Told). t.files) c.self.view_is)

pub returns-in-Ok-clause-before : goal.returns-in-Ok-clause-before
returns-in-Ok-clause-before g c =
    subst (λ told. KeepsBefore c.args.name.now c.args.at told (g.D.Disk.files c.write_at.new.self)) (ap (λ (t : Told). t.files) c.self.view_is) c.write_at.ensures.before

pub returns-in-Ok-clause-behind : goal.returns-in-Ok-clause-behind
returns-in-Ok-clause-behind g c =
    subst (λ told. KeepsFrom c.args.name.now (c.args.at + length c.args.bytes.now) told (g.D.Disk.files c.write_at.new.self)) (ap (λ (t : Told). t.files) c.self.view_is) c.write_at.ensures.behind

pub returns-in-Ok-clause-others : goal.returns-in-Ok-clause-others
returns-in-Ok-clause-others g c =
    others_seen c.args.name.now (g.D.Disk.files c.self.inside.disk) c.args.self.now.files (g.D.Disk.files c.write_at.new.self)
    (ap (λ (t : Told). t.files) c.self.view_is)
    c.write_at.ensures.others

pub returns-in-Ok-clause-fault_reported : goal.returns-in-Ok-clause-fault_reported
returns-in-Ok-clause-fault_reported g c = record {
  cause =
      cause_after c.args.self.now.faults (g.D.Disk.faults c.self.inside.disk) (g.D.Disk.faults c.write_at.new.self)
      (ap (λ (t : Told). t.faults) c.self.view_is)
      c.in-Ok.ensures.fault_reported.cause;
  quiet = λ none. c.in-Ok.ensures.fault_reported.quiet none ∙ ap (λ (t : Told). t.faults) c.self.view_is;
}

pub returns-in-Err-clause-written : goal.returns-in-Err-clause-written
returns-in-Err-clause-written g c = tt

pub returns-in-Err-clause-before : goal.returns-in-Err-clause-before
returns-in-Err-clause-before g c =
    subst (λ told. KeepsBefore c.args.name.now c.args.at told (g.D.Disk.files c.write_at.new.self)) (ap (λ (t : Told). t.files) c.self.view_is) c.write_at.ensures.before

pub returns-in-Err-clause-behind : goal.returns-in-Err-clause-behind
returns-in-Err-clause-behind g c =
    subst (λ told. KeepsFrom c.args.name.now (c.args.at + length c.args.bytes.now) told (g.D.Disk.files c.write_at.new.self)) (ap (λ (t : Told). t.files) c.self.view_is) c.write_at.ensures.behind

pub returns-in-Err-clause-others : goal.returns-in-Err-clause-others
returns-in-Err-clause-others g c =
    others_seen c.args.name.now (g.D.Disk.files c.self.inside.disk) c.args.self.now.files (g.D.Disk.files c.write_at.new.self)
    (ap (λ (t : Told). t.files) c.self.view_is)
    c.write_at.ensures.others

pub returns-in-Err-clause-fault_reported : goal.returns-in-Err-clause-fault_reported
returns-in-Err-clause-fault_reported g c = record {
  cause =
      cause_after c.args.self.now.faults (g.D.Disk.faults c.self.inside.disk) (g.D.Disk.faults c.write_at.new.self)
      (ap (λ (t : Told). t.faults) c.self.view_is)
      c.in-Err.ensures.fault_reported.cause;
  quiet = λ none. c.in-Err.ensures.fault_reported.quiet none ∙ ap (λ (t : Told). t.faults) c.self.view_is;
}
