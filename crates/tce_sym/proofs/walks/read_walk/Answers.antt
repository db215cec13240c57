use Rattle.std.proofs.Common.{◌∙◌, length, sym, subst, arith, refl}
use Rattle.std.specs.Option.{ForSome}
use Rattle.std.specs.Result.{OnOk}
use Rattle.std.proofs.lemmas.Bool.{false≢true}
use Rattle.tce_outside.specs.Files.{Files}
use Rattle.tce_outside.proofs.Causes.{no_cause}
use Rattle.tce_tools.specs.Flat.{contents}
use Rattle.tce_sym.specs.declared.lines.Layout.{Layout}
use Rattle.tce_sym.specs.Lines.{HasRoom, AreHeld, walk_place}
use Rattle.tce_sym.proofs.Across.{across_held}
use Rattle.tce_sym.proofs.walks.read_walk.Goals as goal

pub read_lines-requires-clause-grid : goal.read_lines-requires-clause-grid
read_lines-requires-clause-grid g c = subst (λ (l : Layout). HasRoom l c.args.grid.now (length c.args.lines.now)) c.in-Lines.is c.requires.room

pub read_lines-requires-clause-lines : goal.read_lines-requires-clause-lines
read_lines-requires-clause-lines g c = λ x told.
    subst (λ (l : Layout). AreHeld l c.args.grid.now (contents x c.args.packed.now) c.args.lines.now) c.in-Lines.is (c.requires.lines x told)

pub gather-requires-clause-room : goal.gather-requires-clause-room
gather-requires-clause-room g c = subst (λ (l : Layout). HasRoom l c.args.grid.now (length c.args.lines.now)) c.in-Whole.is c.requires.room

pub gather_across-requires-clause-room : goal.gather_across-requires-clause-room
gather_across-requires-clause-room g c = subst (λ (l : Layout). HasRoom l c.args.grid.now (length c.args.lines.now)) c.in-Across.is c.requires.room

pub returns-in-Lines-clause-read : goal.returns-in-Lines-clause-read
returns-in-Lines-clause-read g c = c.read_lines.ensures.read

pub returns-in-Lines-clause-lines : goal.returns-in-Lines-clause-lines
returns-in-Lines-clause-lines g c =
    subst (λ (l : Layout). OnOk c.read_lines.result (ForSome (g.D.Disk.files c.args.disk.now) (λ (x : Files). AreHeld l c.args.grid.now (contents x c.args.packed.now) c.read_lines.new.lines))) (sym c.in-Lines.is) c.read_lines.ensures.lines

pub returns-in-Lines-clause-same : goal.returns-in-Lines-clause-same
returns-in-Lines-clause-same g c = c.read_lines.ensures.same

pub returns-in-Lines-clause-fault_reported : goal.returns-in-Lines-clause-fault_reported
returns-in-Lines-clause-fault_reported g c = c.read_lines.ensures.fault_reported

pub returns-in-Whole-clause-read : goal.returns-in-Whole-clause-read
returns-in-Whole-clause-read g c = λ x told k l.
    let held = subst (λ (l : Layout). AreHeld l c.args.grid.now (contents x c.args.packed.now) c.args.lines.now) c.in-Whole.is (c.requires.lines x told) in
    c.gather.ensures k l ∙ held.held (walk_place c.args.walk.now k) (c.requires.places k (omega (arith, l, c.gather.auto.words)))

pub returns-in-Whole-clause-lines : goal.returns-in-Whole-clause-lines
returns-in-Whole-clause-lines g c = c.requires.lines

pub returns-in-Across-clause-read : goal.returns-in-Across-clause-read
returns-in-Across-clause-read g c = λ x told k l.
    let held = subst (λ (l : Layout). AreHeld l c.args.grid.now (contents x c.args.packed.now) c.args.lines.now) c.in-Across.is (c.requires.lines x told) in
    let room = subst (λ (l : Layout). HasRoom l c.args.grid.now (length c.args.lines.now)) c.in-Across.is c.requires.room in
    c.gather_across.ensures k l
    ∙ across_held c.args.grid.now (length c.args.lines.now) (walk_place c.args.walk.now k) (contents x c.args.packed.now) c.args.lines.now room (c.requires.places k (omega (arith, l, c.gather_across.auto.words))) held

pub returns-in-Across-clause-lines : goal.returns-in-Across-clause-lines
returns-in-Across-clause-lines g c = c.requires.lines

pub read_lines-requires-clause-count : goal.read_lines-requires-clause-count
read_lines-requires-clause-count g c = c.requires.count

pub read_lines-requires-clause-places : goal.read_lines-requires-clause-places
read_lines-requires-clause-places g c = c.requires.places

pub read_lines-requires-clause-few : goal.read_lines-requires-clause-few
read_lines-requires-clause-few g c = c.requires.few

pub gather-requires-clause-count : goal.gather-requires-clause-count
gather-requires-clause-count g c = c.requires.count

pub gather-requires-clause-places : goal.gather-requires-clause-places
gather-requires-clause-places g c = c.requires.places

pub gather-requires-clause-few : goal.gather-requires-clause-few
gather-requires-clause-few g c = c.requires.few

pub gather_across-requires-clause-count : goal.gather_across-requires-clause-count
gather_across-requires-clause-count g c = c.requires.count

pub gather_across-requires-clause-places : goal.gather_across-requires-clause-places
gather_across-requires-clause-places g c = c.requires.places

pub gather_across-requires-clause-few : goal.gather_across-requires-clause-few
gather_across-requires-clause-few g c = c.requires.few

pub read_lines-requires-clause-file : goal.read_lines-requires-clause-file
read_lines-requires-clause-file g c = c.requires.file

pub returns-in-Whole-clause-same : goal.returns-in-Whole-clause-same
returns-in-Whole-clause-same g c = refl

pub returns-in-Whole-clause-fault_reported : goal.returns-in-Whole-clause-fault_reported
returns-in-Whole-clause-fault_reported g c = record {
  cause = no_cause (g.D.Disk.faults c.args.disk.now) (g.D.Disk.faults c.args.disk.now) refl false≢true;
  quiet = λ fine. refl;
}

pub returns-in-Across-clause-same : goal.returns-in-Across-clause-same
returns-in-Across-clause-same g c = refl

pub returns-in-Across-clause-fault_reported : goal.returns-in-Across-clause-fault_reported
returns-in-Across-clause-fault_reported g c = record {
  cause = no_cause (g.D.Disk.faults c.args.disk.now) (g.D.Disk.faults c.args.disk.now) refl false≢true;
  quiet = λ fine. refl;
}
