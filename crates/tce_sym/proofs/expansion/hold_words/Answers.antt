use Rattle.std.proofs.Common.{sym, subst, length}
use Rattle.std.specs.Option.{ForSome}
use Rattle.std.specs.Result.{OnOk}
use Rattle.tce_outside.specs.Files.{Files}
use Rattle.tce_tools.specs.Flat.{contents}
use Rattle.tce_sym.specs.declared.lines.Layout.{Layout}
use Rattle.tce_sym.specs.Lines.{HasRoom, AreHeld}
use Rattle.tce_sym.proofs.HeldLines.{none_held}
use Rattle.tce_sym.proofs.expansion.hold_words.Goals as goal

pub read_whole-requires-clause-room : goal.read_whole-requires-clause-room
read_whole-requires-clause-room g c = subst (λ (l : Layout). HasRoom l c.args.grid.now (length c.args.lines.now)) c.in-Whole.is c.requires.room

pub read_across-requires-clause-room : goal.read_across-requires-clause-room
read_across-requires-clause-room g c = subst (λ (l : Layout). HasRoom l c.args.grid.now (length c.args.lines.now)) c.in-Across.is c.requires.room

pub returns-in-Lines-clause-held : goal.returns-in-Lines-clause-held
returns-in-Lines-clause-held g c = λ x told.
    subst (λ (l : Layout). AreHeld l c.args.grid.now (contents x c.args.packed.now) c.clear.new.words) (sym c.in-Lines.is) (none_held _ c.clear.new.words c.clear.ensures c.args.grid.now (contents x c.args.packed.now))

pub returns-in-Whole-clause-held : goal.returns-in-Whole-clause-held
returns-in-Whole-clause-held g c =
    subst (λ (l : Layout). OnOk c.read_whole.result (ForSome (g.D.Disk.files c.args.disk.now) (λ (x : Files). AreHeld l c.args.grid.now (contents x c.args.packed.now) c.read_whole.new.lines))) (sym c.in-Whole.is) c.read_whole.ensures.read

pub returns-in-Across-clause-held : goal.returns-in-Across-clause-held
returns-in-Across-clause-held g c =
    subst (λ (l : Layout). OnOk c.read_across.result (ForSome (g.D.Disk.files c.args.disk.now) (λ (x : Files). AreHeld l c.args.grid.now (contents x c.args.packed.now) c.read_across.new.lines))) (sym c.in-Across.is) c.read_across.ensures.read
