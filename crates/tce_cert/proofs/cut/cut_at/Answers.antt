use Rattle.std.proofs.Common.{sym, subst, ◌+◌, take}
use Rattle.std.proofs.lemmas.List.{take_rest}
use Rattle.tce_cert.specs.Cut.{IsCut}
use Rattle.tce_cert.proofs.Cuts.{cut_made, all_lacking}
use Rattle.tce_cert.proofs.cut.cut_at.Goals as goal

pub returns-in-Some : goal.returns-in-Some
returns-in-Some c =
    subst (IsCut c.args.separator c.args.text.now (take c.in-Some.end c.args.text.now)) (sym (take_rest c.args.text.now (c.in-Some.end + 1)))
    (cut_made c.args.separator c.args.text.now c.in-Some.end (sym c.in-Some.ensures))

pub returns-in-None : goal.returns-in-None
returns-in-None c = all_lacking c.args.separator c.args.text.now (sym c.in-None.ensures)
