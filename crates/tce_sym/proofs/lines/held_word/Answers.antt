use Rattle.std.proofs.Common.{◌∙◌, unwrap_or, refl, sym, ap}
use Rattle.tce_sym.proofs.HeldLines.{held_word}
use Rattle.tce_sym.proofs.lines.held_word.Goals as goal

pub returns-then-place-mark : goal.returns-then-place-mark
returns-then-place-mark c = λ bytes held x is.
    sym (ap (λ o. unwrap_or o 0) is)
    ∙ held_word c.args.grid.now bytes c.args.lines.now c.args.slot c.args.place _ c.requires.slot c.requires.place refl c.if-mark-gt0.true c.if-mark-place.true c.if-place-mark.true held
