use Rattle.std.proofs.Common.{sym, subst}
use Rattle.tce_array.specs.declared.form.Form.{Form}
use Rattle.tce_array.specs.Forms.{width, word_in}
use Rattle.tce_words.specs.Load.{IsLoaded}
use Rattle.tce_cache.proofs.transfer.load_piece.Goals as goal

pub returns-in-One : goal.returns-in-One
unfolding word_in
returns-in-One c = subst (λ (f : Form). IsLoaded (word_in f) (width f) c.args.at c.args.piece.now c.args.words.now c.load.new.self) (sym c.in-One.is) c.load.ensures

pub returns-in-Wide : goal.returns-in-Wide
unfolding word_in
returns-in-Wide c = subst (λ (f : Form). IsLoaded (word_in f) (width f) c.args.at c.args.piece.now c.args.words.now c.load-in-Wide.new.self) (sym c.in-Wide.is) c.load-in-Wide.ensures

pub returns-in-Narrow : goal.returns-in-Narrow
unfolding word_in
returns-in-Narrow c = subst (λ (f : Form). IsLoaded (word_in f) (width f) c.args.at c.args.piece.now c.args.words.now c.load_narrow.new.self) (sym c.in-Narrow.is) c.load_narrow.ensures
