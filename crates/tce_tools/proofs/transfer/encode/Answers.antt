use Rattle.std.proofs.Common.{◌∙◌, sym, ap}
use Rattle.std.specs.List.{flat_map}
use Rattle.tce_array.specs.declared.form.Form.{Form}
use Rattle.tce_array.specs.Forms.{width}
use Rattle.tce_base.specs.Word.{word_bytes}
use Rattle.tce_tools.proofs.transfer.encode.Goals as goal

pub returns-in-One : goal.returns-in-One
unfolding word_bytes
returns-in-One c = c.write_u64_into.ensures ∙ ap (λ (f : Form). flat_map (word_bytes (width f)) c.args.words.now) (sym c.in-One.is)

pub returns-in-Wide : goal.returns-in-Wide
unfolding word_bytes
returns-in-Wide c = c.write_u64_into-in-Wide.ensures ∙ ap (λ (f : Form). flat_map (word_bytes (width f)) c.args.words.now) (sym c.in-Wide.is)
