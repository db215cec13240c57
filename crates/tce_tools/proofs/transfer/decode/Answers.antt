use Rattle.std.proofs.Common.{◌≡◌, ◌*◌, ◌<◌, ℕ, length, slice_index, drop, sym, subst}
use Rattle.tce_array.specs.declared.form.Form.{Form}
use Rattle.tce_array.specs.Forms.{width, word_in}
use Rattle.tce_base.specs.Word.{word_of_bytes}
use Rattle.tce_tools.proofs.transfer.decode.Goals as goal

pub returns-in-One : goal.returns-in-One
unfolding word_in word_of_bytes
returns-in-One c =
    subst (λ (f : Form). (k : ℕ) → k < length c.read_u64_into.new.dst → slice_index c.read_u64_into.new.dst k ≡ word_in f (drop (width f * k) c.args.bytes.now)) (sym c.in-One.is) c.read_u64_into.ensures

pub returns-in-Wide : goal.returns-in-Wide
unfolding word_in word_of_bytes
returns-in-Wide c =
    subst (λ (f : Form). (k : ℕ) → k < length c.read_u64_into-in-Wide.new.dst → slice_index c.read_u64_into-in-Wide.new.dst k ≡ word_in f (drop (width f * k) c.args.bytes.now)) (sym c.in-Wide.is) c.read_u64_into-in-Wide.ensures

pub returns-in-Narrow : goal.returns-in-Narrow
unfolding word_in word_of_bytes
returns-in-Narrow c =
    subst (λ (f : Form). (k : ℕ) → k < length c.decode_narrow.new.words → slice_index c.decode_narrow.new.words k ≡ word_in f (drop (width f * k) c.args.bytes.now)) (sym c.in-Narrow.is) c.decode_narrow.ensures
