use Rattle.std.proofs.Common.{◌+◌, ◌/◌, length, slice_range, ap, ◌∙◌}
use Rattle.std.specs.List.{flat_map}
use Rattle.tce_base.specs.Word.{word_bytes}
use Rattle.tce_words.proofs.words.Words.store.Goals as goal

pub returns : goal.returns
returns c = c.write_words.ensures ∙ ap (λ xs. flat_map (word_bytes 8) (slice_range xs c.args.from (c.args.from + length c.args.out.now / 8))) c.as_slice.ensures
