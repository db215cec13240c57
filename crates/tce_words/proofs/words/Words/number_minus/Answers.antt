use Rattle.std.proofs.Common.{map, ap, ◌∙◌}
use Rattle.tce_base.specs.Word.{wrapping_sub}
use Rattle.tce_words.specs.Rows.{row_of}
use Rattle.tce_words.specs.Run.{with_part}
use Rattle.tce_words.proofs.RunSteps.{part_mapped}
use Rattle.tce_words.proofs.words.Words.number_minus.Goals as goal

pub returns : goal.returns
returns c =
    part_mapped (wrapping_sub c.args.number) c.args.out c.args.a c.args.n c.args.self.now c.one_minus.new.words
    (c.one_minus.ensures ∙ ap (λ xs. with_part xs c.args.out (map (wrapping_sub c.args.number) (row_of xs c.args.a c.args.n))) c.as_mut_slice-words.ensures.value)
    c.requires.out
    c.requires.a
