use Rattle.std.proofs.Common.{map, ap, ◌∙◌}
use Rattle.tce_base.specs.Word.{wrapping_sub}
use Rattle.tce_words.specs.Rows.{row_of}
use Rattle.tce_words.specs.Run.{with_part}
use Rattle.tce_words.proofs.RunSteps.{part_mapped}
use Rattle.tce_words.proofs.words.Words.minus_number.Goals as goal

pub returns : goal.returns
returns c =
    part_mapped (λ x. wrapping_sub x c.args.number) c.args.out c.args.a c.args.n c.args.self.now c.minus_one.new.words
    (c.minus_one.ensures ∙ ap (λ xs. with_part xs c.args.out (map (λ x. wrapping_sub x c.args.number) (row_of xs c.args.a c.args.n))) c.as_mut_slice-words.ensures.value)
    c.requires.out
    c.requires.a
