use Rattle.std.proofs.Common.{length}
use Rattle.tce_words.proofs.LoadSteps.{fill_words}
use Rattle.tce_words.proofs.words.Words.load.Goals as goal

pub as_mut_slice-requires : goal.as_mut_slice-requires
as_mut_slice-requires c = tt

pub read_words-requires : goal.read_words-requires
read_words-requires c =
    fill_words (length c.args.bytes.now) c.args.from c.as_mut_slice.result.now c.args.self.now
    c.requires.whole
    c.as_mut_slice.ensures.value
    c.requires.room
