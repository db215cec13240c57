use Rattle.std.proofs.Common.{length}
use Rattle.tce_words.proofs.LoadSteps.{fill_narrow}
use Rattle.tce_words.proofs.words.Words.load_narrow.Goals as goal

pub as_mut_slice-requires : goal.as_mut_slice-requires
as_mut_slice-requires c = tt

pub read_narrow-requires : goal.read_narrow-requires
read_narrow-requires c =
    fill_narrow (length c.args.bytes.now) c.args.from c.as_mut_slice.result.now c.args.self.now
    c.requires.whole
    c.as_mut_slice.ensures.value
    c.requires.room
