use Rattle.tce_exec.proofs.Frames as frames
use Rattle.tce_exec.proofs.window_laws.tiles_show_words.Goals as goal

pub returns : goal.returns
returns c = frames.tiles_show_words
