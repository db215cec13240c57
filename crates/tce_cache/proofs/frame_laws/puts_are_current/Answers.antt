use Rattle.std.proofs.Common.{◌∙◌, ◌+◌}
use Rattle.std.proofs.lemmas.List.{get_or-set_same}
use Rattle.tce_cache.specs.Current.{place}
use Rattle.tce_cache.proofs.Current.{put_other, current_held}
use Rattle.tce_cache.proofs.frame_laws.puts_are_current.Goals as goal

pub returns : goal.returns
returns c stored l held words array tile k w h apart found lt room = (
  current_held stored l held _ array tile k h found ∙ get_or-set_same words (place l h.frame + k) w 0 room,
  put_other stored l held words array tile k w h apart found lt,
)
