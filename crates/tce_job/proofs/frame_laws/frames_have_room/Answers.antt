use Rattle.tce_job.proofs.Tiles.{largest_some, result_within, operand_within}
use Rattle.tce_job.proofs.frame_laws.frames_have_room.Goals as goal

pub returns : goal.returns
returns c = record { some = largest_some; result = result_within; operand = operand_within }
