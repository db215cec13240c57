use Rattle.std.proofs.Common.{length, replicate}
use Rattle.tce_array.proofs.MadeFiles.{made_has_part, made_and_written}
use Rattle.tce_tools.proofs.NewFiles.{room_for, over_zeros}
use Rattle.tce_tools.proofs.writing.write_file.Goals as goal

pub write_at-requires : goal.write_at-requires
write_at-requires g c =
    made_has_part (g.D.Disk.files c.args.disk.now) _ _ _ _ _ c.in_ok-make.ensures.made (room_for c.args.bytes.now)

pub returns-in-Ok-clause-made : goal.returns-in-Ok-clause-made
returns-in-Ok-clause-made g c =
    made_and_written (g.D.Disk.files c.args.disk.now) _ _ c.args.name.now (replicate (length c.args.bytes.now) 0) c.args.bytes.now c.args.bytes.now 0 c.in_ok-make.ensures.made c.in-Ok.ensures.written
    (over_zeros c.args.bytes.now)
