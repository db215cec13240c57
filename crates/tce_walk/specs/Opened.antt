-- The loop that an `Open` begins.
use Rattle.std.specs.Prelude.{◌+◌, List}
use Rattle.tce_code.specs.Program.{Program, stop, loop}
use Rattle.tce_code.specs.declared.op.Op.{Op}
use Rattle.tce_walk.specs.Positions.{program_at}
use Rattle.tce_walk.specs.declared.running.OpenLoop.{OpenLoop}

-- the loop alone, as a program
abbrev pub loop_at : List Op → OpenLoop → Program
loop_at ops head = loop head.index (program_at ops (head.at + 1)) stop
