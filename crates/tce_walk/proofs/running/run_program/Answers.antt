use Rattle.std.proofs.Common.{ap, ◌∙◌, replicate}
use Rattle.tce_code.specs.Program.{program_of}
use Rattle.tce_walk.specs.Machine.{assignment_of, after}
use Rattle.tce_walk.proofs.Walking.{whole-part, zeros-none}
use Rattle.tce_walk.proofs.running.run_program.Goals as goal

pub run_part-requires-clause-part : goal.run_part-requires-clause-part
run_part-requires-clause-part g c =
    whole-part c.args.space.now c.args.tree.now (g.M.Machine.setting c.args.machine.now).fusion c.args.ops.now (assignment_of (replicate 24 0)) c.requires.code

pub returns-clause-state : goal.returns-clause-state
returns-clause-state g c =
    (c.in_ok-_end.ensures).run.state
    ∙ ap (λ a. after (g.M.Machine.setting c.args.machine.now) (program_of c.args.ops.now) a (g.M.Machine.state c.args.machine.now)) (zeros-none 24)
