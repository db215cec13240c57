use Rattle.std.proofs.Common.{sym, ap, ◌∙◌, subst}
use Rattle.tce_block.specs.Cuts.{part_of}
use Rattle.tce_walk.specs.Bodies.{IsBodyAt, after_body}
use Rattle.tce_walk.specs.Machine.{assignment_of}
use Rattle.tce_walk.proofs.StraightBodies.{body-asks, body-few, body-run, both-ok}
use Rattle.tce_walk.proofs.running.run_straight.Goals as goal

pub run_body-requires-clause-body : goal.run_body-requires-clause-body
run_body-requires-clause-body g c =
    subst (λ loops. IsBodyAt (g.M.Machine.space c.args.machine.now) (g.M.Machine.setting c.args.machine.now) loops c.args.ops.now (part_of c.args.block.now) (assignment_of c.args.numbers.now))
    (sym c.as_slice.ensures.value)
    (body-asks c.args.walk.now.space.now c.args.walk.now.tree.now (g.M.Machine.space c.args.machine.now) (g.M.Machine.setting c.args.machine.now) c.args.walk.now.ops.now c.args.band.now.at
    c.args.band.now.loops.0.items c.args.ops.now (part_of c.args.block.now) (assignment_of c.args.numbers.now) c.requires.over c.requires.limits c.requires.part c.requires.block c.requires.body)

pub run_body-requires-clause-few : goal.run_body-requires-clause-few
run_body-requires-clause-few g c =
    body-few c.args.walk.now.space.now c.args.walk.now.tree.now c.args.walk.now.ops.now c.args.band.now.at c.args.ops.now (part_of c.args.block.now) (g.M.Machine.touches c.args.machine.now)
    c.requires.body c.requires.few

pub returns-clause-run : goal.returns-clause-run
returns-clause-run g c =
    both-ok c.run_body.result
    (λ e l.
    body-run c.args.walk.now.space.now c.args.walk.now.tree.now (g.M.Machine.setting c.args.machine.now) c.args.walk.now.ops.now c.args.band.now.at c.args.band.now.loops.0.items
    c.args.ops.now (part_of c.args.block.now) (assignment_of c.args.numbers.now) (g.M.Machine.state c.args.machine.now) (g.M.Machine.state c.run_body.new.self) (g.M.Machine.touches c.args.machine.now)
    (g.M.Machine.touches c.run_body.new.self) c.requires.body
    (e ∙ ap (λ loops. after_body (g.M.Machine.setting c.args.machine.now) loops c.args.ops.now (part_of c.args.block.now) (assignment_of c.args.numbers.now) (g.M.Machine.state c.args.machine.now)) c.as_slice.ensures.value)
    l)
    c.run_body.ensures.state c.run_body.ensures.touches
