use Rattle.std.proofs.Common.{subst}
use Rattle.tce_check.specs.Tops.{HasConflict}
use Rattle.tce_check.proofs.steps.Node.covers_next.Goals as goal

pub returns-then-are_crossed : goal.returns-then-are_crossed
returns-then-are_crossed c _ quiet =
    let crossed = subst (λ loops. HasConflict loops c.args.tops.now c.args.right.now) c.loops.ensures.value (c.are_crossed.ensures c.if-are_crossed.true) in
    absurd (crossed c.args.left.now c.requires.tops quiet)
