use Rattle.std.proofs.Common.{sym, ap, ◌∙◌, Some}
use Rattle.tce_code.specs.declared.op.Op.TheVariants.{Open}
use Rattle.tce_walk.proofs.Searching.{sum-here}
use Rattle.tce_walk.proofs.search.sum_alone.Goals as goal

pub returns-then-is_end : goal.returns-then-is_end
returns-then-is_end c =
    sum-here c.args.tree.now c.args.ops.now c.args.at c.args.v c.in-Acc.u (Open 0) c.if-at-ops.false c.in-Acc.is c.requires.shaped
    (sym c.parent.ensures.value ∙ c.in_ok-parent.was ∙ ap Some (sym c.if-u-parent.true)) (sym c.if-is_end.ensures)
