use Rattle.std.proofs.Common.{◌∙◌, arith}
use Rattle.tce_einsum.specs.Code as code
use Rattle.tce_einsum.proofs.IndexLines.{groups_left, same_at}
use Rattle.std.proofs.lemmas.Result.{IfOk-from_err}
use Rattle.tce_einsum.proofs.lines.print_indexes.Goals as goal

pub loop-first-preserved : goal.loop-first-preserved
loop-first-preserved c =
    let end = c.group_end-end.ensures in
    record {
      within = end.within;
      left =
          groups_left (code.sizes c.args.sizes.now) c.args.numbers.now c.loop-first.first c.group_end-end.result _ c.loop-first.printer c.print_group.new.printer c.requires
          end.some end.within end.same end.ends (same_at c.args.numbers.now c.loop-first.first (omega arith)) c.in_ok-print_group.ensures
          ∙ c.loop-first.invariant.left;
    }

pub returns-in_err-print_group : goal.returns-in_err-print_group
returns-in_err-print_group c = IfOk-from_err c.from_residual.result _ c.from_residual.ensures.0
