use Rattle.std.proofs.Common.{◌∙◌}
use Rattle.tce_spec.proofs.Groups.{groups_left}
use Rattle.tce_spec.proofs.index_lines.print_indexes.Goals as goal

pub loop-first-preserved : goal.loop-first-preserved
loop-first-preserved c =
    let end = c.group_end-end.ensures in
    record {
      within = end.within;
      left =
          groups_left c.args.space.now c.loop-first.first c.group_end-end.result c.loop-first.printer c.print_group.new.printer end.some end.within end.same end.ends c.in_ok-print_group.ensures
          ∙ c.loop-first.invariant.left;
    }
