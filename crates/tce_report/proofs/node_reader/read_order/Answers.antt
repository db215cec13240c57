use Rattle.std.proofs.Common.{subst}
use Rattle.std.specs.List.Sorted.{IsPermutation}
use Rattle.tce_space.specs.IndexSet.{members}
use Rattle.tce_fields.specs.Reading.{texts}
use Rattle.tce_report.proofs.Reading.{order_found}
use Rattle.tce_report.proofs.node_reader.read_order.Goals as goal

pub returns-then-is_order_of : goal.returns-then-is_order_of
returns-then-is_order_of c =
    order_found c.args.space.now c.args.loops (texts c.args.names.now) c.in-Some.order.items
    (subst (IsPermutation (members c.args.loops)) c.as_slice.ensures.value (c.is_order_of.ensures.0 c.if-is_order_of.true)) c.in-Some.ensures
