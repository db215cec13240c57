use Rattle.tce_spec.proofs.Keeping.{kept_none}
use Rattle.tce_spec.proofs.declarations.Declarations.over.Goals as goal

pub invariant_of-result : goal.invariant_of-result
invariant_of-result c = kept_none c.args.space c.in_ok-with_capacity.field-0.entries c.range_count-ranges.ensures.limits c.in_ok-with_capacity.ensures.empty
