use Rattle.std.proofs.Common.{arith}
use Rattle.tce_spec.proofs.Seen.{seen_none}
use Rattle.tce_spec.proofs.sources.sources_of.Goals as goal

pub add_operands-requires : goal.add_operands-requires
add_operands-requires c = (omega arith, (c.requires, seen_none 64 c.new-sources.result.items c.new-sources.ensures))
