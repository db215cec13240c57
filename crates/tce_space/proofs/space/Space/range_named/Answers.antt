use Rattle.tce_space.proofs.Spaces.{range_names_short, range_number_is}
use Rattle.tce_space.proofs.space.Space.range_named.Goals as goal

pub named-requires-clause-short : goal.named-requires-clause-short
named-requires-clause-short c = range_names_short c.self.inside.ranges.entries c.self.inside.indexes.entries c.self.invariant

pub returns-clause-number : goal.returns-clause-number
returns-clause-number c =
    rw (← c.self.view_is, range_number_is c.self.inside.ranges.entries c.self.inside.indexes.entries c.args.name.now) c.named.ensures
