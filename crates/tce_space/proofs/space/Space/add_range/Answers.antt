use Rattle.std.proofs.lemmas.List.{length-map}
use Rattle.tce_space.proofs.Spaces.{range_kept, if_range_added, range_number_is}
use Rattle.tce_space.proofs.space.Space.add_range.Goals as goal

pub invariant_of-self : goal.invariant_of-self
invariant_of-self c =
    range_kept c.self.inside.ranges.entries c.self.inside.indexes.entries c.args.name.now c.declare.new.entries.entries (record { extent = c.args.extent; edge = c.args.edge })
    c.declare.result c.declare.ensures.added c.declare.ensures.apart c.declare.ensures.refused c.self.invariant c.requires

pub returns-clause-limits : goal.returns-clause-limits
returns-clause-limits c = invariant_of-self c

pub returns-clause-added : goal.returns-clause-added
returns-clause-added c =
    rw (← c.self.view_is)
    (if_range_added c.self.inside.ranges.entries c.self.inside.indexes.entries c.args.name.now c.declare.new.entries.entries (record { extent = c.args.extent; edge = c.args.edge })
    c.declare.result c.declare.ensures.added)

pub returns-clause-named : goal.returns-clause-named
returns-clause-named c =
    rw (← c.self.view_is, range_number_is c.self.inside.ranges.entries c.self.inside.indexes.entries c.args.name.now.bytes) c.declare.ensures.named

pub returns-clause-full : goal.returns-clause-full
returns-clause-full c =
    rw (← c.self.view_is, range_number_is c.self.inside.ranges.entries c.self.inside.indexes.entries c.args.name.now.bytes, length-map) c.declare.ensures.full
