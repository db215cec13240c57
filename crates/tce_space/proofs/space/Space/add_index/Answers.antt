use Rattle.std.proofs.Common.{◌<◌, length, subst, sym}
use Rattle.std.proofs.lemmas.List.{length-map}
use Rattle.tce_space.specs.Space.{IndexSpace}
use Rattle.tce_space.proofs.Spaces.{index_kept, if_index_added, index_number_is}
use Rattle.tce_space.proofs.space.Space.add_index.Goals as goal

pub invariant_of-self : goal.invariant_of-self
invariant_of-self c =
    let declared = subst (λ (s : IndexSpace). c.args.range < length s.ranges) (sym c.self.view_is) c.requires.declared in
    index_kept c.self.inside.ranges.entries c.self.inside.indexes.entries c.args.name.now c.declare.new.entries.entries c.args.range
    c.declare.result c.declare.ensures.added c.declare.ensures.apart c.declare.ensures.refused c.self.invariant c.requires.name declared

pub returns-clause-limits : goal.returns-clause-limits
returns-clause-limits c = invariant_of-self c

pub returns-clause-added : goal.returns-clause-added
returns-clause-added c =
    rw (← c.self.view_is)
    (if_index_added c.self.inside.ranges.entries c.self.inside.indexes.entries c.args.name.now c.declare.new.entries.entries c.args.range
    c.declare.result c.declare.ensures.added)

pub returns-clause-named : goal.returns-clause-named
returns-clause-named c =
    rw (← c.self.view_is, index_number_is c.self.inside.ranges.entries c.self.inside.indexes.entries c.args.name.now.bytes) c.declare.ensures.named

pub returns-clause-full : goal.returns-clause-full
returns-clause-full c =
    rw (← c.self.view_is, index_number_is c.self.inside.ranges.entries c.self.inside.indexes.entries c.args.name.now.bytes, length-map) c.declare.ensures.full
