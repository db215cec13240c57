use Rattle.std.proofs.Common.{refl, subst, arith}
use Rattle.tce_space.specs.declared.space.RangeSize.{RangeSize}
use Rattle.tce_space.specs.Space.{Range, IsSpace, IsRange, range_at, no_range}
use Rattle.tce_space.specs.SpaceEntries.{range_of}
use Rattle.tce_space.proofs.Declarations.{shown_at}
use Rattle.tce_space.proofs.Spaces.{range_limits}
use Rattle.tce_space.proofs.space.Space.range_edge.Goals as goal

pub returns-clause-edge : goal.returns-clause-edge
returns-clause-edge c =
    rw (← c.self.view_is)
    (shown_at range_of (λ (r : Range). r.edge) (λ (s : RangeSize). s.edge) (λ e. refl) c.self.inside.ranges.entries c.args.range _ no_range c.index.ensures)

limits : (c : goal.After-index) → IsRange (range_at c.args.self.now c.args.range)
limits c = range_limits c.args.self.now c.args.range (subst IsSpace c.self.view_is c.self.invariant) c.requires

pub returns-clause-positive : goal.returns-clause-positive
returns-clause-positive c = omega (arith, returns-clause-edge c, (limits c).edge_some)

pub returns-clause-within : goal.returns-clause-within
returns-clause-within c = omega (arith, returns-clause-edge c, (limits c).edge_limit)
