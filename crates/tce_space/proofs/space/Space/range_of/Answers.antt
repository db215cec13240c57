use Rattle.std.proofs.Common.{◌<◌, ℕ, length, refl, sym, subst}
use Rattle.tce_space.specs.Space.{Index, IndexSpace, no_index}
use Rattle.tce_space.specs.SpaceEntries.{index_of, space_of}
use Rattle.tce_space.proofs.Declarations.{shown_at}
use Rattle.tce_space.proofs.space.Space.range_of.Goals as goal

pub returns-clause-range : goal.returns-clause-range
returns-clause-range c =
    rw (← c.self.view_is)
    (shown_at index_of (λ (i : Index). i.of_range) (λ (r : ℕ). r) (λ e. refl) c.self.inside.indexes.entries c.args.index _ no_index c.index.ensures)

pub returns-clause-declared : goal.returns-clause-declared
returns-clause-declared c =
    let declared = subst (λ (s : IndexSpace). c.args.index < length s.indexes) (sym c.self.view_is) c.requires in
    rw (← c.self.view_is)
    (subst (λ (r : ℕ). r < length (space_of c.self.inside.ranges.entries c.self.inside.indexes.entries).ranges) (sym (shown_at index_of (λ (i : Index). i.of_range) (λ (r : ℕ). r) (λ e. refl) c.self.inside.indexes.entries c.args.index _ no_index c.index.ensures))
    (c.self.invariant.indexes c.args.index no_index declared).1)
