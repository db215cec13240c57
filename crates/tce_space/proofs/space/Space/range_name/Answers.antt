use Rattle.std.proofs.Common.{◌<◌, length, refl, sym, subst, ◌∙◌, arith}
use Rattle.std.proofs.lemmas.List.{length-map}
use Rattle.tce_space.specs.Space.{Range, IndexSpace, no_range}
use Rattle.tce_space.specs.SpaceEntries.{range_of}
use Rattle.tce_space.proofs.Declarations.{name_shown_at}
use Rattle.tce_space.proofs.space.Space.range_name.Goals as goal

pub returns-clause-name : goal.returns-clause-name
returns-clause-name c =
    let declared = subst (λ (s : IndexSpace). c.args.range < length s.ranges) (sym c.self.view_is) c.requires in
    rw (← c.self.view_is)
    (c.name_at.ensures ∙ name_shown_at range_of (λ (x : Range). x.name) (λ e. refl) c.self.inside.ranges.entries c.args.range _ no_range
    (omega (arith, declared, length-map c.self.inside.ranges.entries range_of)))
