use Rattle.std.proofs.Common.{◌<◌, length, refl, sym, subst, ◌∙◌, arith}
use Rattle.std.proofs.lemmas.List.{length-map}
use Rattle.tce_space.specs.Space.{Index, IndexSpace, no_index}
use Rattle.tce_space.specs.SpaceEntries.{index_of}
use Rattle.tce_space.proofs.Declarations.{name_shown_at}
use Rattle.tce_space.proofs.space.Space.index_name.Goals as goal

pub returns-clause-name : goal.returns-clause-name
returns-clause-name c =
    let declared = subst (λ (s : IndexSpace). c.args.index < length s.indexes) (sym c.self.view_is) c.requires in
    rw (← c.self.view_is)
    (c.name_at.ensures ∙ name_shown_at index_of (λ (x : Index). x.name) (λ e. refl) c.self.inside.indexes.entries c.args.index _ no_index
    (omega (arith, declared, length-map c.self.inside.indexes.entries index_of)))
