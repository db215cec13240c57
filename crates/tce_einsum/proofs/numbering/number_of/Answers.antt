use Rattle.std.proofs.Common.{◌==◌, sym, ◌∙◌}
use Rattle.tce_einsum.specs.declared.size.Size.{Size}
use Rattle.tce_einsum.proofs.Places.{mapped_place, place_some, place_none}
use Rattle.tce_einsum.proofs.numbering.number_of.Goals as goal

pub returns-in-Some-clause-number : goal.returns-in-Some-clause-number
returns-in-Some-clause-number c =
    place_some (λ (s : Size). s.label == c.args.label) c.args.sizes.now c.in-Some.place (sym c.in-Some.is ∙ c.place_of.ensures) ∙ sym (mapped_place c.args.sizes.now c.args.label)

pub returns-in-None-clause-number : goal.returns-in-None-clause-number
returns-in-None-clause-number c =
    place_none (λ (s : Size). s.label == c.args.label) c.args.sizes.now (sym c.in-None.is ∙ c.place_of.ensures) ∙ sym (mapped_place c.args.sizes.now c.args.label)
