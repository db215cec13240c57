use Rattle.std.proofs.Common.{◌≡◌, ◌==◌, get_or, length, sym, ◌∙◌, arith}
use Rattle.std.specs.List.{position_or_len}
use Rattle.std.proofs.lemmas.List.{get_or_past, length-map}
use Rattle.tce_einsum.specs.Code as code
use Rattle.tce_einsum.specs.Text as text
use Rattle.tce_einsum.specs.Produced.{tiled, is_same, ranges, range_numbers}
use Rattle.tce_einsum.specs.Numbered.{number_of}
use Rattle.tce_einsum.specs.declared.size.Size.{Size}
use Rattle.tce_einsum.proofs.Places.{mapped_place, place_some, place_none}
use Rattle.tce_einsum.proofs.ranges.range_of.Goals as goal

pub returns-in-Some : goal.returns-in-Some
returns-in-Some c =
    let place : c.in-Some.place ≡ number_of (code.sizes c.args.sizes.now) c.args.label =
    place_some (λ (s : Size). s.label == c.args.label) c.args.sizes.now c.in-Some.place (sym c.in-Some.is ∙ c.place_of.ensures) ∙ sym (mapped_place c.args.sizes.now c.args.label) in
    λ i. get_or (c.requires i) (place i) 0

pub returns-in-None : goal.returns-in-None
returns-in-None c =
    let place : length c.args.sizes.now ≡ number_of (code.sizes c.args.sizes.now) c.args.label =
    place_none (λ (s : Size). s.label == c.args.label) c.args.sizes.now (sym c.in-None.is ∙ c.place_of.ensures) ∙ sym (mapped_place c.args.sizes.now c.args.label) in
    let long = length-map (code.sizes c.args.sizes.now) (λ (s : text.Size). position_or_len (is_same (tiled s)) (ranges (code.sizes c.args.sizes.now))) in
    let sizes = length-map c.args.sizes.now code.size in
    sym (get_or_past (range_numbers (code.sizes c.args.sizes.now)) (number_of (code.sizes c.args.sizes.now) c.args.label) 0 (omega (arith, place, long, sizes)))
