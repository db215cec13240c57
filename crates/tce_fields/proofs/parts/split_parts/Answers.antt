use Rattle.std.proofs.Common.{◌∙◌, sym, ap, ℕ, ◌++◌, ◌∷◌, List, [], arith, eqb-true}
use Rattle.std.proofs.lemmas.List.{length-map, map-append}
use Rattle.std.specs.Borrow.{Bor}
use Rattle.tce_fields.specs.Reading.{texts}
use Rattle.tce_fields.proofs.Splitting.{parts_given, parts_refused, too_many, room_left}
use Rattle.tce_fields.proofs.parts.split_parts.Goals as goal

pub returns-then-is_full : goal.returns-then-is_full
returns-then-is_full g c =
    parts_refused c.args.separator g.row.N c.args.text.now
    (too_many c.args.separator g.row.N c.args.text.now c.loop-part.rest.now (texts c.loop-part.parts.items) c.loop-part.invariant
    (length-map c.loop-part.parts.items (λ (b : Bor (List ℕ)). b.now) ∙ eqb-true _ _ (sym c.if-is_full.ensures.value)))

pub returns-then-is_full-2 : goal.returns-then-is_full-2
returns-then-is_full-2 g c =
    parts_refused c.args.separator g.row.N c.args.text.now
    (too_many c.args.separator g.row.N c.args.text.now c.loop-part.rest.now (texts c.loop-part.parts.items) c.loop-part.invariant
    (length-map c.loop-part.parts.items (λ (b : Bor (List ℕ)). b.now) ∙ eqb-true _ _ (sym c.if-is_full-2.ensures.value)))

pub returns : goal.returns
returns g c =
    parts_given c.args.separator g.row.N c.args.text.now (texts c.push-2.new.self.items)
    (ap texts c.push-2.ensures.items ∙ map-append _ c.loop-part.parts.items (c.loop-part.rest ∷ [])
    ∙ ap (λ behind. texts c.loop-part.parts.items ++ behind) (sym c.in_default.ensures.parts) ∙ sym c.loop-part.invariant)
    (omega (arith, length-map c.push-2.new.self.items (λ (b : Bor (List ℕ)). b.now), c.push-2.ensures.len, room_left _ _ c.if-is_full-2.ensures.value c.is_full-2.ensures.fits))
