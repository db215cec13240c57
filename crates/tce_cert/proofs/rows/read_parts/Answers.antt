use Rattle.std.proofs.Common.{◌≡◌, ◌+◌, false, true, Some, None, refl, sym, ◌∙◌, subst, arith}
use Rattle.std.proofs.lemmas.List.{length-map}
use Rattle.std.specs.Borrow.{Bor}
use Rattle.tce_fields.specs.Reading.{GivesExactly, texts}
use Rattle.tce_cert.specs.Forms.{AreClasses}
use Rattle.tce_cert.proofs.StatedRows.{AreRead, one_read, all_read, reading_stops, reading_meets, moved_part, text_inside}
use Rattle.tce_cert.proofs.rows.read_parts.Goals as goal

pub returns-in_err-class : goal.returns-in_err-class
returns-in_err-class c =
    subst (λ r. GivesExactly r (AreClasses c.args.space.now c.args.dims (texts c.args.parts.now))) (sym c.from_residual.ensures)
    (reading_stops c.args.space.now c.args.dims (texts c.args.parts.now) c.loop-part.part-index (text_inside c.args.parts.now c.loop-part.part-index c.loop-part-test.true)
    (moved_part c.args.space.now c.args.dims c.args.parts.now c.loop-part.part-index None c.loop-part-test.true c.in_err-class.ensures))

pub returns-then-not-are_apart : goal.returns-then-not-are_apart
returns-then-not-are_apart c =
    reading_meets c.args.space.now c.args.dims (texts c.args.parts.now) c.loop-part.part-index c.in_ok-class.class c.loop-part.nesting c.loop-part.invariant
    (text_inside c.args.parts.now c.loop-part.part-index c.loop-part-test.true)
    (moved_part c.args.space.now c.args.dims c.args.parts.now c.loop-part.part-index (Some c.in_ok-class.class) c.loop-part-test.true c.in_ok-class.ensures)
    (λ apart. let all = c.are_apart.ensures.1 (λ j h. c.members.ensures j ∙ apart j h) in let e : false ≡ true = sym c.if-not-are_apart.true ∙ all in cc)

pub with_class-nesting-requires-clause-inhabited : goal.with_class-nesting-requires-clause-inhabited
with_class-nesting-requires-clause-inhabited c = ((c.in_ok-class.ensures c.in_ok-class.class).0 refl).part.inhabited

pub loop-part-preserved : goal.loop-part-preserved
loop-part-preserved c =
    subst (AreRead c.args.space.now c.args.dims (texts c.args.parts.now) (c.loop-part.part-index + 1)) (sym c.with_class-nesting.ensures)
    (one_read c.args.space.now c.args.dims (texts c.args.parts.now) c.loop-part.part-index c.in_ok-class.class c.loop-part.nesting c.loop-part.invariant
    (text_inside c.args.parts.now c.loop-part.part-index c.loop-part-test.true)
    (moved_part c.args.space.now c.args.dims c.args.parts.now c.loop-part.part-index (Some c.in_ok-class.class) c.loop-part-test.true c.in_ok-class.ensures))

pub returns : goal.returns
returns c =
    all_read c.args.space.now c.args.dims (texts c.args.parts.now) c.loop-part.part-index c.loop-part.nesting c.loop-part.invariant
    (omega (arith, c.loop-part.auto.part-index-end, c.loop-part-test.false, length-map c.args.parts.now (λ (b : Bor _). b.now))) c.classes-nesting.ensures.nesting
