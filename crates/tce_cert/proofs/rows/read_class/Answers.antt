use Rattle.std.proofs.Common.{◌≡◌, false, true, Some, None, sym, ◌∙◌, subst}
use Rattle.tce_fields.specs.Reading.{GivesExactly, texts}
use Rattle.tce_cert.specs.Forms.{StatesClass}
use Rattle.tce_cert.proofs.StatedClass.{class_unlisted, class_unnamed, class_elsewhere, class_given, named_moved}
use Rattle.tce_cert.proofs.rows.read_class.Goals as goal

pub returns-in_err-names : goal.returns-in_err-names
returns-in_err-names c =
    subst (λ r. GivesExactly r (StatesClass c.args.space.now c.args.dims c.args.text.now)) (sym c.from_residual.ensures)
    (class_unlisted c.args.space.now c.args.dims c.args.text.now c.index_count-declared.ensures.limits c.requires c.in_err-names.ensures)

pub returns-in_err-class : goal.returns-in_err-class
returns-in_err-class c =
    subst (λ r. GivesExactly r (StatesClass c.args.space.now c.args.dims c.args.text.now)) (sym c.from_residual-in_err-class.ensures)
    (class_unnamed c.args.space.now c.args.dims c.args.text.now (texts c.in_ok-names.names.items) c.index_count-declared.ensures.limits c.requires c.in_ok-names.ensures
    (named_moved c.args.space.now c.as_slice.result.now c.in_ok-names.names.items None c.as_slice.ensures.value c.in_err-class.ensures))

pub returns-then-is_part : goal.returns-then-is_part
returns-then-is_part c =
    class_given c.args.space.now c.args.dims c.args.text.now (texts c.in_ok-names.names.items) c.in_ok-class.class c.index_count-declared.ensures.limits c.requires c.in_ok-names.ensures
    (named_moved c.args.space.now c.as_slice.result.now c.in_ok-names.names.items (Some c.in_ok-class.class) c.as_slice.ensures.value c.in_ok-class.ensures) (c.is_part.ensures.0 c.if-is_part.true)

pub returns-else-is_part : goal.returns-else-is_part
returns-else-is_part c =
    class_elsewhere c.args.space.now c.args.dims c.args.text.now (texts c.in_ok-names.names.items) c.in_ok-class.class c.index_count-declared.ensures.limits c.requires c.in_ok-names.ensures
    (named_moved c.args.space.now c.as_slice.result.now c.in_ok-names.names.items (Some c.in_ok-class.class) c.as_slice.ensures.value c.in_ok-class.ensures)
    (λ part. let e : false ≡ true = sym c.if-is_part.false ∙ c.is_part.ensures.1 part in cc)
