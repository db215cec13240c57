use Rattle.std.proofs.Common.{◌≡◌, false, true, Some, List, ℕ, sym, ◌∙◌, subst}
use Rattle.tce_fields.specs.Reading.{GivesExactly, texts}
use Rattle.tce_cert.specs.Forms.{AreClasses, StatesClasses}
use Rattle.tce_cert.proofs.StatedRows.{none_stated, classes_unsplit, classes_split}
use Rattle.tce_cert.proofs.rows.read_classes.Goals as goal

pub returns-then-is_none : goal.returns-then-is_none
returns-then-is_none c =
    subst (λ (n : List ℕ). GivesExactly (Some n) (StatesClasses c.args.space.now c.args.dims c.args.text.now)) (sym c.none.ensures)
    (none_stated c.args.space.now c.args.dims c.args.text.now c.index_count-declared.ensures.limits c.requires (c.is_none.ensures.0 c.if-is_none.true))

pub returns-in_err-parts : goal.returns-in_err-parts
returns-in_err-parts c =
    subst (λ r. GivesExactly r (StatesClasses c.args.space.now c.args.dims c.args.text.now)) (sym c.from_residual.ensures)
    (classes_unsplit c.args.space.now c.args.dims c.args.text.now c.index_count-declared.ensures.limits c.requires
    (λ none. let e : false ≡ true = sym c.if-is_none.false ∙ c.is_none.ensures.1 none in cc) c.in_err-parts.ensures)

pub returns : goal.returns
returns c =
    classes_split c.args.space.now c.args.dims c.args.text.now (texts c.in_ok-parts.parts.items) c.read_parts.result c.index_count-declared.ensures.limits c.requires
    (λ none. let e : false ≡ true = sym c.if-is_none.false ∙ c.is_none.ensures.1 none in cc) c.in_ok-parts.ensures
    (subst (λ ps. GivesExactly c.read_parts.result (AreClasses c.args.space.now c.args.dims (texts ps))) c.as_slice.ensures.value c.read_parts.ensures)
