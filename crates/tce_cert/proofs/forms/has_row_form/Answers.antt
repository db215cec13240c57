use Rattle.tce_cert.proofs.Stated.{row_form_told}
use Rattle.tce_cert.proofs.forms.has_row_form.Goals as goal

pub returns-in-Some : goal.returns-in-Some
returns-in-Some c = row_form_told c.args.line.now c.in-Some.field-0-0 c.in-Some.classes.now c.are_classes.result c.in-Some.ensures c.are_classes.ensures
