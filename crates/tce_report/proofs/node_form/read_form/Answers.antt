use Rattle.std.proofs.Common.{subst, ◌≡◌, ◌↔◌, option_map, Some}
use Rattle.tce_report.specs.FormCode.{form}
use Rattle.tce_report.proofs.NodeLineForms.{form_read, too_many_fields, IsLine}
use Rattle.tce_report.proofs.node_form.read_form.Goals as goal

pub returns-in_default : goal.returns-in_default
returns-in_default c = too_many_fields c.args.line.now c.in_default.ensures

pub returns : goal.returns
returns c =
    form_read c.args.line.now c.in-Some.fields.items (option_map form c.read_fields.result) c.in-Some.ensures
    (λ value. subst (λ fs. (option_map form c.read_fields.result ≡ Some value) ↔ IsLine fs value) c.as_slice.ensures.value (c.read_fields.ensures value))
