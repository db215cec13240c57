-- What the values of the code stand for.
use Rattle.std.specs.Prelude.{Option}
use Rattle.std.specs.declared.option.Option.TheVariants.{Some, None}
use Rattle.tce_fields.specs.Reading.{texts}
use Rattle.tce_report.specs.NodeForm.{Form, ArrayForm}
use Rattle.tce_report.specs.declared.node_form.WrittenLine.{WrittenLine}
use Rattle.tce_report.specs.declared.node_form.WrittenArray.{WrittenArray}

abbrev pub array_form : Option WrittenArray → Option ArrayForm
array_form None = None
array_form (Some array) = Some (record { fused = texts array.fused.items; size = array.size })

abbrev pub form : WrittenLine → Form
form line = record { node = line.node; kind = line.kind; order = texts line.order.items; array = array_form line.array }
