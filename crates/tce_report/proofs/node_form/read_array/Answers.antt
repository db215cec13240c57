use Rattle.std.proofs.Common.{sym}
use Rattle.tce_space.proofs.Names.{same_bytes}
use Rattle.tce_fields.specs.Reading.{texts}
use Rattle.tce_report.proofs.NodeLineForms.{result_read, array_read, no_size}
use Rattle.tce_report.proofs.node_form.read_array.Goals as goal

pub returns-in-len1 : goal.returns-in-len1
returns-in-len1 c = result_read c.args.fields.now c.in-len1.len_at_least c.in-len1.len_below (same_bytes _ _ (sym c.if-is_word.ensures))

pub returns-in-Some-read_number : goal.returns-in-Some-read_number
returns-in-Some-read_number c =
    array_read c.args.fields.now (texts c.in-Some.fused.items) c.in-Some-read_number.size c.in-len4.len_at_least c.in-len4.len_below (same_bytes _ _ (sym c.if-is_word-2.ensures))
    (same_bytes _ _ (sym c.if-is_word-3.ensures)) c.in-Some.ensures c.in-Some-read_number.ensures

pub returns-in_default-read_number : goal.returns-in_default-read_number
returns-in_default-read_number c = no_size c.args.fields.now c.in-len4.len_at_least c.in-len4.len_below c.in_default-read_number.ensures
