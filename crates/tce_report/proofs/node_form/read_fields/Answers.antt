use Rattle.std.proofs.Common.{sym, ◌∙◌, arith, length-drop}
use Rattle.std.proofs.lemmas.List.{take_all}
use Rattle.tce_space.proofs.Names.{same_bytes}
use Rattle.tce_fields.specs.Reading.{texts}
use Rattle.tce_fields.proofs.Listing.{other_bytes}
use Rattle.tce_report.specs.FormCode.{array_form}
use Rattle.tce_report.proofs.NodeLineForms.{line_read, too_few, no_node_word, no_loops_word, no_number, no_kind, no_order, no_array}
use Rattle.tce_report.proofs.node_form.read_fields.Goals as goal
use Rattle.tce_report.proofs.node_form.read_fields.Goals.{then-not-is_word-via-then-not-is_word, then-not-is_word-via-else-not-is_word+then-not-is_word-2}

pub returns-in_default : goal.returns-in_default
returns-in_default c = too_few c.args.fields.now c.in_default.len_below

pub returns-then-not-is_word : goal.returns-then-not-is_word
returns-then-not-is_word c = elim c.then-not-is_word.branch [
  | then-not-is_word-via-then-not-is_word w ↦ no_node_word c.args.fields.now c.in-len5-up.len_at_least (other_bytes _ _ (sym c.is_word.ensures ∙ w.if-not-is_word.true))
  | then-not-is_word-via-else-not-is_word+then-not-is_word-2 w ↦
      no_loops_word c.args.fields.now c.in-len5-up.len_at_least (other_bytes _ _ (sym w.is_word-else-not-is_word.ensures ∙ w.if-not-is_word-2.true))
]

pub returns-in_default-read_number : goal.returns-in_default-read_number
returns-in_default-read_number c = no_number c.args.fields.now c.in-len5-up.len_at_least c.in_default-read_number.ensures

pub returns-in_default-read_kind : goal.returns-in_default-read_kind
returns-in_default-read_kind c = no_kind c.args.fields.now c.in-len5-up.len_at_least c.in_default-read_kind.ensures

pub returns-in_default-read_names : goal.returns-in_default-read_names
returns-in_default-read_names c = no_order c.args.fields.now c.in-len5-up.len_at_least c.in_default-read_names.ensures

pub returns-in_default-read_array : goal.returns-in_default-read_array
returns-in_default-read_array c =
    no_array c.args.fields.now _ c.in-len5-up.len_at_least (take_all _ _ (omega (arith, length-drop 5 c.args.fields.now))) c.in_default-read_array.ensures

pub returns : goal.returns
returns c =
    line_read c.args.fields.now _ c.in-Some.node c.in-Some-read_kind.kind (texts c.in-Some-read_names.order.items) (array_form c.in-Some-read_array.array) c.in-len5-up.len_at_least
    (take_all _ _ (omega (arith, length-drop 5 c.args.fields.now))) (same_bytes _ _ (sym c.is_word.ensures ∙ c.if-not-is_word.false))
    (same_bytes _ _ (sym c.is_word-else-not-is_word.ensures ∙ c.if-not-is_word-2.false)) c.in-Some.ensures c.in-Some-read_kind.ensures c.in-Some-read_names.ensures c.in-Some-read_array.ensures
