-- What the reader of a node line answers.
use Rattle.std.specs.Prelude.{ℕ, ◌+◌, ◌==◌, if◌then◌else◌, Option, Result, option_map, ◌≡◌, Err, List, IsPermutation}
use Rattle.std.specs.Result.{result_ok}
use Rattle.std.specs.declared.option.Option.TheVariants.{Some, None}
use Rattle.tce_space.specs.IndexSet.{members, IsWithin}
use Rattle.tce_space.specs.Space.{IndexSpace}
use Rattle.tce_tree.specs.ContractionTree.{ContractionTree, operations, node}
use Rattle.tce_tree.specs.FlatTree.{kind_of}
use Rattle.tce_report.specs.Names.{names_of}
use Rattle.tce_report.specs.NodeForm.{Form, HasForm}
use Rattle.tce_report.specs.NodeLine.{Said, MaySay, Says}
use Rattle.tce_report.specs.declared.node_reader.NodeLine.{NodeLine}
use Rattle.tce_report.specs.declared.node_reader.LineFault.{LineFault}
use Rattle.tce_report.specs.FormCode.{form}
use Rattle.tce_report.specs.declared.node_form.WrittenLine.{WrittenLine}
use Rattle.tce_report.specs.declared.node_reader.LineFault.TheVariants.{WrongTree}
use Rattle.tce_fields.specs.Names.{AreNamed, IsSetNamed}

abbrev pub said : NodeLine → Said
said line = record { order = line.order.0.items; fused = line.fused; size = line.size }

-- what is read, where there is no fault
abbrev pub said_if_read : Result NodeLine LineFault → Option Said
said_if_read answer = option_map said (result_ok answer)

-- the form of the line of node `v` that says this
abbrev pub form_saying : IndexSpace → ContractionTree → ℕ → Said → Form
form_saying space tree v s = record {
  node = v;
  kind = kind_of (node tree v);
  order = names_of space s.order;
  array = if v + 1 == operations tree then None else Some (record { fused = names_of space (members s.fused); size = s.size });
}

-- the names are those of an order of the loops, and of a set of the dims
abbrev pub IsOrderNamed : IndexSpace → ℕ → List (List ℕ) → List ℕ → Type 0
IsOrderNamed space loops names order = IsPermutation (members loops) order × AreNamed space names order

abbrev pub IsFusedNamed : IndexSpace → ℕ → List (List ℕ) → ℕ → Type 0
IsFusedNamed space dims names fused = IsWithin fused dims × IsSetNamed space names fused

-- the written line is one of node `v`, and says this
abbrev pub WrittenSays : IndexSpace → ContractionTree → ℕ → WrittenLine → Said → Type 0
WrittenSays space tree v line s = MaySay tree v s × (form line ≡ form_saying space tree v s)

-- the line has a form, and says nothing of node `v`
abbrev pub DoesNotFit : IndexSpace → ContractionTree → ℕ → List ℕ → Type 0
DoesNotFit space tree v line = HasForm line × ((s : Said) → ¬ Says space tree v line s)

-- the answer is that the line does not fit
abbrev pub IsWrongTree : Result NodeLine LineFault → Type 0
IsWrongTree answer = answer ≡ Err WrongTree
