use Rattle.std.proofs.Common.{◌≡◌, map, take}
use Rattle.tce_spec.specs.Statements.{tensor_statement}
use Rattle.tce_spec.specs.Lines.{with_lines}
use Rattle.tce_spec.proofs.tensor_lines.print_tensors.Given as goal

abbrev pub invariant-loop-tensor : goal.invariant-loop-tensor
invariant-loop-tensor l = l.printer ≡ with_lines l.fn.printer (map (tensor_statement l.declarations.space) (take l.tensor l.declarations.tensors))
