use Rattle.std.proofs.Common.{◌≡◌, ◌≤◌, ◌+◌, ◌*◌, ◌++◌, ◌∷◌, length, get_or, take}
use Rattle.tce_cert.specs.Lines.{classes_text}
use Rattle.tce_command.proofs.trouble_line.push_classes.Given as goal

abbrev pub invariant-loop-class : goal.invariant-loop-class
invariant-loop-class l = record {
  text : l.line.bytes ≡ l.fn.line.bytes ++ classes_text l.space (get_or l.classes 0 0 ∷ take l.class-index l.rest);
  length : length l.line.bytes ≤ length l.fn.line.bytes + 410 * l.class-index + 409;
}
