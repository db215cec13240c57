use Rattle.std.proofs.Common.{◌≡◌, ◌++◌, ◌∷◌, get_or, take}
use Rattle.tce_cert.specs.Lines.{classes_text}
use Rattle.tce_cert.proofs.write.push_classes.Given as goal

abbrev pub invariant-loop-class : goal.invariant-loop-class
invariant-loop-class l = l.text.items ≡ l.fn.text.items ++ classes_text l.space (get_or l.classes 0 0 ∷ take l.class-index l.rest)
