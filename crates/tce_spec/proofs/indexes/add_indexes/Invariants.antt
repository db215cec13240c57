use Rattle.std.proofs.Common.{◌≡◌, take}
use Rattle.tce_space.specs.Space.{IsSpace}
use Rattle.tce_grammar.specs.Code.{names}
use Rattle.tce_spec.specs.DeclarationLines.{with_numbered_indexes}
use Rattle.tce_spec.proofs.indexes.add_indexes.Given as goal

abbrev pub invariant-loop-name : goal.invariant-loop-name
invariant-loop-name l = record {
  declared : l.space ≡ with_numbered_indexes l.initial.space l.range (names (take l.name-index l.names));
  limits : IsSpace l.space;
}
