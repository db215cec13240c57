use Rattle.std.proofs.Common.{◌≡◌, length, take}
use Rattle.tce_grammar.specs.Code.{names}
use Rattle.tce_spec.specs.DeclarationLines.{numbers_of_ranges}
use Rattle.tce_spec.proofs.tensors.range_numbers.Given as goal

abbrev pub invariant-loop-name : goal.invariant-loop-name
invariant-loop-name l = record {
  len : length l.numbers.items ≡ l.name-index;
  taken : l.numbers.items ≡ numbers_of_ranges l.space (names (take l.name-index l.names));
}
