use Rattle.std.proofs.Common.{◌≡◌, drop}
use Rattle.std.specs.Prelude.{find, is_none}
use Rattle.tce_space.specs.Space.{range_number}
use Rattle.tce_grammar.specs.Code.{names}
use Rattle.tce_spec.proofs.tensors.unknown_range.Given as goal

abbrev pub invariant-loop-name : goal.invariant-loop-name
invariant-loop-name l =
    find (λ name. is_none (range_number l.space name)) (names (drop l.name-index l.names)) ≡ find (λ name. is_none (range_number l.space name)) (names l.names)
