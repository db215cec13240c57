use Rattle.std.proofs.Common.{◌≡◌, ◌++◌, take, drop}
use Rattle.tce_grammar.specs.Code.{names}
use Rattle.tce_spec.specs.DeclarationLines.{twice_after, index_names}
use Rattle.tce_spec.proofs.indexes.declared_twice.Given as goal

abbrev pub invariant-loop-place : goal.invariant-loop-place
invariant-loop-place l =
    twice_after (index_names l.space ++ names (take l.place l.names)) (names (drop l.place l.names)) ≡ twice_after (index_names l.space) (names l.names)
