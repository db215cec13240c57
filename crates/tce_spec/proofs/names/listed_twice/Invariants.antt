use Rattle.std.proofs.Common.{◌≡◌, [], take, drop}
use Rattle.tce_grammar.specs.Code.{names}
use Rattle.tce_spec.specs.DeclarationLines.{twice_after}
use Rattle.tce_spec.proofs.names.listed_twice.Given as goal

abbrev pub invariant-loop-place : goal.invariant-loop-place
invariant-loop-place l = twice_after [] (names l.indexes) ≡ twice_after (names (take l.place l.indexes)) (names (drop l.place l.indexes))
