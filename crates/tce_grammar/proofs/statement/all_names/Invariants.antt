use Rattle.std.proofs.Common.{◌≡◌, ◌++◌, length, map}
use Rattle.std.specs.Prelude.{option_map}
use Rattle.tce_grammar.specs.Code.{token, names}
use Rattle.tce_grammar.specs.Reading.{all_names}
use Rattle.tce_grammar.proofs.statement.all_names.Given as goal

abbrev pub invariant-loop-rest : goal.invariant-loop-rest
invariant-loop-rest l = all_names (map token l.tokens) ≡ option_map (λ behind. names l.found.items ++ behind) (all_names (map token l.rest))

abbrev pub decreases-loop-rest : goal.decreases-loop-rest
decreases-loop-rest l = length l.rest
