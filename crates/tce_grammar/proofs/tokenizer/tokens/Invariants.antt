use Rattle.std.proofs.Common.{◌≡◌, ◌++◌, length, map}
use Rattle.std.specs.Prelude.{option_map}
use Rattle.tce_grammar.specs.Code.{token}
use Rattle.tce_grammar.specs.Tokens.{tokens}
use Rattle.tce_grammar.proofs.tokenizer.tokens.Given as goal

abbrev pub invariant-loop-rest : goal.invariant-loop-rest
invariant-loop-rest l = tokens l.line ≡ option_map (λ behind. map token l.found.items ++ behind) (tokens l.rest)

abbrev pub decreases-loop-rest : goal.decreases-loop-rest
decreases-loop-rest l = length l.rest
