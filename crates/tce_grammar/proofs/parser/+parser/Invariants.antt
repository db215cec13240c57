use Rattle.std.proofs.Common.{◌+◌, ◌*◌, length, map}
use Rattle.tce_grammar.specs.Code.{token, formula}
use Rattle.tce_grammar.specs.Reading.{times_of, plus_of, chain_at, factor_within}
use Rattle.tce_grammar.proofs.Chains.{IsChained}
use Rattle.tce_grammar.proofs.parser.+parser.Given as goal

abbrev pub decreases-enclosed : goal.decreases-enclosed
decreases-enclosed l = 5 * l.open_left

abbrev pub decreases-expression : goal.decreases-expression
decreases-expression l = 5 * l.open_left + 4

abbrev pub decreases-factor : goal.decreases-factor
decreases-factor l = 5 * l.open_left + 2

abbrev pub decreases-product : goal.decreases-product
decreases-product l = 5 * l.open_left + 3

abbrev pub decreases-sum : goal.decreases-sum
decreases-sum l = 5 * l.open_left + 1

abbrev pub invariant-expression-loop-operator : goal.invariant-expression-loop-operator
invariant-expression-loop-operator l =
    IsChained plus_of (chain_at times_of (factor_within l.open_left)) (map token l.tokens) (formula l.left) (map token l.rest)

abbrev pub decreases-expression-loop-operator : goal.decreases-expression-loop-operator
decreases-expression-loop-operator l = length l.rest

abbrev pub invariant-product-loop-operator : goal.invariant-product-loop-operator
invariant-product-loop-operator l =
    IsChained times_of (factor_within l.open_left) (map token l.tokens) (formula l.left) (map token l.rest)

abbrev pub decreases-product-loop-operator : goal.decreases-product-loop-operator
decreases-product-loop-operator l = length l.rest
