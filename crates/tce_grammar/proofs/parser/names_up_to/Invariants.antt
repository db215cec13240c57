use Rattle.std.proofs.Common.{◌≡◌, ◌≤◌, length, map}
use Rattle.tce_grammar.specs.Code.{token, names}
use Rattle.tce_grammar.specs.Reading.{names_at}
use Rattle.tce_grammar.proofs.Lists.{in_front_of}
use Rattle.tce_grammar.proofs.parser.names_up_to.Given as goal

abbrev pub invariant-loop-name : goal.invariant-loop-name
invariant-loop-name l = record {
  same : names_at l.close (map token l.tokens) ≡ in_front_of (names l.found.items) (names_at l.close (map token l.rest));
  shorter : length l.rest ≤ length l.tokens;
}

abbrev pub decreases-loop-name : goal.decreases-loop-name
decreases-loop-name l = length l.rest
