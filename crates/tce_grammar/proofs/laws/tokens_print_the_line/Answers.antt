use Rattle.tce_grammar.specs.Printed.{line_start}
use Rattle.tce_grammar.proofs.Printed.{printed_by_tokens}
use Rattle.tce_grammar.proofs.laws.tokens_print_the_line.Goals as goal

pub returns : goal.returns
returns c = λ text ts. printed_by_tokens (line_start text) ts
