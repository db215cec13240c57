use Rattle.tce_grammar.specs.Printed.{nothing}
use Rattle.tce_grammar.proofs.Printed.{printed_read}
use Rattle.tce_grammar.proofs.laws.printed_tokens_are_read_back.Goals as goal

pub returns : goal.returns
returns c = λ ts are. printed_read nothing ts are
