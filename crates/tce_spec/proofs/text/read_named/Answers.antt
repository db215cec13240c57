use Rattle.std.proofs.Common.{◌≡◌, ℕ, List, Result, Ok, Err}
use Rattle.std.specs.Prelude.{IfOk}
use Rattle.tce_grammar.specs.Code as code
use Rattle.tce_grammar.specs.Grammar.{IsLine}
use Rattle.tce_grammar.specs.Reading.{line_of}
use Rattle.tce_grammar.specs.declared.line.Line.{Line}
use Rattle.tce_grammar.proofs.OneReading.{line_only}
use Rattle.tce_spec.proofs.text.read_named.Goals as goal

read_is : {E : Type 0} (text : List ℕ) (result : Result Line E) → IfOk result (λ read. IsLine text (code.line read)) → IfOk result (λ read. code.line read ≡ line_of text)
read_is text (Ok read) is = line_only text (code.line read) is
read_is text (Err e) is = tt

pub returns-clause-line : goal.returns-clause-line
returns-clause-line c = read_is c.args.text.now c.read_line.result c.read_line.ensures.is_line
