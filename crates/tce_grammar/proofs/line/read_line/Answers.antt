use Rattle.std.proofs.Common.{◌≡◌, sym, ◌∙◌, subst}
use Rattle.std.proofs.lemmas.Result.{IfOk-weaker}
use Rattle.tce_grammar.specs.Code.{line}
use Rattle.tce_grammar.specs.Grammar as grammar
use Rattle.tce_grammar.specs.Reading.{line_of}
use Rattle.tce_grammar.proofs.OneReading.{line_is, line_only}
use Rattle.tce_grammar.proofs.line.read_line.Goals as goal

pub returns-clause-is_line : goal.returns-clause-is_line
returns-clause-is_line c =
    IfOk-weaker c.read_tokens.result (λ read. line read ≡ line_of c.args.text.now) (λ read. grammar.IsLine c.args.text.now (line read))
    (λ read same. subst (λ (l : grammar.Line). grammar.IsLine c.args.text.now l) (sym same) (line_is c.args.text.now)) c.read_tokens.ensures

pub returns-clause-nothing_else : goal.returns-clause-nothing_else
returns-clause-nothing_else c =
    IfOk-weaker c.read_tokens.result (λ read. line read ≡ line_of c.args.text.now)
    (λ read. (other : grammar.Line) → grammar.IsLine c.args.text.now other → other ≡ line read)
    (λ read same other is. line_only c.args.text.now other is ∙ sym same) c.read_tokens.ensures
