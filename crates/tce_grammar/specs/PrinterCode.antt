-- What stands at the end of a printer's text.
use Rattle.tce_grammar.specs.Printed as printed
use Rattle.tce_grammar.specs.declared.printer.Front.{Front}
use Rattle.tce_grammar.specs.declared.printer.Front.TheVariants.{Nothing, Letters, Sign, Bracket}
use Rattle.std.specs.Prelude.{ℕ, List}
use Rattle.tce_grammar.specs.Printed.{token_text}
use Rattle.tce_grammar.specs.Code.{token}
use Rattle.tce_grammar.specs.declared.token.Token.{Token}

abbrev pub front : Front → printed.Front
front Nothing = printed.nothing
front Letters = printed.letters
front Sign = printed.sign
front Bracket = printed.bracket

-- the text of a token of the program
abbrev pub text_of : Token → List ℕ
text_of t = token_text (token t)
