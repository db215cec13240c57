-- What the functions of the parser answer, with the tokens behind it.
use Rattle.std.specs.Prelude.{ℕ, List, map, Option, Result, Vec, option_map}
use Rattle.std.specs.Borrow.{Bor}
use Rattle.std.specs.declared.alloc.Global.{Global}
use Rattle.tce_grammar.specs.Tokens as tokens
use Rattle.tce_grammar.specs.Formula as formulas
use Rattle.tce_grammar.specs.Formula.{Arithmetic}
use Rattle.tce_grammar.specs.Code.{Gives, token, names, formula}
use Rattle.tce_grammar.specs.Reading.{Reads}
use Rattle.tce_grammar.specs.declared.token.Token.{Token}
use Rattle.tce_grammar.specs.declared.read_error.ReadError.{ReadError}
use Rattle.tce_grammar.specs.declared.formula.Formula.{Formula}

-- the tokens, where there are some
abbrev pub tokens_if_some : Option (Bor (List Token)) → Option (List tokens.Token)
tokens_if_some answer = option_map (λ (rest : Bor (List Token)). map token rest.now) answer

-- the name and the tokens behind it, where there is one
abbrev pub name_if_some : Option (Bor (List ℕ) × Bor (List Token)) → Reads (List ℕ)
name_if_some answer = option_map (λ (r : Bor (List ℕ) × Bor (List Token)). (r.0.now, map token r.1.now)) answer

-- the operator and the tokens behind it, where there is one
abbrev pub operator_if_some : Option (Arithmetic × Bor (List Token)) → Option (Arithmetic × List tokens.Token)
operator_if_some answer = option_map (λ (r : Arithmetic × Bor (List Token)). (r.0, map token r.1.now)) answer

-- the formula that is read, unless memory ran out
abbrev pub GivesFormula : Result (Formula × Bor (List Token)) ReadError → Reads formulas.Formula → Type 0
GivesFormula result read = Gives (λ (r : Formula × Bor (List Token)). (formula r.0, map token r.1.now)) result read

-- the names that are read, unless memory ran out
abbrev pub GivesNames : Result (Vec (Bor (List ℕ)) Global × Bor (List Token)) ReadError → Reads (List (List ℕ)) → Type 0
GivesNames result read = Gives (λ (r : Vec (Bor (List ℕ)) Global × Bor (List Token)). (names r.0.items, map token r.1.now)) result read
