-- The two sides of a formula.
use Rattle.std.proofs.Common.{◌≡◌, ℕ, Bool, true, false, List, [], ◌∷◌, length, map, Option, Some, None, Result, Err, Vec, Bor, Global, refl, ap, ◌∙◌, arith}
use Rattle.std.proofs.lemmas.Bool.{eqb-true}
use Rattle.std.specs.Prelude.{◌==◌, if◌then◌else◌, option_map}
use Rattle.std.specs.Result.{IsErrAnd}
use Rattle.tce_space.specs.Name.{is_name}
use Rattle.tce_grammar.specs.Tokens as tokens
use Rattle.tce_grammar.specs.Formula as formulas
use Rattle.tce_grammar.specs.Grammar as grammar
use Rattle.tce_grammar.specs.Code.{Gives, token, names, formula, statement}
use Rattle.tce_grammar.specs.ParserCode.{GivesFormula, GivesNames}
use Rattle.tce_grammar.specs.Reading.{Reads, ◌>>=◌, whole, behind, brackets_at, formula_within, formula_of, right_side_of}
use Rattle.tce_grammar.specs.declared.token.Token.{Token}
use Rattle.tce_grammar.specs.declared.formula.Formula.{Formula}
use Rattle.tce_grammar.specs.declared.statement.Statement.{Statement}
use Rattle.tce_grammar.specs.declared.read_error.ReadError.{ReadError}
use Rattle.tce_grammar.proofs.Failures.{gives_failed}

pub side_missing : (ts : List tokens.Token) → behind 61 ts ≡ None → right_side_of ts ≡ None
side_missing ts e = ap (λ (m : Option (List tokens.Token)). m >>= λ rest. whole (formula_within 64 rest)) e

pub side_behind : (ts rest : List tokens.Token) → behind 61 ts ≡ Some rest → right_side_of ts ≡ whole (formula_within 64 rest)
side_behind ts rest e = ap (λ (m : Option (List tokens.Token)). m >>= λ rest. whole (formula_within 64 rest)) e

pub side_failed : (r : Result Formula ReadError) (e : ReadError) (read : Reads formulas.Formula) (read' : Option formulas.Formula)
    → IsErrAnd r (λ y. y ≡ e) → GivesFormula (Err e) read → (read ≡ None → read' ≡ None) → Gives formula r read'
side_failed r e read read' is given none = gives_failed (λ (r : Formula × Bor (List Token)). (formula r.0, map token r.1.now)) formula r e read read' is given none

mapped_behind : (f : formulas.Formula → grammar.Statement) (m : Option (List tokens.Token))
    → (m >>= λ rest. option_map f (whole (formula_within 64 rest))) ≡ option_map f (m >>= λ rest. whole (formula_within 64 rest))
mapped_behind f None = refl
mapped_behind f (Some rest) = refl

abbrev pub sides : List ℕ → Reads (List (List ℕ)) → Option grammar.Statement
sides name read = read >>= λ names. behind 61 names.1 >>= λ rest. option_map (grammar.formula name names.0) (whole (formula_within 64 rest))

named_sides : (name : List ℕ) (ts : List tokens.Token) → is_name name ≡ true → formula_of name ts ≡ sides name (brackets_at ts)
named_sides name ts named = ap (λ (b : Bool). if b then sides name (brackets_at ts) else None) named

pub formula_lost : (name : List ℕ) (ts : List tokens.Token) → is_name name ≡ true → brackets_at ts ≡ None → formula_of name ts ≡ None
formula_lost name ts named e = named_sides name ts named ∙ ap (sides name) e

pub formula_sides : (name : List ℕ) (ts rest : List tokens.Token) (indexes : List (List ℕ)) → is_name name ≡ true → brackets_at ts ≡ Some (indexes, rest)
    → formula_of name ts ≡ option_map (grammar.formula name indexes) (right_side_of rest)
formula_sides name ts rest indexes named e = named_sides name ts named ∙ ap (sides name) e ∙ mapped_behind (grammar.formula name indexes) (behind 61 rest)

pub left_failed : (r : Result Statement ReadError) (e : ReadError) (read : Reads (List (List ℕ))) (read' : Option grammar.Statement)
    → IsErrAnd r (λ y. y ≡ e) → GivesNames (Err e) read → (read ≡ None → read' ≡ None) → Gives statement r read'
left_failed r e read read' is given none = gives_failed (λ (r : Vec (Bor (List ℕ)) Global × Bor (List Token)). (names r.0.items, map token r.1.now)) statement r e read read' is given none

pub names_failed : (r : Result Statement ReadError) (e : ReadError) (read : Option (List (List ℕ))) (read' : Option grammar.Statement)
    → IsErrAnd r (λ y. y ≡ e) → Gives (λ (v : Vec (Bor (List ℕ)) Global). names v.items) (Err e) read → (read ≡ None → read' ≡ None) → Gives statement r read'
names_failed r e read read' is given none = gives_failed (λ (v : Vec (Bor (List ℕ)) Global). names v.items) statement r e read read' is given none

pub right_failed : (r : Result Statement ReadError) (e : ReadError) (read : Option formulas.Formula) (read' : Option grammar.Statement)
    → IsErrAnd r (λ y. y ≡ e) → Gives formula (Err e) read → (read ≡ None → read' ≡ None) → Gives statement r read'
right_failed r e read read' is given none = gives_failed formula statement r e read read' is given none

-- what is read is the whole where no token stands behind it
pub whole_ended : {A : Type 0} (m : Reads A) (f : A) (rest : List Token) → m ≡ Some (f, map token rest) → (length rest == 0) ≡ true → whole m ≡ Some f
whole_ended m f [] e is = ap whole e
whole_ended m f (t ∷ ts) e is = absurd (omega (arith, eqb-true (length (t ∷ ts)) 0 is))

pub whole_further : {A : Type 0} (m : Reads A) (f : A) (rest : List Token) → m ≡ Some (f, map token rest) → (length rest == 0) ≡ false → whole m ≡ None
whole_further m f [] e is = cc
whole_further m f (t ∷ ts) e is = ap whole e
