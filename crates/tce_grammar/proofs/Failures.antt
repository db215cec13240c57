-- What a function of the parser gives where a call in it failed.
use Rattle.std.proofs.Common.{◌≡◌, ℕ, List, map, Option, Some, None, Result, Ok, Err, Vec, Bor, Global, sym, ◌∙◌, ap, subst}
use Rattle.std.specs.Result.{IsErrAnd}
use Rattle.std.specs.Option.{ok_or}
use Rattle.tce_grammar.specs.Formula as formulas
use Rattle.tce_grammar.specs.Tokens as tokens
use Rattle.tce_grammar.specs.Code.{Gives, token, names, formula}
use Rattle.tce_grammar.specs.ParserCode.{GivesFormula, GivesNames, tokens_if_some}
use Rattle.tce_grammar.specs.Reading.{Reads}
use Rattle.tce_grammar.specs.declared.token.Token.{Token}
use Rattle.tce_grammar.specs.declared.formula.Formula.{Formula}
use Rattle.tce_grammar.specs.declared.read_error.ReadError.{ReadError}
use Rattle.tce_grammar.specs.declared.read_error.ReadError.TheVariants.{Memory, Form}

-- the caller reads nothing where what it called reads nothing
pub gives_failed : {X Y X' Y' : Type 0} (view : X → Y) (view' : X' → Y') (r : Result X' ReadError) (e : ReadError) (read : Option Y) (read' : Option Y')
    → IsErrAnd r (λ y. y ≡ e) → Gives view (Err e) read → (read ≡ None → read' ≡ None) → Gives view' r read'
gives_failed view view' (Ok x) e read read' is given none = absurd is
gives_failed view view' (Err Memory) e read read' is given none = tt
gives_failed view view' (Err Form) e read read' is given none = none (subst (λ (y : ReadError). Gives view (Err y) read) (sym is) given)

pub gives_memory : {X Y : Type 0} (view : X → Y) (r : Result X ReadError) (read : Option Y) → IsErrAnd r (λ y. y ≡ Memory) → Gives view r read
gives_memory view (Ok x) read is = absurd is
gives_memory view (Err Memory) read is = tt
gives_memory view (Err Form) read is = cc

pub formula_failed : (r : Result (Formula × Bor (List Token)) ReadError) (e : ReadError) (read read' : Reads formulas.Formula)
    → IsErrAnd r (λ y. y ≡ e) → GivesFormula (Err e) read → (read ≡ None → read' ≡ None) → GivesFormula r read'
formula_failed r e read read' is given none = gives_failed (λ (r : Formula × Bor (List Token)). (formula r.0, map token r.1.now)) (λ (r : Formula × Bor (List Token)). (formula r.0, map token r.1.now)) r e read read' is given none

pub formula_memory : (r : Result (Formula × Bor (List Token)) ReadError) (read : Reads formulas.Formula) → IsErrAnd r (λ y. y ≡ Memory) → GivesFormula r read
formula_memory r read is = gives_memory (λ (r : Formula × Bor (List Token)). (formula r.0, map token r.1.now)) r read is

pub names_failed : (r : Result (Formula × Bor (List Token)) ReadError) (e : ReadError) (read : Reads (List (List ℕ))) (read' : Reads formulas.Formula)
    → IsErrAnd r (λ y. y ≡ e) → GivesNames (Err e) read → (read ≡ None → read' ≡ None) → GivesFormula r read'
names_failed r e read read' is given none = gives_failed (λ (r : Vec (Bor (List ℕ)) Global × Bor (List Token)). (names r.0.items, map token r.1.now)) (λ (r : Formula × Bor (List Token)). (formula r.0, map token r.1.now)) r e read read' is given none

-- where nothing is read, and no more is known of the error
pub gives_none : {X Y : Type 0} (view : X → Y) (r : Result X ReadError) (e : ReadError) (read : Option Y) → IsErrAnd r (λ y. y ≡ e) → read ≡ None → Gives view r read
gives_none view (Ok x) e read is none = absurd is
gives_none view (Err Memory) e read is none = tt
gives_none view (Err Form) e read is none = none

pub formula_none : (r : Result (Formula × Bor (List Token)) ReadError) (e : ReadError) (read : Reads formulas.Formula) → IsErrAnd r (λ y. y ≡ e) → read ≡ None → GivesFormula r read
formula_none r e read is none = gives_none (λ (r : Formula × Bor (List Token)). (formula r.0, map token r.1.now)) r e read is none

-- a symbol that does not stand ahead, and one that does
pub symbol_missing : (o : Option (Bor (List Token))) (x : Result (Bor (List Token)) ReadError) (e : ReadError) (read : Option (List tokens.Token))
    → x ≡ ok_or o Form → x ≡ Err e → tokens_if_some o ≡ read → read ≡ None
symbol_missing None x e read is err same = sym same
symbol_missing (Some rest) x e read is err same = cc

pub symbol_found : (o : Option (Bor (List Token))) (x : Result (Bor (List Token)) ReadError) (rest : Bor (List Token)) (read : Option (List tokens.Token))
    → x ≡ ok_or o Form → x ≡ Ok rest → tokens_if_some o ≡ read → read ≡ Some (map token rest.now)
symbol_found None x rest read is ok same = cc
symbol_found (Some rest') x rest read is ok same = let e : rest' ≡ rest = cc in sym same ∙ ap (λ (b : Bor (List Token)). Some (map token b.now)) e

pub names_memory : (r : Result (Vec (Bor (List ℕ)) Global × Bor (List Token)) ReadError) (read : Reads (List (List ℕ))) → IsErrAnd r (λ y. y ≡ Memory) → GivesNames r read
names_memory r read is = gives_memory (λ (r : Vec (Bor (List ℕ)) Global × Bor (List Token)). (names r.0.items, map token r.1.now)) r read is

pub alone_memory : (r : Result (Vec (Bor (List ℕ)) Global) ReadError) (read : Option (List (List ℕ))) → IsErrAnd r (λ y. y ≡ Memory) → Gives (λ (v : Vec (Bor (List ℕ)) Global). names v.items) r read
alone_memory r read is = gives_memory (λ (v : Vec (Bor (List ℕ)) Global). names v.items) r read is
