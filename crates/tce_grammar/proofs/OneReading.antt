-- A line is the one thing that is read from it.
use Rattle.std.proofs.Common.{◌≡◌, ℕ, List, [], ◌∷◌, Option, Some, None, refl, sym, ap, subst}
use Rattle.tce_grammar.specs.Lines.{without_comment}
use Rattle.tce_grammar.specs.Tokens.{Token, tokens}
use Rattle.tce_grammar.specs.Grammar.{Line, skipped, bad, says, IsLine, Statement, Says}
use Rattle.tce_grammar.specs.Reading.{statement_of, line_of_statement, line_of_tokens, line_of}
use Rattle.tce_grammar.proofs.Statements.{said_read, read_said}

statement_line : (text : List ℕ) (t : Token) (ts : List Token) (d : Option Statement) → tokens (without_comment text) ≡ Some (t ∷ ts)
    → statement_of (t ∷ ts) ≡ d → IsLine text (line_of_statement d)
statement_line text t ts None found e = λ us are.
    let same : t ∷ ts ≡ us = cc in
    ((λ none. cc), λ s said. let read : statement_of us ≡ Some s = said_read s us said in cc)
statement_line text t ts (Some s) found e = (t ∷ ts, found, read_said (t ∷ ts) s e)

tokens_line : (text : List ℕ) (d : Option (List Token)) → tokens (without_comment text) ≡ d → IsLine text (line_of_tokens d)
tokens_line text None e = λ ts are. cc
tokens_line text (Some []) e = e
tokens_line text (Some (t ∷ ts)) e = statement_line text t ts (statement_of (t ∷ ts)) e refl

pub line_is : (text : List ℕ) → IsLine text (line_of text)
unfolding line_of
line_is text = tokens_line text (tokens (without_comment text)) refl

nothing : (s : Statement) → statement_of [] ≡ Some s → ⊥
unfolding statement_of
nothing s e = cc

-- a line is one thing only
pub one_line : (text : List ℕ) (l m : Line) → IsLine text l → IsLine text m → l ≡ m
one_line text skipped skipped a b = refl
one_line text skipped bad a b = absurd ((b [] a).0 refl)
one_line text skipped (says s) a b = let same : [] ≡ b.0 = cc in let read : statement_of [] ≡ Some s = said_read s [] (subst (λ (ts : List Token). Says ts s) (sym same) b.2) in absurd (nothing s read)
one_line text bad skipped a b = absurd ((a [] b).0 refl)
one_line text bad bad a b = refl
one_line text bad (says s) a b = absurd ((a b.0 b.1).1 s b.2)
one_line text (says s) skipped a b = let same : [] ≡ a.0 = cc in let read : statement_of [] ≡ Some s = said_read s [] (subst (λ (ts : List Token). Says ts s) (sym same) a.2) in absurd (nothing s read)
one_line text (says s) bad a b = absurd ((b a.0 a.1).1 s a.2)
one_line text (says s) (says r) a b =
    let same : a.0 ≡ b.0 = cc in
    let read_s : statement_of a.0 ≡ Some s = said_read s a.0 a.2 in
    let read_r : statement_of b.0 ≡ Some r = said_read r b.0 b.2 in
    let equal : s ≡ r = cc in
    ap says equal

pub line_only : (text : List ℕ) (l : Line) → IsLine text l → l ≡ line_of text
line_only text l is = one_line text l (line_of text) is (line_is text)

pub line_read : (text : List ℕ) (l : Line) → line_of text ≡ l → IsLine text l
line_read text l same = subst (λ (m : Line). IsLine text m) same (line_is text)
