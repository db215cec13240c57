-- The produced text of many operands is longer than a text may be.
use Rattle.std.proofs.Common.{◌≡◌, ℕ, zero, suc, ◌+◌, ◌*◌, ◌/◌, ◌%◌, ◌<◌, ◌≤◌, ◌^◌, ◌==◌, Bool, true, false, nat_lt, cond, List, [], ◌∷◌, ◌++◌, codes, length, Some, Result, Err, refl, ap, ◌∙◌, arith, length-append}
use Rattle.std.proofs.lemmas.Bool.Decides.{nat_tests}
use Rattle.std.specs.Fmt.{decimal, digits, digits_onto, digit_glyph}
use Rattle.tce_grammar.specs.Tokens.{Token, symbol}
use Rattle.tce_grammar.specs.Grammar.{Statement, declaration, listed}
use Rattle.tce_grammar.specs.Printed.{Front, bracket, kind, is_spaced, spaced_text, printed_behind, token_text}
use Rattle.tce_grammar.specs.Canonical.{canonical_line, canonical_text}
use Rattle.tce_spec.specs.Faults.{Fault, too_long}
use Rattle.tce_spec.specs.TextCode.{fault_in}
use Rattle.tce_spec.specs.Specification.{Specification}
use Rattle.tce_spec.specs.Outcome.{IsOutcome, outcome}
use Rattle.tce_einsum.specs.Text.{Size, Einsum}
use Rattle.tce_einsum.specs.Path.{Item}
use Rattle.tce_einsum.specs.Entries.{numbered}
use Rattle.tce_einsum.specs.Numbered.{contraction_of}
use Rattle.tce_einsum.specs.Produced.{operand_name, operand_statement, range_statements, index_statements, tensor_statements, result_statement, formula_statement, range_names, result_name, produced_text}

onto_long : (k base n : ℕ) (acc : List ℕ) → length acc ≤ length (digits_onto k base false n acc)
onto_long zero base n acc = omega arith
onto_long (suc k) base n acc = by_test (n / base == 0) (onto_long k base (n / base) (digit_glyph false (n % base) ∷ acc))
  where
    glyphs : List ℕ
    glyphs = digit_glyph false (n % base) ∷ acc

    by_test : (b : Bool) → length glyphs ≤ length (digits_onto k base false (n / base) glyphs) → length acc ≤ length (cond b glyphs (digits_onto k base false (n / base) glyphs))
    by_test true long = omega arith
    by_test false long = omega (arith, long)

decimal_long : (n : ℕ) → 1 ≤ length (decimal n)
unfolding digits
decimal_long n = by_test (n / 10 == 0) (onto_long 63 10 (n / 10) (digit_glyph false (n % 10) ∷ []))
  where
    glyphs : List ℕ
    glyphs = digit_glyph false (n % 10) ∷ []

    by_test : (b : Bool) → length glyphs ≤ length (digits_onto 63 10 false (n / 10) glyphs) → 1 ≤ length (cond b glyphs (digits_onto 63 10 false (n / 10) glyphs))
    by_test true long = omega arith
    by_test false long = omega (arith, long)

spaced_long : (b : Bool) (t : Token) → length (token_text t) ≤ length (cond b (32 ∷ token_text t) (token_text t))
spaced_long true t = omega arith
spaced_long false t = omega arith

symbol_long : (front : Front) (ts : List Token) (b : ℕ) → 1 ≤ length (printed_behind front (ts ++ symbol b ∷ []))
symbol_long front [] b = omega (arith, length-append (spaced_text front (symbol b)) [], spaced_long (is_spaced front (kind (symbol b))) (symbol b))
symbol_long front (t ∷ ts) b = omega (arith, length-append (spaced_text front t) (printed_behind (kind t) (ts ++ symbol b ∷ [])), symbol_long (kind t) ts b)

declaration_long : (name : List ℕ) (ranges : List (List ℕ)) → 9 + length name ≤ length (canonical_line (declaration name ranges))
declaration_long name ranges =
    let rest : List ℕ = printed_behind bracket (listed ranges ++ symbol 93 ∷ []) in
    let tail = length-append (32 ∷ name) (91 ∷ rest) in
    omega (arith, tail, symbol_long bracket (listed ranges) 93)

text_joined : (xs ys : List Statement) → length (canonical_text (xs ++ ys)) ≡ length (canonical_text xs) + length (canonical_text ys)
text_joined [] ys = omega arith
text_joined (s ∷ ss) ys =
    let line : List ℕ = canonical_line s ++ 10 ∷ [] in
    omega (arith, length-append line (canonical_text (ss ++ ys)), length-append line (canonical_text ss), text_joined ss ys)

first_line : (s : Statement) (ss : List Statement) → length (canonical_text (s ∷ ss)) ≡ length (canonical_line s) + 1 + length (canonical_text ss)
first_line s ss = omega (arith, length-append (canonical_line s ++ 10 ∷ []) (canonical_text ss), length-append (canonical_line s) (10 ∷ []))

operands_long : (sizes : List Size) (k : ℕ) (operands : List (List ℕ)) → 12 * length operands ≤ length (canonical_text (numbered (operand_statement sizes) k operands))
operands_long sizes k [] = omega arith
operands_long sizes k (labels ∷ rest) =
    let name : length (operand_name k) ≡ 1 + length (decimal k) = length-append (codes "X") (decimal k) in
    omega (
      arith,
      first_line (operand_statement sizes k labels) (numbered (operand_statement sizes) (k + 1) rest),
      name,
      decimal_long k,
      declaration_long (operand_name k) (range_names sizes labels),
      operands_long sizes (k + 1) rest,
    )

tensors_long : (x : Einsum) → 12 * length x.operands + 11 ≤ length (canonical_text (tensor_statements x))
tensors_long x =
    let one : length result_name ≡ 1 = refl in
    omega (
      arith,
      one,
      text_joined (numbered (operand_statement x.sizes) 0 x.operands) (result_statement x ∷ []),
      operands_long x.sizes 0 x.operands,
      first_line (result_statement x) [],
      declaration_long result_name (range_names x.sizes x.output),
    )

text_long : (x : Einsum) (items : List Item) → 5460 < length x.operands → 2 ^ 16 < length (produced_text x items)
text_long x items many =
    let f : Statement = formula_statement x (contraction_of x items) in
    let ts : List Statement = tensor_statements x in
    omega (
      arith,
      many,
      tensors_long x,
      text_joined (range_statements x.sizes) (index_statements x.sizes ++ (ts ++ f ∷ [])),
      text_joined (index_statements x.sizes) (ts ++ f ∷ []),
      text_joined ts (f ∷ []),
    )

-- its fault
pub many_are_too_long : (x : Einsum) (items : List Item) (found : Result Specification Fault) → 5460 < length x.operands
    → IsOutcome (produced_text x items) found → fault_in found ≡ Some too_long
many_are_too_long x items found many is =
    ap fault_in (is.same ∙ ap (λ (b : Bool). cond b (Err too_long) (outcome is.of_lines)) (long (length (produced_text x items)) (text_long x items many)))
  where
    long : (n : ℕ) → 2 ^ 16 < n → nat_lt (2 ^ 16) n ≡ true
    long n h = grind (arith, nat_tests)
