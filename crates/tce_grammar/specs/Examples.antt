-- Lines that were read by hand, and what they are.
use Rattle.std.specs.Prelude.{◌≡◌, ℕ, List, [], ◌∷◌, ◌++◌, codes, replicate}
use Rattle.std.specs.declared.option.Option.TheVariants.{Some, None}
use Rattle.std.specs.List.{AllByRecursion}
use Rattle.tce_grammar.specs.Lines.{lines}
use Rattle.tce_grammar.specs.Formula.{multiply, add, subtract, tensor, constant, sum, binary}
use Rattle.tce_grammar.specs.Grammar.{Line, skipped, bad, says, IsLine, Statement, range, index, declaration, formula}
use Rattle.tce_grammar.specs.Canonical.{canonical_line}

pub record Example : Type 0 where
  pub text : List ℕ
  pub of_line : Line

abbrev example : List ℕ → Line → Example
example text of_line = record { text = text; of_line = of_line }

abbrev pub examples : List Example
examples =
    example (codes "") skipped ∷
    example (codes " \t ") skipped ∷
    example (codes "# range N 2") skipped ∷
    example (codes "range N 2") (says (range (codes "N") (codes "2") None)) ∷
    example (codes " range\tN 2 # two") (says (range (codes "N") (codes "2") None)) ∷
    example (codes "range N 2#\r") (says (range (codes "N") (codes "2") None)) ∷
    example (codes "range N 5 tile 2") (says (range (codes "N") (codes "5") (Some (codes "2")))) ∷
    example (codes "range N 007") (says (range (codes "N") (codes "007") None)) ∷
    example (codes "range abcdefghijklmnop 2") (says (range (codes "abcdefghijklmnop") (codes "2") None)) ∷
    example (codes "range N_2 2") (says (range (codes "N_2") (codes "2") None)) ∷
    example (codes "range abcdefghijklmnopq 2") bad ∷
    example (codes "range tile 2") bad ∷
    example (codes "range N 2tile 1") bad ∷
    example (codes "range N 2 tile") bad ∷
    example (codes "range N") bad ∷
    example (codes "range N 2 edge 1") bad ∷
    example (codes "range N -2") bad ∷
    example (codes "range 2N 2") bad ∷
    example (codes "range _N 2") bad ∷
    example (codes "Range N 2") bad ∷
    example (codes "range N 2\r") bad ∷
    example (codes "range N; 2") bad ∷
    example (codes "index N i j") (says (index (codes "N") (codes "i" ∷ codes "j" ∷ []))) ∷
    example (codes "index N sums") (says (index (codes "N") (codes "sums" ∷ []))) ∷
    example (codes "index N") bad ∷
    example (codes "index N i,j") bad ∷
    example (codes "index N sum") bad ∷
    example (codes "tensor A[N,M]") (says (declaration (codes "A") (codes "N" ∷ codes "M" ∷ []))) ∷
    example (codes "tensor A [ N , M ] ") (says (declaration (codes "A") (codes "N" ∷ codes "M" ∷ []))) ∷
    example (codes "tensor A[]") (says (declaration (codes "A") ([]))) ∷
    example (codes "tensor A") bad ∷
    example (codes "tensor A[N,]") bad ∷
    example (codes "tensor A[N] B[N]") bad ∷
    example (codes "tensor A[2]") bad ∷
    example (codes "tensor range[N]") bad ∷
    example (codes "C[i,j] = A[i] * B[j]") (says (formula (codes "C") (codes "i" ∷ codes "j" ∷ []) (binary multiply (tensor (codes "A") (codes "i" ∷ [])) (tensor (codes "B") (codes "j" ∷ []))))) ∷
    example (codes "C[i,j]=A[i]*B[j]") (says (formula (codes "C") (codes "i" ∷ codes "j" ∷ []) (binary multiply (tensor (codes "A") (codes "i" ∷ [])) (tensor (codes "B") (codes "j" ∷ []))))) ∷
    example (codes "C[i,j] = ((A[i]) * B[j])") (says (formula (codes "C") (codes "i" ∷ codes "j" ∷ []) (binary multiply (tensor (codes "A") (codes "i" ∷ [])) (tensor (codes "B") (codes "j" ∷ []))))) ∷
    example (codes "C[] = 2 + 3 - 4") (says (formula (codes "C") ([]) (binary subtract (binary add (constant (codes "2")) (constant (codes "3"))) (constant (codes "4"))))) ∷
    example (codes "C[] = 2 - 3 * 4 * 5") (says (formula (codes "C") ([]) (binary subtract (constant (codes "2")) (binary multiply (binary multiply (constant (codes "3")) (constant (codes "4"))) (constant (codes "5")))))) ∷
    example (codes "C[] = 2 - (3 - 4)") (says (formula (codes "C") ([]) (binary subtract (constant (codes "2")) (binary subtract (constant (codes "3")) (constant (codes "4")))))) ∷
    example (codes "C[i] = sum{k,l}(A[i,k] * B[k,l])") (says (formula (codes "C") (codes "i" ∷ []) (sum (codes "k" ∷ codes "l" ∷ []) (binary multiply (tensor (codes "A") (codes "i" ∷ codes "k" ∷ [])) (tensor (codes "B") (codes "k" ∷ codes "l" ∷ [])))))) ∷
    example (codes "C[] = sum{}(2)") bad ∷
    example (codes "C[] = sum{k} A[k]") bad ∷
    example (codes "C[] = - 2") bad ∷
    example (codes "C[] = 2 - - 3") bad ∷
    example (codes "C[] = 2A[i]") bad ∷
    example (codes "C[] = 2 *") bad ∷
    example (codes "C[] = (2") bad ∷
    example (codes "C[] = 2)") bad ∷
    example (codes "C[] =") bad ∷
    example (codes "C[] == 2") bad ∷
    example (codes "sum[] = 2") bad ∷
    example (codes "C[sum] = 2") bad ∷
    example (codes "C = 2") bad ∷
    example (codes "C[] = " ++ (replicate 64 40 ++ (codes "2" ++ replicate 64 41))) (says (formula (codes "C") ([]) (constant (codes "2")))) ∷
    example (codes "C[] = " ++ (replicate 65 40 ++ (codes "2" ++ replicate 65 41))) bad ∷
    example (codes "C[] = " ++ (replicate 64 40 ++ (codes "2" ++ (replicate 64 41 ++ codes " * ((3))")))) (says (formula (codes "C") ([]) (binary multiply (constant (codes "2")) (constant (codes "3"))))) ∷
    []

abbrev pub ExamplesAreTheirLines : Type 0
ExamplesAreTheirLines = AllByRecursion (λ (e : Example). IsLine e.text e.of_line) examples

-- the lines of texts
pub record TextExample : Type 0 where
  pub text : List ℕ
  pub of_lines : List (List ℕ)

abbrev text_example : List ℕ → List (List ℕ) → TextExample
text_example text of_lines = record { text = text; of_lines = of_lines }

abbrev pub text_examples : List TextExample
text_examples =
    text_example (codes "") ([]) ∷
    text_example (codes "\n") (codes "" ∷ []) ∷
    text_example (codes "a\nb") (codes "a" ∷ codes "b" ∷ []) ∷
    text_example (codes "a\nb\n") (codes "a" ∷ codes "b" ∷ []) ∷
    text_example (codes "a\r\nb\r") (codes "a" ∷ codes "b\r" ∷ []) ∷
    text_example (codes "a\r\r\n") (codes "a\r" ∷ []) ∷
    text_example (codes "a\rb\n\r\n") (codes "a\rb" ∷ codes "" ∷ []) ∷
    text_example (codes " \n#") (codes " " ∷ codes "#" ∷ []) ∷
    []

abbrev pub TextExamplesHaveTheirLines : Type 0
TextExamplesHaveTheirLines = AllByRecursion (λ (e : TextExample). lines e.text ≡ e.of_lines) text_examples

-- lines, what they say, and their canonical text
pub record CanonicalExample : Type 0 where
  pub text : List ℕ
  pub of_line : Statement
  pub canonical : List ℕ

abbrev canonical_example : List ℕ → Statement → List ℕ → CanonicalExample
canonical_example text of_line canonical = record { text = text; of_line = of_line; canonical = canonical }

abbrev pub canonical_examples : List CanonicalExample
canonical_examples =
    canonical_example (codes "range\tN 5   tile 2") (range (codes "N") (codes "5") (Some (codes "2"))) (codes "range N 5 tile 2") ∷
    canonical_example (codes "index  N i  j") (index (codes "N") (codes "i" ∷ codes "j" ∷ [])) (codes "index N i j") ∷
    canonical_example (codes "tensor A [ N , M ]") (declaration (codes "A") (codes "N" ∷ codes "M" ∷ [])) (codes "tensor A[N,M]") ∷
    canonical_example (codes "C[i,j]=A[i]*B[j]") (formula (codes "C") (codes "i" ∷ codes "j" ∷ []) (binary multiply (tensor (codes "A") (codes "i" ∷ [])) (tensor (codes "B") (codes "j" ∷ [])))) (codes "C[i,j] = A[i] * B[j]") ∷
    canonical_example (codes "C[]=((A[i]*2)*3)+((4*B[j])-1)+(7)") (formula (codes "C") ([]) (binary add (binary add (binary multiply (binary multiply (tensor (codes "A") (codes "i" ∷ [])) (constant (codes "2"))) (constant (codes "3"))) (binary subtract (binary multiply (constant (codes "4")) (tensor (codes "B") (codes "j" ∷ []))) (constant (codes "1")))) (constant (codes "7")))) (codes "C[] = A[i] * 2 * 3 + (4 * B[j] - 1) + 7") ∷
    canonical_example (codes "C[]=A[i]+2-(3-B[j])*(4*(5*6))") (formula (codes "C") ([]) (binary subtract (binary add (tensor (codes "A") (codes "i" ∷ [])) (constant (codes "2"))) (binary multiply (binary subtract (constant (codes "3")) (tensor (codes "B") (codes "j" ∷ []))) (binary multiply (constant (codes "4")) (binary multiply (constant (codes "5")) (constant (codes "6"))))))) (codes "C[] = A[i] + 2 - (3 - B[j]) * (4 * (5 * 6))") ∷
    canonical_example (codes "C[i]=(sum{k}(A[i,k]))*sum{l,m}((2))") (formula (codes "C") (codes "i" ∷ []) (binary multiply (sum (codes "k" ∷ []) (tensor (codes "A") (codes "i" ∷ codes "k" ∷ []))) (sum (codes "l" ∷ codes "m" ∷ []) (constant (codes "2"))))) (codes "C[i] = sum{k}(A[i,k]) * sum{l,m}(2)") ∷
    []

abbrev pub CanonicalExamplesArePrinted : Type 0
CanonicalExamplesArePrinted =
    AllByRecursion (λ (e : CanonicalExample). IsLine e.text (says e.of_line) × (canonical_line e.of_line ≡ e.canonical)) canonical_examples
