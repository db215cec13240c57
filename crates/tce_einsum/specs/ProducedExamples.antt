-- Einsums and paths, and the texts that they produce, written by hand.
use Rattle.std.specs.Prelude.{◌≡◌, ℕ, List, [], ◌∷◌, codes, Option}
use Rattle.std.specs.declared.option.Option.TheVariants.{Some, None}
use Rattle.std.specs.List.{AllByRecursion}
use Rattle.std.specs.Str.{byte}
use Rattle.tce_einsum.specs.Text.{Size, Einsum, text_of}
use Rattle.tce_einsum.specs.Path.{Item, two}
use Rattle.tce_einsum.specs.Produced.{produced_text}

pub record Example : Type 0 where
  pub text : List ℕ
  pub of_text : Einsum
  pub items : List Item
  pub produced : List ℕ

abbrev size : ℕ → List ℕ → Option (List ℕ) → Size
size label extent edge = record { label = label; extent = extent; edge = edge }

abbrev example : List ℕ → List (List ℕ) → List ℕ → List Size → List Item → List ℕ → Example
example text operands output sizes items produced =
    record { text = text; of_text = record { operands = operands; output = output; sizes = sizes }; items = items; produced = produced }

-- a product of matrices; a chain of three from its end, with two ranges; three operands of which two have a product on the right
abbrev pub examples : List Example
examples =
    example (codes "ik,kj->ij@i=2,k=2,j=2") (codes "ik" ∷ codes "kj" ∷ []) (codes "ij")
    (size (byte "i") (codes "2") None ∷ size (byte "k") (codes "2") None ∷ size (byte "j") (codes "2") None ∷ [])
    (two 0 1 ∷ [])
    (codes "range N0 2\nindex N0 i k j\ntensor X0[N0,N0]\ntensor X1[N0,N0]\ntensor Y[N0,N0]\nY[i,j] = sum{k}(X0[i,k] * X1[k,j])\n") ∷
    example (codes "ij,jk,kl->il@j=3/1,k=3,i=5/2,l=3") (codes "ij" ∷ codes "jk" ∷ codes "kl" ∷ []) (codes "il")
    (size (byte "j") (codes "3") (Some (codes "1")) ∷ size (byte "k") (codes "3") None ∷ size (byte "i") (codes "5") (Some (codes "2")) ∷ size (byte "l") (codes "3") None ∷ [])
    (two 1 2 ∷ two 0 1 ∷ [])
    (codes "range N0 3\nrange N1 5 tile 2\nindex N0 j k\nindex N1 i\nindex N0 l\ntensor X0[N1,N0]\ntensor X1[N0,N0]\ntensor X2[N0,N0]\ntensor Y[N1,N0]\nY[i,l] = sum{j}(X0[i,j] * sum{k}(X1[j,k] * X2[k,l]))\n") ∷
    example (codes "i,,i->@i=4") (codes "i" ∷ codes "" ∷ codes "i" ∷ []) (codes "")
    (size (byte "i") (codes "4") None ∷ [])
    (two 1 2 ∷ two 0 1 ∷ [])
    (codes "range N0 4\nindex N0 i\ntensor X0[N0]\ntensor X1[]\ntensor X2[N0]\ntensor Y[]\nY[] = sum{i}(X0[i] * (X1[] * X2[i]))\n") ∷
    []

abbrev pub ExamplesProduceTheirTexts : Type 0
ExamplesProduceTheirTexts =
    AllByRecursion (λ (e : Example). (text_of e.of_text ≡ e.text) × (produced_text e.of_text e.items ≡ e.produced)) examples
