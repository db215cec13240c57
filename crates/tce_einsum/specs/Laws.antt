-- Laws of the text of an einsum.
use Rattle.std.specs.Prelude.{◌≡◌, ◌↔◌, ℕ, List}
use Rattle.std.specs.declared.option.Option.TheVariants.{Some}
use Rattle.tce_einsum.specs.Text.{Einsum, IsText}
use Rattle.tce_einsum.specs.Reading.{einsum_of}

-- what is read from the left is what the grammar says, and nothing else
abbrev pub ReadingIsTheGrammar : Type 0
ReadingIsTheGrammar = (text : List ℕ) (e : Einsum) → (einsum_of text ≡ Some e) ↔ IsText text e

-- a text has one reading at most
abbrev pub TextsHaveOneReading : Type 0
TextsHaveOneReading = (text : List ℕ) (a b : Einsum) → IsText text a → IsText text b → a ≡ b
